use Rattle.std.proofs.Common.{◌≡◌, ◌-◌, ◌≤◌, ◌++◌, length}
use Rattle.jk_window.specs.Framing.{walked, head_alone, segments_alone}
use Rattle.jk_window.proofs.around.read_parts.Given as goal

abbrev pub invariant-loop : goal.invariant-loop
invariant-loop l = record {
  end_is : l.end ≡ length l.bytes;
  within : l.at ≤ length l.bytes;
  heads : l.heads.items ++ walked head_alone (l.end - l.counter) l.bytes l.headers l.at ≡ l.initial.heads.items ++ walked head_alone (length l.bytes) l.bytes l.headers l.start;
  segments : l.segments.items ++ walked segments_alone (l.end - l.counter) l.bytes l.headers l.at ≡ l.initial.segments.items ++ walked segments_alone (length l.bytes) l.bytes l.headers l.start;
}
