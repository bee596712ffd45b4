use Rattle.std.proofs.Common.{◌≡◌, ◌+◌, ◌-◌, ◌≤◌, ◌++◌, length, drop}
use Rattle.jk_math.specs.Front.{IsFront}
use Rattle.jk_marks.specs.Copying.{kept_at, size_at}
use Rattle.jk_marks.proofs.copying.copy_segments.Given as goal

abbrev pub invariant-loop : goal.invariant-loop
invariant-loop l = record {
  end_is : l.end ≡ length l.bytes;
  within : l.at ≤ length l.bytes;
  left : l.out.items ++ kept_at (l.end - l.counter) l.last l.left_out (drop l.at l.bytes) ≡ l.initial.out.items ++ kept_at (length l.bytes) l.last l.left_out l.bytes;
  size : l.at + size_at (l.end - l.counter) l.last (drop l.at l.bytes) ≡ size_at (length l.bytes) l.last l.bytes;
  front : IsFront l.initial.out.items l.out.items;
}
