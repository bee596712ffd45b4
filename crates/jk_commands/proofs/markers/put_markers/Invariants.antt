use Rattle.std.proofs.Common.{◌≡◌, ◌-◌, ◌≤◌, ◌++◌, length, drop}
use Rattle.jk_commands.specs.HeaderMarkers.{markers_from}
use Rattle.jk_commands.proofs.markers.put_markers.Given as goal

abbrev pub invariant-loop : goal.invariant-loop
invariant-loop l = record {
  end_is : l.end ≡ length l.bytes;
  within : l.at ≤ length l.bytes;
  left : l.markers.items ++ markers_from (l.end - l.counter) l.last (drop l.at l.bytes) ≡ l.initial.markers.items ++ markers_from (length l.bytes) l.last l.bytes;
}
