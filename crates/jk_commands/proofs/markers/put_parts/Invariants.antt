use Rattle.std.proofs.Common.{◌≡◌, ◌+◌, ◌-◌, ◌≤◌, ◌++◌, length, drop}
use Rattle.std.specs.List.{flat_map}
use Rattle.jk_commands.specs.HeaderMarkers.{part_markers, parts_from}
use Rattle.jk_commands.proofs.markers.put_parts.Given as goal

abbrev pub invariant-loop : goal.invariant-loop
invariant-loop l = record {
  end_is : l.end ≡ length l.bytes;
  within : l.at ≤ length l.bytes;
  few : l.count ≤ l.at;
  left : l.markers.items ++ flat_map part_markers (parts_from (l.end - l.counter) (drop l.at l.bytes)) ≡ l.initial.markers.items ++ flat_map part_markers (parts_from (length l.bytes) l.bytes);
  count : l.count + length (parts_from (l.end - l.counter) (drop l.at l.bytes)) ≡ length (parts_from (length l.bytes) l.bytes);
}
