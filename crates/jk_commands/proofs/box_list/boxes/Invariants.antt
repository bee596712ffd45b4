use Rattle.std.proofs.Common.{◌≡◌, ◌-◌, ◌≤◌, ◌++◌, length, drop}
use Rattle.jk_commands.specs.BoxList.{boxes_from}
use Rattle.jk_commands.proofs.box_list.boxes.Given as goal

abbrev pub invariant-loop : goal.invariant-loop
invariant-loop l = record {
  end_is : l.end ≡ length l.file;
  within : l.at ≤ length l.file;
  left : l.boxes.items ++ boxes_from (l.end - l.counter) (drop l.at l.file) ≡ boxes_from (length l.file) l.file;
}
