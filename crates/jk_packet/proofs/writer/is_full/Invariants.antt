use Rattle.std.proofs.Common.{◌≡◌, false, take}
use Rattle.std.specs.List.{list_any}
use Rattle.jk_packet.specs.Written.{has_passes}
use Rattle.jk_packet.proofs.writer.is_full.Given as goal

abbrev pub invariant-loop-table : goal.invariant-loop-table
invariant-loop-table l = list_any (has_passes l.layer) (take l.table-index l.tables) ≡ false
