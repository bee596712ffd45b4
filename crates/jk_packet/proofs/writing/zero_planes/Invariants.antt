use Rattle.std.proofs.Common.{◌≡◌, take, map}
use Rattle.jk_packet.specs.Written.{Table}
use Rattle.jk_packet.proofs.writing.zero_planes.Given as goal

abbrev pub invariant-loop-table : goal.invariant-loop-table
invariant-loop-table l = l.planes.items ≡ map (λ (t : Table). t.zero_planes) (take l.table-index l.tables)
