use Rattle.std.proofs.Common.{◌≡◌, take, map}
use Rattle.jk_packet.specs.Written.{Table, first_in}
use Rattle.jk_packet.proofs.writing.first_layers.Given as goal

abbrev pub invariant-loop-table : goal.invariant-loop-table
invariant-loop-table l = l.firsts.items ≡ map (λ (t : Table). first_in t.parts) (take l.table-index l.tables)
