use Rattle.std.proofs.Common.{◌≡◌, ◌++◌, take}
use Rattle.std.specs.List.{flat_map}
use Rattle.jk_packet.specs.Written.{Table, part_in}
use Rattle.jk_packet.proofs.writer.push_bodies.Given as goal

abbrev pub invariant-loop-table : goal.invariant-loop-table
invariant-loop-table l = l.out.items ≡ l.fn.out.items ++ flat_map (λ (t : Table). (part_in t l.layer).1) (take l.table-index l.tables)
