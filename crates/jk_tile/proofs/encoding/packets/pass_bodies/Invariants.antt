use Rattle.std.proofs.Common.{take}
use Rattle.std.specs.List.{flat_map}
use Rattle.jk_packet.specs.Written.{part_in}
use Rattle.jk_tile.proofs.encoding.packets.pass_bodies.Given as goal

-- the bodies of the tables before
abbrev pub invariant-loop-table : goal.invariant-loop-table
invariant-loop-table g l = g.S.TextSink.took l.fn.sink (flat_map (λ t. (part_in t l.layer).1) (take l.table-index l.tables)) l.sink
