use Rattle.std.proofs.Common.{◌-◌, ℕ, List}
use Rattle.jk_math.specs.Lists.{lists_of}
use Rattle.jk_tile.proofs.encoding.WritingTile.{IsWritingTile}
use Rattle.jk_tile.proofs.encoding.packets.pass_packets.Given as goal

abbrev pub invariant-loop-number : goal.invariant-loop-number
invariant-loop-number g l = (text : List ℕ) × g.S.TextSink.took l.initial.sink text l.sink × IsWritingTile l.frame.shape.now l.frame.coding.now l.frame.markers.sop l.frame.markers.eph (lists_of l.tables) l.packets l.slots.items text l.number (l.number-end - l.number)
