use Rattle.std.proofs.Common.{length}
use Rattle.jk_packet.specs.Written.{AreEnds}
use Rattle.vectors_packet.proofs.writing.table_with.Given as goal

abbrev pub invariant-loop-part : goal.invariant-loop-part
invariant-loop-part g l = AreEnds 0 l.parts.items (length l.bytes.items)
