use Rattle.std.proofs.Common.{length}
use Rattle.jk_tile.specs.decoding.Decoded.{AreSegments}
use Rattle.jk_tile.proofs.decoding.ahead.add_row_blocks.Given as goal

abbrev pub invariant-loop-k : goal.invariant-loop-k
invariant-loop-k l = AreSegments (length l.source.bytes) l.fn.segments.items → AreSegments (length l.source.bytes) l.segments.items
