use Rattle.std.proofs.Common.{length}
use Rattle.jk_tile.specs.decoding.Decoded.{AreSegments}
use Rattle.jk_code.proofs.rows_with.stripe_blocks.Given as goal

abbrev pub invariant-loop-k : goal.invariant-loop-k
invariant-loop-k l = AreSegments (length l.coded.bytes) l.segments.items
