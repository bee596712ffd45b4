use Rattle.std.proofs.Common.{length}
use Rattle.jk_tile.specs.decoding.Decoded.{AreSegments}
use Rattle.jk_rows.proofs.climbing.ClimbingTile.add_blocks.Given as goal

abbrev pub invariant-loop-c : goal.invariant-loop-c
invariant-loop-c l = AreSegments (length l.coded.bytes) l.fn.segments.items → AreSegments (length l.coded.bytes) l.segments.items
