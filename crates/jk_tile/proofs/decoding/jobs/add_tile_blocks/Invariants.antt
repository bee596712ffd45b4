use Rattle.std.proofs.Common.{length}
use Rattle.jk_tile.specs.decoding.Decoded.{AreSegments}
use Rattle.jk_tile.proofs.decoding.jobs.add_tile_blocks.Given as goal

abbrev pub invariant-loop-c : goal.invariant-loop-c
invariant-loop-c l = AreSegments (length l.coded.bytes) l.fn.segments.items → AreSegments (length l.coded.bytes) l.segments.items
