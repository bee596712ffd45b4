use Rattle.std.proofs.Common.{length}
use Rattle.jk_tile.specs.decoding.Decoded.{AreSegments}
use Rattle.jk_tile.proofs.decoding.jobs.add_some_blocks.Given as goal

abbrev pub invariant-loop-j : goal.invariant-loop-j
invariant-loop-j l = AreSegments (length l.source.bytes) l.fn.segments.items → AreSegments (length l.source.bytes) l.segments.items
