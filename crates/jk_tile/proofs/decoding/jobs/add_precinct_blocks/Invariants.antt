use Rattle.std.proofs.Common.{length}
use Rattle.jk_tile.specs.decoding.Decoded.{AreSegments}
use Rattle.jk_tile.proofs.decoding.jobs.add_precinct_blocks.Given as goal

abbrev pub invariant-loop-i : goal.invariant-loop-i
invariant-loop-i l = AreSegments (length l.source.bytes) l.fn.segments.items → AreSegments (length l.source.bytes) l.segments.items
