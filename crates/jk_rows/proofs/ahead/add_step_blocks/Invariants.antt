use Rattle.std.proofs.Common.{◌-◌, length}
use Rattle.jk_tile.specs.decoding.Decoded.{AreSegments}
use Rattle.jk_rows.proofs.ahead.add_step_blocks.Given as goal

abbrev pub invariant-loop-from : goal.invariant-loop-from
invariant-loop-from l = AreSegments (length l.source.bytes) l.fn.segments.items → AreSegments (length l.source.bytes) l.segments.items

abbrev pub decreases-loop-from : goal.decreases-loop-from
decreases-loop-from l = l.end - l.from
