use Rattle.std.proofs.Common.{length}
use Rattle.jk_tile.specs.decoding.Decoded.{AreSegments}
use Rattle.jk_rows.proofs.component.ComponentRows.add_blocks.Given as goal

abbrev pub invariant-loop-q : goal.invariant-loop-q
invariant-loop-q l = AreSegments (length l.source.bytes) l.fn.segments.items → AreSegments (length l.source.bytes) l.segments.items
