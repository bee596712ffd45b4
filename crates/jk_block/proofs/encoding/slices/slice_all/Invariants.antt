use Rattle.std.proofs.Common.{◌≡◌, ◌*◌, length}
use Rattle.jk_scan.specs.Flags.{across}
use Rattle.jk_block.specs.Meaning.{value_in}
use Rattle.jk_block.specs.encoding.Slices.{IsSlicedTo}
use Rattle.jk_block.proofs.encoding.slices.slice_all.Given as goal

abbrev pub invariant-loop-row : goal.invariant-loop-row
invariant-loop-row l = IsSlicedTo l.shape l.shift (value_in l.shape l.values) (l.row * across l.shape) l.slices × (length l.slices ≡ length l.fn.slices)
