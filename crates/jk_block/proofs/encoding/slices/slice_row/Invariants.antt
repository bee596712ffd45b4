use Rattle.std.proofs.Common.{◌≡◌, ◌+◌, ◌*◌, length}
use Rattle.jk_scan.specs.Flags.{across}
use Rattle.jk_block.specs.Meaning.{value_in}
use Rattle.jk_block.specs.encoding.Slices.{IsSlicedTo}
use Rattle.jk_block.proofs.encoding.slices.slice_row.Given as goal

abbrev pub invariant-loop-word : goal.invariant-loop-word
invariant-loop-word l = IsSlicedTo l.shape l.shift (value_in l.shape l.values) (l.row * across l.shape + l.word) l.slices × (length l.slices ≡ length l.fn.slices)
