use Rattle.std.proofs.Common.{◌+◌, ◌-◌, ◌*◌}
use Rattle.jk_scan.specs.Moments.{visits}
use Rattle.jk_block.specs.Meaning.{value_in}
use Rattle.jk_block.specs.CodedBlocks.{HasCodedPasses}
use Rattle.jk_block.specs.encoding.Viewed.{IsFlagged}
use Rattle.jk_block.proofs.encoding.code_plane.Given as goal

abbrev pub invariant-loop-n : goal.invariant-loop-n
invariant-loop-n l =
    HasCodedPasses l.fn.block.shape l.fn.planes l.n (value_in l.fn.block.shape l.fn.block.values.now) l.encoder l.marks.items × IsFlagged l.fn.block ((l.n + 2 - 3 * l.fn.above) * visits l.fn.block.shape) l.flags
