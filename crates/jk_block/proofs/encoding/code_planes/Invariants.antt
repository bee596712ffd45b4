use Rattle.std.proofs.Common.{◌+◌, ◌-◌, ◌*◌, ◌/◌}
use Rattle.std.specs.Prelude.{nat_lt}
use Rattle.jk_scan.specs.Flags.{IsDrawn}
use Rattle.jk_block.specs.Ages.{HasRoom}
use Rattle.jk_block.specs.Meaning.{plane_at, value_in}
use Rattle.jk_block.specs.CodedBlocks.{HasCodedPasses}
use Rattle.jk_block.specs.encoding.Slices.{IsSliced}
use Rattle.jk_block.specs.encoding.Viewed.{IsSignificantUpto}
use Rattle.jk_block.proofs.encoding.code_planes.Given as goal

abbrev pub invariant-loop-above : goal.invariant-loop-above
invariant-loop-above g l = record {
  coded : HasCodedPasses l.fn.shape l.fn.planes (3 * l.above - 2) (value_in l.fn.shape l.values) l.encoder l.marks.items;
  known_significant : IsSignificantUpto l.fn.shape (l.fn.planes - l.above) (value_in l.fn.shape l.values) l.flags;
  sliced : IsSliced l.fn.shape ((l.fn.planes - l.above) / 8 * 8) (value_in l.fn.shape l.values) l.slices;
  older : IsDrawn l.fn.shape (λ x y. nat_lt 0 ((plane_at l.fn.shape (l.fn.planes - l.above + 1) (value_in l.fn.shape l.values)).magnitude x y)) l.ages.older;
  room : HasRoom l.fn.shape l.ages;
}
