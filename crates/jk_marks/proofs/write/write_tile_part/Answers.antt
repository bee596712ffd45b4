use Rattle.std.proofs.Common.{arith, refl, ◌∙◌}
use Rattle.jk_marks.proofs.WrittenMeans.{part_written}
use Rattle.jk_marks.proofs.write.write_tile_part.Goals as goal

pub returns-clause-ok : goal.returns-clause-ok
returns-clause-ok c = c.in_ok-extend_from_slice.ensures.items ∙ c.in_ok-write_part_head.ensures.ok c.args.content.now refl

pub returns-clause-means : goal.returns-clause-means
returns-clause-means c = λ siz lt. part_written siz c.args.tile c.args.content.now (omega (arith, c.in_ok-write_part_head.ensures.fits)) (omega (arith, c.in_ok-write_part_head.ensures.fits)) lt
