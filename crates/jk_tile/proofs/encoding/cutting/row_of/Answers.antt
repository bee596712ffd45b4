use Rattle.std.proofs.Common.{arith}
use Rattle.jk_tile.proofs.encoding.Copying.{start_inside}
use Rattle.jk_tile.proofs.encoding.cutting.row_of.Goals as goal

pub cut-requires : goal.cut-requires
cut-requires c = let inside = start_inside c.args.area.now c.args.part.now c.args.row c.requires.part c.requires.row in omega (arith, inside, c.requires.whole)
