use Rattle.jk_geom.proofs.TileLaws.{tile_covers, tile_one, tile_inside}
use Rattle.jk_geom.proofs.theorems.tiles_share_the_image.Goals as goal

pub returns : goal.returns
returns c = record { cover = tile_covers; one = tile_one; inside = tile_inside }
