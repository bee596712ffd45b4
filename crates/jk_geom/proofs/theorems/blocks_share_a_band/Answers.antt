use Rattle.jk_geom.proofs.BlockLaws.{blocks_cover, blocks_one, blocks_inside, blocks_some}
use Rattle.jk_geom.proofs.theorems.blocks_share_a_band.Goals as goal

pub returns : goal.returns
returns c = record { cover = blocks_cover; one = blocks_one; inside = blocks_inside; some = blocks_some }
