use Rattle.jk_window.proofs.TileAgain.{tile_again}
use Rattle.jk_window.proofs.theorems.emptied_tiles_are_tiles.Goals as goal

pub returns : goal.returns
returns c = tile_again
