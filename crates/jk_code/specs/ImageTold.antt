-- An image in memory whose tiles are coded one by one.
use Rattle.std.specs.Prelude.{◌≡◌}
use Rattle.jk_math.specs.Picture.{Picture, IsPicture}
use Rattle.jk_tile.specs.encoding.PacketsWritten.{written_coding}
use Rattle.jk_params.specs.PictureFrames.{frame_of}
use Rattle.jk_code.specs.ComingRows.{IsComing}
use Rattle.jk_code.specs.declared.image_tiles.ImageTiles.{ImageTiles}

-- The tiles are those of this picture.
pub record AreTilesOf (s : ImageTiles) (p : Picture) : Type 0 where
  pub coming : IsComing s.coming
  pub picture : IsPicture p
  pub image : s.image.now ≡ p
  pub frame : frame_of p ≡ s.coming.frame
  pub coding : s.coding.now ≡ written_coding p s.coming.parameters.now
