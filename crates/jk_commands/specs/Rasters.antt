-- The frame of the raster of a picture.
use Rattle.std.specs.Prelude.{◌≡◌, length}
use Rattle.jk_math.specs.Picture.{Picture}
use Rattle.jk_pnm.specs.declared.rasters.RasterFrame.{RasterFrame}

-- the frame has the size, the depth, the sign and the number of components of a picture
pub record IsRasterFrameOf (f : RasterFrame) (p : Picture) : Type 0 where
  pub components : f.components ≡ length p.planes
  pub signed : f.signed ≡ p.signed
  pub width : f.width ≡ p.width
  pub height : f.height ≡ p.height
  pub depth : f.depth ≡ p.depth
