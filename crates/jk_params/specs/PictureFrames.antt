-- The frame of an image: where it lies, how large it is, and what its samples are.
use Rattle.std.specs.Prelude.{◌≤◌, length}
use Rattle.jk_math.specs.Picture.{Picture, IsFrame}
use Rattle.jk_params.specs.declared.picture_frame.PictureFrame.{PictureFrame}

-- that of a picture
abbrev pub frame_of : Picture → PictureFrame
frame_of p = record {
  x0 = p.x0;
  y0 = p.y0;
  width = p.width;
  height = p.height;
  components = length p.planes;
  depth = p.depth;
  signed = p.signed;
}

-- a frame that a picture of the profile may have
pub record IsPictureFrame (f : PictureFrame) : Type 0 where
  pub frame : IsFrame f.x0 f.y0 f.width f.height
  pub some_bits : 1 ≤ f.depth
  pub few_bits : f.depth ≤ 16
  pub some : 1 ≤ f.components
  pub few : f.components ≤ 4
