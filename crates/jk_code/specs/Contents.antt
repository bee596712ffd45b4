-- What a file is written from: the frame of its image, and what gives the data of its tiles.
use Rattle.std.specs.Prelude.{◌≡◌}
use Rattle.jk_math.specs.Picture.{Picture, IsPicture}
use Rattle.jk_params.specs.declared.parameters.Parameters.{Parameters}
use Rattle.jk_params.specs.Profile.{IsWrittenBy}
use Rattle.jk_tile.specs.encoding.Needs.{exponents_for}
use Rattle.jk_params.specs.PictureFrames.{frame_of}
use Rattle.jk_code.specs.declared.contents.WrittenFrame.{WrittenFrame}

-- The frame is that of this picture, which the parameters allow, and the exponents are those that
-- its sub-bands need.
pub record HasPicture (s : WrittenFrame) (p : Picture) : Type 0 where
  pub picture : IsPicture p
  pub frame : s.frame ≡ frame_of p
  pub written : IsWrittenBy s.parameters.now p
  pub exponents : s.exponents.now ≡ exponents_for p s.parameters.now

-- The tiles are those of this picture too.
pub record HasTiles {A : Type 0} (tells : A → Picture → Parameters → Type 0) (s : WrittenFrame) (tiles : A) (p : Picture) : Type 0 where
  pub source : HasPicture s p
  pub told : tells tiles p s.parameters.now
