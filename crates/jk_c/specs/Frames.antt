-- What an image is, as C programs tell it and are told.
use Rattle.std.specs.Prelude.{◌≡◌, ℕ, ◌*◌, ◌^◌, ◌≤◌, false, Bool, List, [], ◌∷◌, map}
use Rattle.std.specs.List.{range_with_len}
use Rattle.jk_math.specs.Picture.{Picture}
use Rattle.jk_params.specs.declared.picture_frame.PictureFrame.{PictureFrame}
use Rattle.jk_c.specs.declared.frames.CallerFrame.{CallerFrame}
use Rattle.jk_c.specs.Pixels.{plane_in}

-- A frame of one to four components of unsigned samples, of which there are not too many. What is
-- kept for later is zero.
pub record IsKnownFrame (f : CallerFrame) : Type 0 where
  pub some : 1 ≤ f.components
  pub few : f.components ≤ 4
  pub bits : f.depth ≤ 16
  pub plain : f.is_signed ≡ 0
  pub area : f.width * f.height ≤ 2 ^ 28
  pub reserved : f.reserved ≡ 0 ∷ 0 ∷ 0 ∷ 0 ∷ []

-- The same of samples with a sign or without.
pub record IsCountable (f : CallerFrame) : Type 0 where
  pub some : 1 ≤ f.components
  pub few : f.components ≤ 4
  pub bits : f.depth ≤ 16
  pub area : f.width * f.height ≤ 2 ^ 28
  pub reserved : f.reserved ≡ 0 ∷ 0 ∷ 0 ∷ 0 ∷ []

-- a sample for each component of each pixel
abbrev pub Fills : CallerFrame → ℕ → Type 0
Fills f count = count ≡ f.width * f.height * f.components

-- the picture of a frame with these samples, pixel by pixel
abbrev pub picture_from : CallerFrame → List ℕ → Picture
picture_from f pixels = record {
  x0 = f.x0;
  y0 = f.y0;
  width = f.width;
  height = f.height;
  depth = f.depth;
  signed = false;
  planes = map (plane_in pixels (f.width * f.height) f.components) (range_with_len 0 f.components);
}

-- the frame of that picture, or of one with a sign
abbrev pub framed : CallerFrame → (signed : Bool) → PictureFrame
framed f signed = record {
  x0 = f.x0;
  y0 = f.y0;
  width = f.width;
  height = f.height;
  components = f.components;
  depth = f.depth;
  signed = signed;
}
