-- Signed samples, pixel by pixel: what lists of them hold, and what calls on them answer.
use Rattle.std.specs.Prelude.{◌≡◌, ◌⊎◌, ◌≤◌, ◌<◌, ◌^◌, ◌+◌, ◌*◌, true, ℕ, ℤ, pos, List, [], ◌∷◌, length, map, slice_index_or, Result, Ok, Err}
use Rattle.std.specs.List.{range_with_len}
use Rattle.jk_math.specs.declared.fault.Fault.{Fault}
use Rattle.jk_math.specs.Picture.{Picture, IsPicture}
use Rattle.jk_c.specs.declared.frames.CallerFrame.{CallerFrame}
use Rattle.jk_c.specs.declared.coding.CallerCoding.{CallerCoding}
use Rattle.jk_c.specs.Codes.{done_code, memory_code, misfit_code, code_of}
use Rattle.jk_c.specs.Codings.{IsKnownCoding}
use Rattle.jk_c.specs.Frames.{Fills}

-- Of pixels of so many components, one has these samples.
abbrev pub ArePutSigned : (components component : ℕ) → List ℤ → List ℤ → Type 0
ArePutSigned components component samples pixels = (i : ℕ) → i < length samples
    → slice_index_or pixels (i * components + component) (pos 0) ≡ slice_index_or samples i (pos 0)

-- The samples of a picture pixel by pixel, row by row.
pub record AreSignedPixels (p : Picture) (pixels : List ℤ) : Type 0 where
  pub count : length pixels ≡ p.width * p.height * length p.planes
  pub each : (c : ℕ) → c < length p.planes → ArePutSigned (length p.planes) c (slice_index_or p.planes c []) pixels

-- The picture has so many signed samples, each of at most so many bits.
pub record FitsSigned (bits : ℕ) (p : Picture) (count : ℕ) : Type 0 where
  pub signed : p.signed ≡ true
  pub few : p.depth ≤ bits
  pub room : count ≡ p.width * p.height * length p.planes

-- A call that gives signed samples of at most so many bits: the number of the fault; the pixels of
-- the picture; or Misfit, where the list isn't for them. But for the pixels the list is as before.
abbrev pub GivesSigned : (bits : ℕ) → Result Picture Fault → (before : List ℤ) → (code : ℕ) → (after : List ℤ) → Type 0
GivesSigned bits (Err e) before code after = (code ≡ code_of e) × (after ≡ before)
GivesSigned bits (Ok p) before code after =
    ((code ≡ done_code) × FitsSigned bits p (length before) × AreSignedPixels p after)
    ⊎ ((code ≡ misfit_code) × (FitsSigned bits p (length before) → ⊥) × (after ≡ before))

-- that, or Memory
abbrev pub GivesSignedOrMemory : (bits : ℕ) → Result Picture Fault → (before : List ℤ) → (code : ℕ) → (after : List ℤ)
    → Type 0
GivesSignedOrMemory bits due before code after =
    ((code ≡ memory_code) × (after ≡ before)) ⊎ GivesSigned bits due before code after

-- A frame of one to four components of signed samples, of which there are not too many. What is
-- kept for later is zero.
pub record IsKnownSignedFrame (f : CallerFrame) : Type 0 where
  pub some : 1 ≤ f.components
  pub few : f.components ≤ 4
  pub bits : f.depth ≤ 16
  pub signed : f.is_signed ≡ 1
  pub area : f.width * f.height ≤ 2 ^ 28
  pub reserved : f.reserved ≡ 0 ∷ 0 ∷ 0 ∷ 0 ∷ []

-- the samples of a component, in pixels of so many components, of which there are so many
abbrev pub signed_plane_in : (pixels : List ℤ) → (area components component : ℕ) → List ℤ
signed_plane_in pixels area components component =
    map (λ i. slice_index_or pixels (i * components + component) (pos 0)) (range_with_len 0 area)

-- the picture of a frame with these samples, pixel by pixel
abbrev pub signed_picture_from : CallerFrame → List ℤ → Picture
signed_picture_from f pixels = record {
  x0 = f.x0;
  y0 = f.y0;
  width = f.width;
  height = f.height;
  depth = f.depth;
  signed = true;
  planes = map (signed_plane_in pixels (f.width * f.height) f.components) (range_with_len 0 f.components);
}

-- What is asked for is an image of the profile, and a coding that has a place in parameters.
pub record IsAskedSigned (f : CallerFrame) (pixels : List ℤ) (k : CallerCoding) : Type 0 where
  pub frame : IsKnownSignedFrame f
  pub fills : Fills f (length pixels)
  pub coding : IsKnownCoding k
  pub picture : IsPicture (signed_picture_from f pixels)
