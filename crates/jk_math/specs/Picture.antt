-- What an image is: its place on the reference grid, its size, and a list of samples for each
-- component.
use Rattle.std.specs.Prelude.{◌≡◌, ℕ, ◌+◌, ◌-◌, ◌*◌, ◌^◌, ◌<◌, ◌≤◌, Bool, true, false, not, ◌&&◌, ◌||◌, ◌==◌, List, []}
use Rattle.std.specs.Prelude.{length, All, slice_index_or, ℤ, pos, neg_ℤ, ◌≤ℤ◌}

-- Rows of samples from the upper left corner (x0, y0) on, one plane for each component.
pub record Picture : Type 0 where
  pub x0 : ℕ
  pub y0 : ℕ
  pub width : ℕ
  pub height : ℕ
  pub depth : ℕ
  pub signed : Bool
  pub planes : List (List ℤ)

-- the sample of a component at column x and row y, counted from the upper left corner
abbrev pub sample_at : Picture → ℕ → ℕ → ℕ → ℤ
sample_at p component x y = slice_index_or (slice_index_or p.planes component []) (y * p.width + x) (pos 0)

-- the range of a sample of this depth (T.800 A.5.1, Ssiz)
abbrev pub lowest : ℕ → Bool → ℤ
lowest depth true = neg_ℤ (pos (2 ^ (depth - 1)))
lowest depth false = pos 0

abbrev pub greatest : ℕ → Bool → ℤ
greatest depth true = pos (2 ^ (depth - 1) - 1)
greatest depth false = pos (2 ^ depth - 1)

-- the size and place of an image of the profile
pub record IsFrame (x0 y0 width height : ℕ) : Type 0 where
  pub wide : 0 < width
  pub high : 0 < height
  pub right : x0 + width < 2 ^ 31
  pub lower : y0 + height < 2 ^ 31
  pub area : width * height ≤ 2 ^ 28

-- so many samples, each within its range
pub record IsPlane (area depth : ℕ) (signed : Bool) (samples : List ℤ) : Type 0 where
  pub count : length samples ≡ area
  pub range : All (λ s. (lowest depth signed ≤ℤ s) × (s ≤ℤ greatest depth signed)) samples

-- one to four components of one to sixteen bits
pub record AreComponents (area depth : ℕ) (signed : Bool) (planes : List (List ℤ)) : Type 0 where
  pub some_bits : 1 ≤ depth
  pub few_bits : depth ≤ 16
  pub some : 1 ≤ length planes
  pub few : length planes ≤ 4
  pub each : All (IsPlane area depth signed) planes

-- an image of the profile
pub record IsPicture (p : Picture) : Type 0 where
  pub frame : IsFrame p.x0 p.y0 p.width p.height
  pub components : AreComponents (p.width * p.height) p.depth p.signed p.planes

-- greyscale or RGB: one or three unsigned components
abbrev pub is_grey_or_rgb : (components : ℕ) → (signed : Bool) → Bool
is_grey_or_rgb components signed = not signed && ((components == 1) || (components == 3))
