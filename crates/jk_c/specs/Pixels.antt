-- Samples pixel by pixel, the components of a pixel side by side.
use Rattle.std.specs.Prelude.{◌≡◌, ◌≤◌, false, ℕ, ◌+◌, ◌*◌, ◌<◌, List, [], length}
use Rattle.std.specs.Prelude.{map, pos, ℤ, slice_index, slice_index_or}
use Rattle.std.specs.List.{range_with_len}
use Rattle.jk_math.specs.Picture.{Picture}

-- Of pixels of so many components, one has these samples.
abbrev pub ArePut : (components component : ℕ) → List ℤ → List ℕ → Type 0
ArePut components component samples pixels = (i : ℕ) → i < length samples
    → pos (slice_index_or pixels (i * components + component) 0) ≡ slice_index_or samples i (pos 0)

-- The samples of a picture pixel by pixel, row by row.
pub record ArePixels (p : Picture) (pixels : List ℕ) : Type 0 where
  pub count : length pixels ≡ p.width * p.height * length p.planes
  pub each : (c : ℕ) → c < length p.planes → ArePut (length p.planes) c (slice_index_or p.planes c []) pixels

-- The picture has so many unsigned samples, each of at most so many bits.
pub record Fits (bits : ℕ) (p : Picture) (count : ℕ) : Type 0 where
  pub plain : p.signed ≡ false
  pub few : p.depth ≤ bits
  pub room : count ≡ p.width * p.height * length p.planes

-- the samples of a component, in pixels of so many components, of which there are so many
abbrev pub plane_in : (pixels : List ℕ) → (area components component : ℕ) → List ℤ
plane_in pixels area components component =
    map (λ i. pos (slice_index pixels (i * components + component))) (range_with_len 0 area)
