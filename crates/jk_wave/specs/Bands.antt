-- The sub-bands of a tile-component by their numbers in QCD, as lists of coefficients.
use Rattle.std.specs.Prelude.{◌≡◌, ℕ, zero, suc, ◌+◌, ◌*◌, ◌/◌, ◌%◌, ◌^◌, ◌<◌, ◌≤◌, List, [], length, slice_index_or, ℤ}
use Rattle.std.specs.Prelude.{All}
use Rattle.jk_math.specs.declared.rect.Rect.{Rect}
use Rattle.jk_math.specs.Raster.{places_of, plane_at}
use Rattle.jk_math.specs.Signed.{IsBelow}
use Rattle.jk_math.specs.declared.orientation.Orientation.{Orientation}
use Rattle.jk_math.specs.declared.orientation.Orientation.TheVariants.{LL, HL, LH, HH}
use Rattle.jk_geom.specs.Rectangles.{band_area}

-- the sub-bands of a resolution above the lowest, in their order
abbrev pub high_orientation : ℕ → Orientation
high_orientation zero = HL
high_orientation (suc zero) = LH
high_orientation (suc (suc n)) = HH

-- the rectangle of sub-band b: LL, or HL, LH and HH of resolution 1, and so on upwards
unfoldable pub numbered_area : Rect → (levels b : ℕ) → Rect
numbered_area a levels zero = band_area a levels 0 LL
numbered_area a levels (suc b) = band_area a levels (b / 3 + 1) (high_orientation (b % 3))

-- the coefficients of sub-band b by column and row
abbrev pub coefficients_of : Rect → (levels : ℕ) → List (List ℤ) → ℕ → ℕ → ℕ → ℤ
coefficients_of a levels lists b = plane_at (numbered_area a levels b) (slice_index_or lists b [])

-- The lists have the sub-bands of the resolutions up to r, each coefficient below 2^23 in
-- magnitude.
pub record AreBands (a : Rect) (levels r : ℕ) (lists : List (List ℤ)) : Type 0 where
  pub count : 3 * r < length lists
  pub lengths : (b : ℕ) → b ≤ 3 * r → length (slice_index_or lists b []) ≡ places_of (numbered_area a levels b)
  pub small : (b : ℕ) → b ≤ 3 * r → All (IsBelow (2 ^ 23)) (slice_index_or lists b [])
