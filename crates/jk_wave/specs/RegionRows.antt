-- The levels of a region, each in one list: of a resolution above the lowest the coefficients near
-- what is looked at, LL at the places of what is looked at of the resolution below; of the lowest
-- LL alone.
use Rattle.std.specs.Prelude.{◌≡◌, ℕ, zero, suc, ◌+◌, ◌-◌, ◌*◌, ◌/◌, ◌%◌, ◌^◌, ◌<◌, ◌≤◌, List, length, ℤ, pos, All}
use Rattle.jk_math.specs.Raster.{columns_of, places_of, plane_at, raster}
use Rattle.jk_math.specs.Signed.{IsBelow}
use Rattle.jk_geom.specs.Rectangles.{IsWithin}
use Rattle.jk_wave.specs.declared.places.BandRows.{BandRows}
use Rattle.jk_wave.specs.declared.region.Region.{Region}
use Rattle.jk_wave.specs.LevelRows.{coefficient_of, first_of_part, part_rows}
use Rattle.jk_wave.specs.Regions.{held, around, part_area}
use Rattle.jk_wave.specs.Resolutions.{resolution_of}

-- the resolution that sub-band b, in the order of QCD, is of
abbrev pub resolution_with : (b : ℕ) → ℕ
resolution_with b = (b + 2) / 3

-- how many places the list of resolution r has
unfoldable pub level_places : Region → (r : ℕ) → ℕ
level_places s zero = places_of (part_area s 0)
level_places s (suc r) = places_of (around s (s.top - suc r))

-- Where the part of sub-band b that a region depends on lies in the list of its resolution.
unfoldable pub band_start : Region → (b : ℕ) → ℕ
band_start s zero = 0
band_start s (suc b) = first_of_part (around s (s.top - (b / 3 + 1))) (b % 3 + 1)

unfoldable pub band_step : Region → (b : ℕ) → ℕ
band_step s zero = columns_of (part_area s 0)
band_step s (suc b) = 2 * columns_of (around s (s.top - (b / 3 + 1)))

abbrev pub band_rows : Region → (b : ℕ) → BandRows
band_rows s b = record { area = part_area s b; start = band_start s b; step = band_step s b }

-- where what is looked at of the resolution below lies in the list of resolution r, above 0
abbrev pub low_rows : Region → (r : ℕ) → BandRows
low_rows s r = part_rows (around s (s.top - r)) 0

-- The list of resolution r has these samples of the resolution below; these coefficients, by
-- sub-band, column and row, at the places of its sub-bands; and both, of all coefficients.
abbrev pub ShowsLow : Region → (r : ℕ) → (ℕ → ℕ → ℤ) → List ℤ → Type 0
ShowsLow s r f rows = (x y : ℕ) → 0 < r → IsWithin (low_rows s r).area x y
    → coefficient_of (low_rows s r) rows x y ≡ f x y

abbrev pub ShowsBands : Region → (r : ℕ) → (ℕ → ℕ → ℕ → ℤ) → List ℤ → Type 0
ShowsBands s r c rows = (b x y : ℕ) → resolution_with b ≡ r → IsWithin (part_area s b) x y
    → coefficient_of (band_rows s b) rows x y ≡ c b x y

pub record ShowsLevel (s : Region) (r : ℕ) (c : ℕ → ℕ → ℕ → ℤ) (rows : List ℤ) : Type 0 where
  pub low : ShowsLow s r (resolution_of s.rect s.levels c (r - 1)) rows
  pub bands : ShowsBands s r c rows

-- the coefficients of the sub-bands that a region depends on are below 2^23 in magnitude
abbrev pub AreSmall : Region → (ℕ → ℕ → ℕ → ℤ) → Type 0
AreSmall s c = (b x y : ℕ) → b ≤ 3 * s.top → IsBelow (2 ^ 23) (c b x y)

-- The list has the samples of what is looked at of resolution r, made of such coefficients.
pub record IsMadeSmall (s : Region) (r : ℕ) (values : List ℤ) : Type 0 where
  pub coefficients : ℕ → ℕ → ℕ → ℤ
  pub small : AreSmall s coefficients
  pub is : values ≡ raster (held s (s.top - r)) (resolution_of s.rect s.levels coefficients r)

-- The list is one of resolution r from which samples can be made: LL is made of such coefficients,
-- and those of the sub-bands of this resolution are such ones.
pub record IsLevel (s : Region) (r : ℕ) (rows : List ℤ) : Type 0 where
  pub places : length rows ≡ level_places s r
  pub coefficients : ℕ → ℕ → ℕ → ℤ
  pub made_of : AreSmall s coefficients
  pub low : ShowsLow s r (resolution_of s.rect s.levels coefficients (r - 1)) rows
  pub small : (b x y : ℕ) → resolution_with b ≡ r → IsWithin (part_area s b) x y
      → IsBelow (2 ^ 23) (coefficient_of (band_rows s b) rows x y)

-- The list of resolution r has what is looked at of the resolution below at the places of LL, and
-- zeros at those of its sub-bands. So it shows what that is of, has no greater magnitude, and is
-- one from which samples can be made if that is made of coefficients below 2^23.
pub record IsBegunLevel (s : Region) (r : ℕ) (below rows : List ℤ) : Type 0 where
  pub places : length rows ≡ level_places s r
  pub low : (x y : ℕ) → 0 < r → IsWithin (low_rows s r).area x y
      → coefficient_of (low_rows s r) rows x y ≡ plane_at (held s (s.top - (r - 1))) below x y
  pub zeros : (b x y : ℕ) → resolution_with b ≡ r → IsWithin (part_area s b) x y
      → coefficient_of (band_rows s b) rows x y ≡ pos 0
  pub shows : (f : ℕ → ℕ → ℤ) → (0 < r → below ≡ raster (held s (s.top - (r - 1))) f) → ShowsLow s r f rows
  pub small : (m : ℕ) → 0 < m → All (IsBelow m) below → All (IsBelow m) rows
  pub level : (0 < r → IsMadeSmall s (r - 1) below) → IsLevel s r rows
