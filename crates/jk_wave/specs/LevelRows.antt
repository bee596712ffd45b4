-- How the coefficients of a level lie in one list: the rows of its rectangle one behind another,
-- each at its own place down, and of each row the low-pass coefficients first and then the
-- high-pass ones (2D_DEINTERLEAVE in one direction, T.800 F.4.5).
use Rattle.std.specs.Prelude.{◌≡◌, ℕ, ◌+◌, ◌-◌, ◌*◌, ◌/◌, ◌%◌, ◌^◌, ◌<◌, ◌≤◌, List, length, ℤ, pos}
use Rattle.jk_math.specs.declared.rect.Rect.{Rect}
use Rattle.jk_math.specs.Raster.{columns_of, rows_of, places_of, plane_at}
use Rattle.jk_math.specs.Signed.{IsBelow, signed_at}
use Rattle.jk_geom.specs.Rectangles.{IsWithin}
use Rattle.jk_wave.specs.declared.places.BandRows.{BandRows}
use Rattle.jk_wave.specs.Levels.{half_area}
use Rattle.jk_wave.specs.Resolutions.{woven_plane}

-- where the coefficient of a place stands in the list, and which it is
abbrev pub index_in : BandRows → (x y : ℕ) → ℕ
index_in b x y = b.start + (y - b.area.y0) * b.step + (x - b.area.x0)

abbrev pub coefficient_of : BandRows → List ℤ → (x y : ℕ) → ℤ
coefficient_of b rows x y = signed_at rows (index_in b x y)

-- each of its rows ends within so many places
abbrev pub FitsIn : BandRows → ℕ → Type 0
FitsIn b n = (row : ℕ) → row < rows_of b.area → b.start + row * b.step + columns_of b.area ≤ n

-- Where part o of a rectangle begins: in the first row of its parity, behind the low-pass
-- coefficients if its own are high-pass.
unfoldable pub first_of_part : Rect → (o : ℕ) → ℕ
first_of_part a o = (2 * (half_area a o).y0 + o / 2 - a.y0) * columns_of a + (o % 2) * columns_of (half_area a 0)

-- where part o of a rectangle lies: in every second row
abbrev pub part_rows : Rect → (o : ℕ) → BandRows
part_rows a o = record { area = half_area a o; start = first_of_part a o; step = 2 * columns_of a }

-- what the four parts are woven to
unfoldable pub woven_rows : Rect → List ℤ → ℕ → ℕ → ℤ
woven_rows a rows = woven_plane (coefficient_of (part_rows a 0) rows) (λ o. coefficient_of (part_rows a o) rows)

-- so many zeros
pub record AreZeros (n : ℕ) (values : List ℤ) : Type 0 where
  pub count : length values ≡ n
  pub zeros : (k : ℕ) → signed_at values k ≡ pos 0

-- LL has these samples, and the other parts have zeros.
pub record IsBegun (a : Rect) (below rows : List ℤ) : Type 0 where
  pub places : length rows ≡ places_of a
  pub low : (x y : ℕ) → IsWithin (half_area a 0) x y
      → coefficient_of (part_rows a 0) rows x y ≡ plane_at (half_area a 0) below x y
  pub zeros : (o x y : ℕ) → 0 < o → o < 4 → IsWithin (half_area a o) x y
      → coefficient_of (part_rows a o) rows x y ≡ pos 0

-- LL is below 2^29 - 2^26 in magnitude, and the other parts are below 2^23.
pub record IsBoundedLevel (a : Rect) (rows : List ℤ) : Type 0 where
  pub low : (x y : ℕ) → IsWithin (half_area a 0) x y
      → IsBelow (2 ^ 29 - 2 ^ 26) (coefficient_of (part_rows a 0) rows x y)
  pub high : (o x y : ℕ) → 0 < o → o < 4 → IsWithin (half_area a o) x y
      → IsBelow (2 ^ 23) (coefficient_of (part_rows a o) rows x y)
