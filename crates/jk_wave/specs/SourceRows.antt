-- The rows of a plane of values, and what becomes of them where its columns are lifted.
use Rattle.std.specs.Prelude.{◌≡◌, ℕ, ◌+◌, ◌<◌, List, length, ℤ}
use Rattle.jk_math.specs.declared.rect.Rect.{Rect}
use Rattle.jk_math.specs.Raster.{columns_of}
use Rattle.jk_math.specs.Signed.{IsBelow, signed_at}
use Rattle.jk_geom.specs.Rectangles.{IsWithin}
use Rattle.jk_lift.specs.Lifting.{lifted, high_at}

-- a row over a rectangle, with the values of g at its columns
pub record IsRow (area : Rect) (g : ℕ → ℤ) (row : List ℤ) : Type 0 where
  pub long : length row ≡ columns_of area
  pub each : (k : ℕ) → k < columns_of area → signed_at row k ≡ g (area.x0 + k)

-- all values on the rectangle have a magnitude below m
abbrev pub AreBelow : ℕ → Rect → (ℕ → ℕ → ℤ) → Type 0
AreBelow m area f = (x y : ℕ) → IsWithin area x y → IsBelow m (f x y)

-- The coefficients of the columns of f at place y, and the high-pass ones, which the formula of the
-- low-pass ones takes of the places next to theirs.
abbrev pub column_lifted : Rect → (ℕ → ℕ → ℤ) → (y x : ℕ) → ℤ
column_lifted area f y x = lifted area.y0 area.y1 (f x) y

abbrev pub column_high : Rect → (ℕ → ℕ → ℤ) → (y x : ℕ) → ℤ
column_high area f y x = high_at area.y0 area.y1 (f x) y
