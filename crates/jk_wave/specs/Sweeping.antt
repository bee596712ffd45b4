-- What is held while the columns of a plane are lifted a row at a time.
use Rattle.std.specs.Prelude.{◌≡◌, ℕ, ◌<◌, ℤ, length}
use Rattle.jk_math.specs.declared.rect.Rect.{Rect}
use Rattle.jk_math.specs.Raster.{columns_of}
use Rattle.jk_lift.specs.Lifting.{before}
use Rattle.jk_wave.specs.declared.sweep.Sweep.{Sweep}
use Rattle.jk_wave.specs.SourceRows.{IsRow, column_high}

-- each row is as wide as the rectangle
pub record AreLong (area : Rect) (s : Sweep) : Type 0 where
  pub before : length s.before.items ≡ columns_of area
  pub even : length s.even.items ≡ columns_of area
  pub odd : length s.odd.items ≡ columns_of area
  pub next : length s.next.items ≡ columns_of area
  pub line : length s.line.items ≡ columns_of area

-- Place y is next: where it isn't past the last row, its samples are held, and the high-pass
-- coefficients of the place before it in the extended signal.
pub record IsSweep (area : Rect) (f : ℕ → ℕ → ℤ) (y : ℕ) (s : Sweep) : Type 0 where
  pub long : AreLong area s
  pub even : y < area.y1 → IsRow area (λ x. f x y) s.even.items
  pub high : y < area.y1 → IsRow area (column_high area f (before area.y0 area.y1 y)) s.before.items
