-- Rectangles that are filled part by part.
use Rattle.std.specs.Prelude.{ℕ, ℤ, ◌+◌, ◌-◌, ◌*◌, ◌&&◌, Bool, List, take, drop, nat_le, nat_lt}
use Rattle.jk_math.specs.declared.rect.Rect.{Rect}
use Rattle.jk_math.specs.Raster.{columns_of}
pub use Rattle.jk_geom.specs.Rectangles.{touches}
pub use Rattle.jk_wave.specs.Regions.{IsPartOf}

-- a place lies in a rectangle
abbrev pub has : Rect → (x y : ℕ) → Bool
has a x y = (nat_le a.x0 x && nat_lt x a.x1) && (nat_le a.y0 y && nat_lt y a.y1)

-- the first rows of a rectangle
abbrev pub rows_above : Rect → ℕ → Rect
rows_above a n = record { x0 = a.x0; y0 = a.y0; x1 = a.x1; y1 = a.y0 + n }

-- where a row of a part begins in the list of the rectangle, row by row, and its values there
abbrev pub row_start : (area part : Rect) → (row : ℕ) → ℕ
row_start area part row = (part.y0 - area.y0 + row) * columns_of area + (part.x0 - area.x0)

abbrev pub row_of : (area part : Rect) → (row : ℕ) → List ℤ → List ℤ
row_of area part row values = take (columns_of part) (drop (row_start area part row) values)
