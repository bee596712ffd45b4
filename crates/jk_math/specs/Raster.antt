-- Values over a rectangle, and the list of them row by row.
use Rattle.std.specs.Prelude.{ℕ, ◌+◌, ◌-◌, ◌*◌, ◌/◌, ◌%◌, List, map, ℤ}
use Rattle.std.specs.List.{range_with_len}
use Rattle.jk_math.specs.declared.rect.Rect.{Rect}
use Rattle.jk_math.specs.Signed.{signed_at}

-- how many columns and rows a rectangle has
abbrev pub columns_of : Rect → ℕ
columns_of a = a.x1 - a.x0

abbrev pub rows_of : Rect → ℕ
rows_of a = a.y1 - a.y0

-- how many places it has
abbrev pub places_of : Rect → ℕ
places_of a = rows_of a * columns_of a

-- the values of f at the places of a rectangle, row by row
unfoldable pub raster : Rect → (ℕ → ℕ → ℤ) → List ℤ
raster a f = map (λ k. f (a.x0 + k % columns_of a) (a.y0 + k / columns_of a)) (range_with_len 0 (places_of a))

-- the value at (x, y) of such a list
abbrev pub plane_at : Rect → List ℤ → ℕ → ℕ → ℤ
plane_at a values x y = signed_at values ((y - a.y0) * columns_of a + (x - a.x0))
