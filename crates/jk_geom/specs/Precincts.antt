-- Precincts (T.800 B.6).
use Rattle.std.specs.Prelude.{ℕ, ◌+◌, ◌-◌, ◌*◌, ◌/◌, ◌%◌, ◌^◌, ◌==◌, nat_lt, if◌then◌else◌}
use Rattle.jk_math.specs.declared.rect.Rect.{Rect}
use Rattle.jk_marks.specs.declared.coding.Coding.{Coding}
use Rattle.jk_marks.specs.Coding.{precinct_size}
use Rattle.jk_math.specs.declared.orientation.Orientation.{Orientation}
use Rattle.jk_geom.specs.Rectangles.{ceil_div, meet, cell, resolution_area, band_area}

-- how many cells of a grid of 2^e meet the places from lo up to hi
abbrev pub span : (lo hi e : ℕ) → ℕ
span lo hi e = if lo == hi then 0 else ceil_div hi (2 ^ e) - lo / 2 ^ e

-- how many precincts of resolution r stand side by side, and one above the other (equation B-16)
unfoldable pub precincts_across : Rect → Coding → ℕ → ℕ
precincts_across a k r = let area = resolution_area a k.levels r in span area.x0 area.x1 (precinct_size k r).0

unfoldable pub precincts_down : Rect → Coding → ℕ → ℕ
precincts_down a k r = let area = resolution_area a k.levels r in span area.y0 area.y1 (precinct_size k r).1

-- how many precincts resolution r has
abbrev pub precinct_number : Rect → Coding → ℕ → ℕ
precinct_number a k r = precincts_across a k r * precincts_down a k r

-- the column and the row of precinct n on the grid of the precincts, which begins at 0
unfoldable pub precinct_column : Rect → Coding → ℕ → ℕ → ℕ
precinct_column a k r n = (resolution_area a k.levels r).x0 / 2 ^ (precinct_size k r).0 + n % precincts_across a k r

unfoldable pub precinct_row : Rect → Coding → ℕ → ℕ → ℕ
precinct_row a k r n = (resolution_area a k.levels r).y0 / 2 ^ (precinct_size k r).1 + n / precincts_across a k r

-- the exponents of a precinct's part of a sub-band: above the lowest resolution a sub-band has half
-- the places of it
abbrev pub band_exponent : (exponent r : ℕ) → ℕ
band_exponent exponent r = if nat_lt 0 r then exponent - 1 else exponent

abbrev pub part_width : Coding → ℕ → ℕ
part_width k r = band_exponent (precinct_size k r).0 r

abbrev pub part_height : Coding → ℕ → ℕ
part_height k r = band_exponent (precinct_size k r).1 r

-- the part of a sub-band that belongs to precinct n
unfoldable pub precinct_area : Rect → Coding → (r n : ℕ) → Orientation → Rect
precinct_area a k r n o =
    meet (cell (precinct_column a k r n) (precinct_row a k r n) (part_width k r) (part_height k r))
    (band_area a k.levels r o)
