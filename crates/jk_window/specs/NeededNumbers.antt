-- Which columns and rows of the precincts of a resolution a window needs, sub-band by sub-band.
use Rattle.std.specs.Prelude.{◌≡◌, ◌<◌, ◌≤◌, ℕ, ◌+◌, ◌*◌, ◌/◌, ◌%◌, ◌^◌, min, max, Bool, true, ◌&&◌, ◌↔◌, nat_le, nat_lt, if◌then◌else◌}
use Rattle.jk_math.specs.declared.rect.Rect.{Rect}
use Rattle.jk_marks.specs.declared.coding.Coding.{Coding}
use Rattle.jk_marks.specs.Coding.{precinct_size}
use Rattle.jk_math.specs.declared.orientation.Orientation.{Orientation}
use Rattle.jk_geom.specs.Rectangles.{meet, resolution_area, band_area}
use Rattle.jk_geom.specs.Precincts.{precincts_across, precincts_down, precinct_number, part_width, part_height}
use Rattle.jk_window.specs.declared.rows.NeededPrecincts.{NeededPrecincts}
use Rattle.jk_window.specs.Needs.{needed_part, needs}

-- Cell c of a line that is cut, from 0 on, into cells of 2^e has a place of those from lo up to hi.
abbrev pub IsShared : (c e lo hi : ℕ) → Type 0
IsShared c e lo hi = max (c * 2 ^ e) lo < min ((c + 1) * 2 ^ e) hi

-- a number of an interval, which is empty where its end isn't above its start
abbrev pub IsIn : ℕ × ℕ → ℕ → Type 0
IsIn a i = (a.0 ≤ i) × (i < a.1)

-- the column and the row of the first precinct on the grid of the precincts
abbrev pub first_column : Rect → Coding → ℕ → ℕ
first_column a k r = (resolution_area a k.levels r).x0 / 2 ^ (precinct_size k r).0

abbrev pub first_row : Rect → Coding → ℕ → ℕ
first_row a k r = (resolution_area a k.levels r).y0 / 2 ^ (precinct_size k r).1

-- the places of a sub-band that a stretch depends on
abbrev pub shared_area : Rect → Coding → (u : Rect) → (n r : ℕ) → Orientation → Rect
shared_area a k u n r o = meet (band_area a k.levels r o) (needed_part u n o)

-- column i, and row j, of the precincts of a resolution has such a place
abbrev pub NeedsColumn : Rect → Coding → (u : Rect) → (n r : ℕ) → Orientation → ℕ → Type 0
NeedsColumn a k u n r o i =
    IsShared (first_column a k r + i) (part_width k r) (shared_area a k u n r o).x0 (shared_area a k u n r o).x1

abbrev pub NeedsRow : Rect → Coding → (u : Rect) → (n r : ℕ) → Orientation → ℕ → Type 0
NeedsRow a k u n r o j =
    IsShared (first_row a k r + j) (part_height k r) (shared_area a k u n r o).y0 (shared_area a k u n r o).y1

-- The columns and the rows of the precincts that have such places.
pub record AreCells (a : Rect) (k : Coding) (u : Rect) (n r : ℕ) (o : Orientation) (cells : Rect) : Type 0 where
  pub column : (i : ℕ) → i < precincts_across a k r → NeedsColumn a k u n r o i → (cells.x0 ≤ i) × (i < cells.x1)
  pub row : (j : ℕ) → j < precincts_down a k r → NeedsRow a k u n r o j → (cells.y0 ≤ j) × (j < cells.y1)
  pub column_only : (i : ℕ) → cells.x0 ≤ i → i < cells.x1 → NeedsColumn a k u n r o i
  pub row_only : (j : ℕ) → cells.y0 ≤ j → j < cells.y1 → NeedsRow a k u n r o j
  pub left : cells.x0 ≤ precincts_across a k r
  pub upper : cells.y0 ≤ precincts_down a k r
  pub across : cells.x1 ≤ precincts_across a k r
  pub down : cells.y1 ≤ precincts_down a k r

-- from the first to the last of the numbers of two intervals
abbrev pub hull_of : ℕ × ℕ → ℕ × ℕ → ℕ × ℕ
hull_of a b = if nat_le a.1 a.0 then b else if nat_le b.1 b.0 then a else (min a.0 b.0, max a.1 b.1)

abbrev pub is_in : ℕ × ℕ → ℕ → Bool
is_in a i = nat_le a.0 i && nat_lt i a.1

-- The needed columns of a row of precincts: in a row that is high-pass those of either kind, and in
-- any other the high-pass ones alone, since LL is no sub-band of the resolution.
abbrev pub columns_in : NeededPrecincts → ℕ → ℕ × ℕ
columns_in x j =
    if is_in (x.low.y0, x.low.y1) j then hull_of (x.high.x0, x.high.x1) (x.low.x0, x.low.x1)
    else if is_in (x.high.y0, x.high.y1) j then (x.high.x0, x.high.x1)
    else (0, 0)

-- the rows that have needed precincts, and others perhaps between them
abbrev pub rows_in : NeededPrecincts → ℕ × ℕ
rows_in x = hull_of (x.high.y0, x.high.y1) (x.low.y0, x.low.y1)

-- A precinct of resolution r is needed where the needed columns of its row have it.
abbrev pub AreNeeded : Rect → Coding → (u : Rect) → (d r : ℕ) → NeededPrecincts → Type 0
AreNeeded a k u d r x = (n : ℕ) → n < precinct_number a k r
    → (needs a k u d r n ≡ true) ↔ IsIn (columns_in x (n / precincts_across a k r)) (n % precincts_across a k r)

-- the numbers of the needed precincts of a row
abbrev pub numbers_in : NeededPrecincts → (across j : ℕ) → ℕ × ℕ
numbers_in x across j = (j * across + (columns_in x j).0, j * across + (columns_in x j).1)

-- So in each row they are one interval of numbers.
abbrev pub AreNeededNumbers : Rect → Coding → (u : Rect) → (d r : ℕ) → NeededPrecincts → Type 0
AreNeededNumbers a k u d r x = (j n : ℕ) → j < precincts_down a k r
    → IsIn (j * precincts_across a k r, (j + 1) * precincts_across a k r) n
    → (needs a k u d r n ≡ true) ↔ IsIn (numbers_in x (precincts_across a k r) j) n
