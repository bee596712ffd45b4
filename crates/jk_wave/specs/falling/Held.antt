-- What is held while the columns of a plane are lifted of rows that are given, and what was handed
-- out.
use Rattle.std.specs.Prelude.{◌≡◌, ℕ, ◌-◌, ◌/◌, ◌%◌, ◌^◌, ◌<◌, ◌≤◌, ◌++◌, length, ℤ}
use Rattle.std.specs.List.{All}
use Rattle.jk_math.specs.declared.rect.Rect.{Rect}
use Rattle.jk_math.specs.Raster.{columns_of, raster}
use Rattle.jk_math.specs.Signed.{IsBelow}
use Rattle.jk_wave.specs.SourceRows.{IsRow, column_high}
use Rattle.jk_wave.specs.Levels.{half_bound, half_area, part_of, part_list}
use Rattle.jk_wave.specs.declared.parts.LevelParts.{LevelParts}
use Rattle.jk_wave.specs.climbing.Held.{rows_between}
use Rattle.jk_wave.specs.declared.falling.fall.Fall.{Fall}
use Rattle.jk_wave.specs.falling.Intervals.{last_even}

-- all rows are as wide as the rectangle, and those that stay small enough to be lifted with
pub record HoldsFall (a : Rect) (s : Fall) : Type 0 where
  pub high_long : length s.high.items ≡ columns_of a
  pub even_long : length s.even.items ≡ columns_of a
  pub odd_long : length s.odd.items ≡ columns_of a
  pub line_long : length s.line.items ≡ columns_of a
  pub high_small : All (IsBelow (2 ^ 29)) s.high.items
  pub even_small : All (IsBelow (2 ^ 28 - 1)) s.even.items

-- and so is the odd row that waits, where row y is next
pub record IsReady (a : Rect) (y : ℕ) (s : Fall) : Type 0 where
  pub held : HoldsFall a s
  pub odd_small : y % 2 ≡ 0 → All (IsBelow (2 ^ 28 - 1)) s.odd.items

-- Row y is next: the samples of the last even row above it are held, those of the odd row behind
-- that one, and the high-pass coefficients of the odd row before it, where the rectangle has these.
pub record IsFall (a : Rect) (f : ℕ → ℕ → ℤ) (y : ℕ) (s : Fall) : Type 0 where
  pub even : a.y0 < y → a.y0 ≤ last_even y → IsRow a (λ x. f x (last_even y)) s.even.items
  pub odd : a.y0 < y → y % 2 ≡ 0 → IsRow a (λ x. f x (y - 1)) s.odd.items
  pub high : a.y0 < last_even y → IsRow a (column_high a f (last_even y - 1)) s.high.items

-- the rows of part o of a level that stand in its rows p up to q
abbrev pub half_rows : Rect → (p q o : ℕ) → Rect
half_rows a p q o = rows_between (half_area a o) (half_bound p (o / 2)) (half_bound q (o / 2))

-- Behind the rows of all four parts stand those of the coefficients of f in rows p up to q.
abbrev pub GivesRows : Rect → (f : ℕ → ℕ → ℤ) → (p q : ℕ) → (old new : LevelParts) → Type 0
GivesRows a f p q old new = (o : ℕ) → o < 4 → part_list new o ≡ part_list old o ++ raster (half_rows a p q o) (part_of a f o)
