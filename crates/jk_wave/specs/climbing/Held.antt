-- What is held while the columns of a plane are lifted back a row at a time, and what was given.
use Rattle.std.specs.Prelude.{◌≡◌, ℕ, ◌+◌, ◌-◌, ◌^◌, ◌<◌, ◌≤◌, max, length, ℤ}
use Rattle.std.specs.List.{All}
use Rattle.jk_math.specs.declared.rect.Rect.{Rect}
use Rattle.jk_math.specs.Raster.{columns_of}
use Rattle.jk_math.specs.Signed.{IsBelow}
use Rattle.jk_geom.specs.Rectangles.{IsWithin}
use Rattle.jk_lift.specs.Lifting.{unlifted}
use Rattle.jk_wave.specs.SourceRows.{IsRow}
use Rattle.jk_wave.specs.declared.climbing.climb.Climb.{Climb}
use Rattle.jk_wave.specs.declared.climbing.plane.NextRows.{NextRows}

-- the sample at (x, y), where each row of f has its columns made already
abbrev pub column_sample : Rect → (f : ℕ → ℕ → ℤ) → (x y : ℕ) → ℤ
column_sample a f x y = unlifted a.y0 a.y1 (f x) y

-- some rows of a rectangle
abbrev pub rows_between : Rect → (p q : ℕ) → Rect
rows_between a p q = record { x0 = a.x0; y0 = p; x1 = a.x1; y1 = q }

-- how far samples are made before row v
abbrev pub made : Rect → ℕ → ℕ
made a v = max a.y0 (v - 1)

-- rows from v up to t of one plane are those of another
abbrev pub RowsAgree : Rect → (v t : ℕ) → (f g : ℕ → ℕ → ℤ) → Type 0
RowsAgree a v t f g = (x y : ℕ) → IsWithin (rows_between a v t) x y → f x y ≡ g x y

-- both rows are as wide as the rectangle, and small enough to be lifted with
pub record HoldsRows (a : Rect) (s : Climb) : Type 0 where
  pub even_long : length s.even.items ≡ columns_of a
  pub odd_long : length s.odd.items ≡ columns_of a
  pub even_small : All (IsBelow (2 ^ 30 - 1)) s.even.items
  pub odd_small : All (IsBelow (2 ^ 29)) s.odd.items

-- and there is room for the next two
pub record HasRoom (a : Rect) (s : Climb) (next : NextRows) : Type 0 where
  pub held : HoldsRows a s
  pub even_room : length next.even.items ≡ columns_of a
  pub odd_room : length next.odd.items ≡ columns_of a

-- Row v is next: the samples of the even row above it and the coefficients of the odd one are held,
-- where the rectangle has these.
pub record IsClimb (a : Rect) (f : ℕ → ℕ → ℤ) (v : ℕ) (s : Climb) : Type 0 where
  pub even : a.y0 + 2 ≤ v → IsRow a (λ x. column_sample a f x (v - 2)) s.even.items
  pub odd : a.y0 < v → IsRow a (λ x. f x (v - 1)) s.odd.items
