-- A piece of a line or of a plane that is lifted by itself.
use Rattle.std.specs.Prelude.{◌≡◌, ℕ, ℤ, ◌+◌, ◌-◌, ◌<◌, ◌≤◌, ◌⊎◌, min, max}
use Rattle.jk_math.specs.declared.rect.Rect.{Rect}
use Rattle.jk_lift.specs.Lifting.{unlifted}
use Rattle.jk_lift.specs.Planes.{unlifted_plane}

-- The piece from p0 to p1 of the line from i0 to i1, lifted by itself, has the line's samples at
-- each place that is two places away from an end of the piece which isn't the line's.
abbrev pub IsPieceOfLine : Type 0
IsPieceOfLine = (i0 i1 p0 p1 : ℕ) (y : ℕ → ℤ) → i0 ≤ p0 → p1 ≤ i1 → (i : ℕ) → p0 ≤ i → i < p1 →
    (p0 ≡ i0) ⊎ (p0 + 2 ≤ i) → (p1 ≡ i1) ⊎ (i + 2 < p1) → unlifted p0 p1 y i ≡ unlifted i0 i1 y i

-- what a rectangle a has around the rectangle u: two places more on each side, cut with a
abbrev pub near_area : Rect → Rect → Rect
near_area a u = record { x0 = max a.x0 (u.x0 - 2); y0 = max a.y0 (u.y0 - 2); x1 = min a.x1 (u.x1 + 2); y1 = min a.y1 (u.y1 + 2) }

-- Of the plane of coefficients d on a, c has what is near u: lifted on that by itself it has the
-- samples of a in u.
abbrev pub IsPieceOfPlane : Type 0
IsPieceOfPlane = (a u : Rect) (c d : ℕ → ℕ → ℤ) → (let e = near_area a u in
    ((i j : ℕ) → e.x0 ≤ i → i < e.x1 → e.y0 ≤ j → j < e.y1 → c i j ≡ d i j) →
    (x y : ℕ) → a.x0 ≤ x → x < a.x1 → a.y0 ≤ y → y < a.y1 → u.x0 ≤ x → x < u.x1 → u.y0 ≤ y → y < u.y1 →
    unlifted_plane e.x0 e.x1 e.y0 e.y1 c x y ≡ unlifted_plane a.x0 a.x1 a.y0 a.y1 d x y)
