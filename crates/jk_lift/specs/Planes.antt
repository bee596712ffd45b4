-- One level of the transform of a plane: a rectangle of places (x, y) with x0 ≤ x < x1 and y0 ≤ y <
-- y1, and a function that gives the value at each.
use Rattle.std.specs.Prelude.{ℕ, ℤ}
use Rattle.jk_lift.specs.Lifting.{lifted, unlifted}

-- The coefficient at (x, y) of the plane of samples f: columns first, then rows (2D_SD, T.800
-- F.4.2).
abbrev pub lifted_plane : ℕ → ℕ → ℕ → ℕ → (ℕ → ℕ → ℤ) → ℕ → ℕ → ℤ
lifted_plane x0 x1 y0 y1 f x y = lifted x0 x1 (λ i. lifted y0 y1 (f i) y) x

-- The sample at (x, y) of the plane of coefficients c: rows first, then columns (2D_SR, T.800
-- F.3.2).
abbrev pub unlifted_plane : ℕ → ℕ → ℕ → ℕ → (ℕ → ℕ → ℤ) → ℕ → ℕ → ℤ
unlifted_plane x0 x1 y0 y1 c x y = unlifted y0 y1 (λ j. unlifted x0 x1 (λ i. c i j) x) y
