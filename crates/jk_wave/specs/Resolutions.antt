-- From the sub-bands of a tile-component to its resolutions (T.800 F.3).
use Rattle.std.specs.Prelude.{ℕ, zero, suc, ◌+◌, ◌*◌, ◌/◌, ◌%◌, ◌&&◌, ◌==◌, if◌then◌else◌, ℤ}
use Rattle.jk_math.specs.declared.rect.Rect.{Rect}
use Rattle.jk_geom.specs.Rectangles.{resolution_area}
use Rattle.jk_lift.specs.Planes.{unlifted_plane}

-- What stands at (x, y) where sub-bands are interleaved (2D_INTERLEAVE, F.3.3): LL at the places
-- that are even both ways, HL at odd x and even y, LH at even x and odd y, and HH at odd x and odd
-- y. `high` tells HL by 1, LH by 2 and HH by 3.
unfoldable pub woven_plane : (low : ℕ → ℕ → ℤ) (high : ℕ → ℕ → ℕ → ℤ) → ℕ → ℕ → ℤ
woven_plane low high x y = if (x % 2 == 0) && (y % 2 == 0) then low (x / 2) (y / 2)
    else high (x % 2 + 2 * (y % 2)) (x / 2) (y / 2)

-- Resolution r of a tile-component with so many decomposition levels, by column and row (IDWT,
-- F.3.1). The sub-bands are numbered as in QCD: LL is 0, and HL, LH and HH of resolution r + 1 are
-- 3r + 1, 3r + 2 and 3r + 3. Resolution 0 is LL, and each other resolution is made of the one below
-- and its own sub-bands (2D_SR, F.3.2).
unfoldable pub resolution_of : Rect → (levels : ℕ) → (bands : ℕ → ℕ → ℕ → ℤ) → ℕ → ℕ → ℕ → ℤ
resolution_of rect levels bands zero = bands 0
resolution_of rect levels bands (suc r) =
    let area = resolution_area rect levels (suc r) in
    unlifted_plane area.x0 area.x1 area.y0 area.y1
    (woven_plane (resolution_of rect levels bands r) (λ o. bands (3 * r + o)))
