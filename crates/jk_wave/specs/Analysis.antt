-- From the samples of a tile-component to its sub-bands (T.800 F.4).
use Rattle.std.specs.Prelude.{ℕ, zero, suc, ◌+◌, ◌-◌, ◌*◌, ◌/◌, ◌%◌, List, map, ℤ}
use Rattle.std.specs.List.{range_with_len}
use Rattle.jk_math.specs.declared.rect.Rect.{Rect}
use Rattle.jk_math.specs.Raster.{raster}
use Rattle.jk_geom.specs.Rectangles.{resolution_area}
use Rattle.jk_lift.specs.Planes.{lifted_plane}
use Rattle.jk_wave.specs.Bands.{numbered_area}

-- The low-pass part after n levels, which stands on resolution levels - n: the samples f
-- themselves, and then what stands at the even places of each level (FDWT, F.4.1; 2D_DEINTERLEAVE,
-- F.4.5).
unfoldable pub reduced : Rect → (levels : ℕ) → (ℕ → ℕ → ℤ) → ℕ → ℕ → ℕ → ℤ
reduced a levels f zero = f
reduced a levels f (suc n) =
    let area = resolution_area a levels (levels - n) in
    λ x y. lifted_plane area.x0 area.x1 area.y0 area.y1 (reduced a levels f n) (2 * x) (2 * y)

-- The sub-bands, numbered as in QCD: LL is what is left after all levels. Sub-band o of resolution
-- r, with HL 1, LH 2 and HH 3, is what stands at odd x for HL, at odd y for LH and at odd x and y
-- for HH, where the level is taken of what was left above it.
unfoldable pub analysed : Rect → (levels : ℕ) → (ℕ → ℕ → ℤ) → ℕ → ℕ → ℕ → ℤ
analysed a levels f zero = reduced a levels f levels
analysed a levels f (suc b) =
    let r = b / 3 + 1 in
    let o = b % 3 + 1 in
    let area = resolution_area a levels r in
    λ x y. lifted_plane area.x0 area.x1 area.y0 area.y1 (reduced a levels f (levels - r)) (2 * x + o % 2)
    (2 * y + o / 2)

-- all sub-bands, each row by row on its own rectangle
unfoldable pub analysed_bands : Rect → (levels : ℕ) → (ℕ → ℕ → ℤ) → List (List ℤ)
analysed_bands a levels f =
    map (λ b. raster (numbered_area a levels b) (analysed a levels f b)) (range_with_len 0 (3 * levels + 1))
