-- The coefficients and samples of a source are small.
use Rattle.std.proofs.Common.{◌≡◌, ℕ, zero, suc, ◌+◌, ◌-◌, ◌*◌, ◌/◌, ◌%◌, ◌^◌, ◌<◌, ◌≤◌, length, ℤ, pos, refl, sym, ◌∙◌, ap, subst, add-one, arith}
use Rattle.std.specs.Prelude.{unsigned_abs}
use Rattle.std.proofs.lemmas.Int.{ints}
use Rattle.std.specs.List.{All}
use Rattle.std.proofs.lemmas.List.Elements.{All-from_get_or}
use Rattle.jk_math.specs.Raster.{columns_of, raster}
use Rattle.jk_math.specs.Signed.{IsBelow}
use Rattle.jk_math.proofs.Laws.{raster_length, raster_entry, entry_place}
use Rattle.jk_wave.specs.Resolutions.{resolution_of}
use Rattle.jk_wave.specs.climbing.Held.{rows_between}
use Rattle.jk_wave.specs.climbing.Stack.{AreSmallBands}
use Rattle.jk_wave.proofs.Laws.{bounds_resolutions, rows_small}
use Rattle.jk_walk.specs.TilePackets.{orientations, band_number}
use Rattle.jk_tile.specs.TileBlocks.{band_resolution, band_index}
use Rattle.jk_tile.specs.decoding.Source.{Source, IsSource, source_coefficient}
use Rattle.jk_tile.proofs.Laws.{source_small}
use Rattle.jk_rows.specs.Components.{area_at}

-- each number is that of a sub-band
numbered : (b : ℕ) → band_number (band_resolution b) (band_index b) ≡ b
numbered zero = refl
numbered (suc b) = ap (λ r. band_number r (b % 3)) (add-one (b / 3)) ∙ (let e : 3 * (b / 3) + 1 + b % 3 ≡ suc b = omega arith in e)

index_few : (b : ℕ) → band_index b < length (orientations (band_resolution b))
index_few zero = omega arith
index_few (suc b) = subst (λ r. b % 3 < length (orientations r)) (sym (add-one (b / 3))) (let e : b % 3 < 3 = omega arith in e)

few_resolutions : (b top : ℕ) → b ≤ 3 * top → band_resolution b ≤ top
few_resolutions zero top le = omega arith
few_resolutions (suc b) top le = omega (arith, le)

magnitude : (m : ℕ) (z : ℤ) → IsBelow m z → unsigned_abs z ≤ m
magnitude m z h = let low = h.0 in let high = h.1 in omega (arith, ints)

pub small_bands : (s : Source) → IsSource s → AreSmallBands s.region.rect s.region.levels s.region.top (source_coefficient s)
small_bands s is b x y below w =
    let few = few_resolutions b s.region.top below in
    let top = is.region.top in let levels = is.levels in
    magnitude (2 ^ 23) (source_coefficient s b x y) (subst (λ n. IsBelow (2 ^ 23) (source_coefficient s n x y)) (numbered b)
    (source_small s (band_resolution b) (band_index b) x y is (omega (arith, few, top, levels)) (index_few b)))

-- rows of a resolution below the highest
pub below_small : (s : Source) (q p r : ℕ) → IsSource s → q < s.region.top → (area_at s q).y0 ≤ p → r ≤ (area_at s q).y1
    → All (IsBelow (2 ^ 29 - 2 ^ 26)) (raster (rows_between (area_at s q) p r) (resolution_of s.region.rect s.region.levels (source_coefficient s) q))
below_small s q p r is less from to = rows_small s.region.rect s.region.levels s.region.top q p r (source_coefficient s) is.region.rect is.region.levels is.region.top less (small_bands s is) from to

sized : (z : ℤ) → unsigned_abs z < 2 ^ 29 → IsBelow (2 ^ 29) z
sized z h = (omega (arith, ints), omega (arith, ints))

-- and of the highest
pub top_small : (s : Source) (p r : ℕ) → IsSource s → (area_at s s.region.top).y0 ≤ p → r ≤ (area_at s s.region.top).y1
    → All (IsBelow (2 ^ 29)) (raster (rows_between (area_at s s.region.top) p r) (resolution_of s.region.rect s.region.levels (source_coefficient s) s.region.top))
top_small s p r is from to =
    let a = area_at s s.region.top in
    let rows = rows_between a p r in
    let g = resolution_of s.region.rect s.region.levels (source_coefficient s) s.region.top in
    All-from_get_or (IsBelow (2 ^ 29)) (raster rows g) (pos 0) (λ k lt.
    let h = raster_length rows g in
    let inside : k < (r - p) * columns_of a = omega (arith, lt, h) in
    let place = entry_place rows k inside in
    let bound = bounds_resolutions s.region.rect s.region.levels (source_coefficient s) s.region.top is.region.levels is.region.top (small_bands s is)
    (a.x0 + k % columns_of a) (p + k / columns_of a) (record { left = place.left; right = place.right; upper = (let u = place.upper in omega (arith, u, from)); lower = (let l = place.lower in omega (arith, l, to)) }) in
    subst (IsBelow (2 ^ 29)) (sym (raster_entry rows g k inside)) (sized (g (a.x0 + k % columns_of a) (p + k / columns_of a)) bound))
