-- The rows of a stripe are rows of the picture.
use Rattle.std.proofs.Common.{◌≡◌, ℕ, ◌+◌, ◌-◌, ◌*◌, ◌/◌, ◌%◌, ◌<◌, ◌≤◌, List, [], length, get_or, ℤ, pos, sym, ap, ◌∙◌, arith}
use Rattle.std.proofs.lemmas.List.FromFn.{length-map-range_with_len, get_or-map-range_with_len}
use Rattle.std.proofs.lemmas.Nat.{div-add-mod'}
use Rattle.jk_math.specs.declared.rect.Rect.{Rect}
use Rattle.jk_math.specs.Picture.{Picture, sample_at}
use Rattle.jk_math.specs.Raster.{raster}
use Rattle.jk_math.proofs.Laws.{raster_entry}
use Rattle.jk_code.specs.Made.{rows_of}

-- the samples of a component in a stripe
abbrev stripe_plane : Picture → (y z c : ℕ) → List ℤ
stripe_plane p y z c = raster (record { x0 = p.x0; y0 = y; x1 = p.x0 + p.width; y1 = z }) (λ u v. sample_at p c (u - p.x0) (v - p.y0))

-- It has the picture's components,
pub rows_components : (p : Picture) (y z : ℕ) → length (rows_of p y z).planes ≡ length p.planes
rows_components p y z = length-map-range_with_len (stripe_plane p y z) 0 (length p.planes)

place_of : (x0 y0 y w k : ℕ) → y0 ≤ y → (y + k / w - y0) * w + ((x0 + k % w) - x0) ≡ (y - y0) * w + k
place_of x0 y0 y w k low =
    let q : ℕ = k / w in
    let r : ℕ = k % w in
    let split : q * w + r ≡ k = div-add-mod' k w in
    let down : y + q - y0 ≡ (y - y0) + q = omega (arith, low) in
    let spread : ((y - y0) + q) * w ≡ (y - y0) * w + q * w = grind arith in
    let across : (x0 + r) - x0 ≡ r = omega arith in
    ap (λ t. t * w + ((x0 + r) - x0)) down ∙ (let e : ((y - y0) + q) * w + ((x0 + r) - x0) ≡ (y - y0) * w + k = omega (arith, spread, across, split) in e)

-- and each of its samples is one of the picture's.
pub rows_sample : (p : Picture) (y z c k : ℕ) → p.y0 ≤ y → c < length p.planes → k < (z - y) * p.width
    → get_or (get_or (rows_of p y z).planes c []) k (pos 0) ≡ get_or (get_or p.planes c []) ((y - p.y0) * p.width + k) (pos 0)
rows_sample p y z c k low less lt =
    let w = p.width in
    let a : Rect = record { x0 = p.x0; y0 = y; x1 = p.x0 + w; y1 = z } in
    let n = length p.planes in
    let wide : (p.x0 + w) - p.x0 ≡ w = omega arith in
    let places : (z - y) * w ≡ (z - y) * ((p.x0 + w) - p.x0) = ap (λ t. (z - y) * t) (sym wide) in
    ap (λ (plane : List ℤ). get_or plane k (pos 0)) (get_or-map-range_with_len (stripe_plane p y z) 0 n c c [] less (omega arith))
    ∙ raster_entry a (λ u v. sample_at p c (u - p.x0) (v - p.y0)) k (omega (arith, lt, places))
    ∙ ap (λ t. get_or (get_or p.planes c []) ((y + k / t - p.y0) * w + ((p.x0 + k % t) - p.x0)) (pos 0)) wide
    ∙ ap (λ t. get_or (get_or p.planes c []) t (pos 0)) (place_of p.x0 p.y0 y w k low)
