-- The planes of a raster.
use Rattle.std.proofs.Common.{◌≡◌, ℕ, ◌+◌, ◌*◌, ◌<◌, Bool, true, false, cond, ltb, List, [], ◌∷◌, ◌++◌, length, map, take, drop, get_or, ℤ, pos, refl, sym, ap, ◌∙◌, arith}
use Rattle.std.specs.List.{range_with_len}
use Rattle.std.proofs.lemmas.List.FromFn.{fill_by_all}
use Rattle.std.proofs.lemmas.List.{take-append-le, take_all}
use Rattle.std.proofs.lemmas.Simd.{map-map}
use Rattle.jk_pnm.specs.declared.header.Header.{Header}
use Rattle.jk_pnm.specs.Pnm.{components_of, sample_from, plane_from, planes_from}
use Rattle.jk_pnm.specs.Reading.{raster_size}

wide_samples : (maxval n c : ℕ) (raster pixels : List ℕ) → ltb 255 maxval ≡ true
    → map pos (map (λ p. sample_from maxval raster (p * n + c)) pixels) ≡ map (λ p. pos (256 * get_or raster (2 * (p * n + c)) 0 + get_or raster (2 * (p * n + c) + 1) 0)) pixels
wide_samples maxval n c raster [] e = refl
wide_samples maxval n c raster (p ∷ pixels) e =
    let k = p * n + c in
    let wide = 256 * get_or raster (2 * k) 0 + get_or raster (2 * k + 1) 0 in
    ap (λ b. pos (cond b wide (get_or raster k 0)) ∷ map pos (map (λ q. sample_from maxval raster (q * n + c)) pixels)) e
    ∙ ap (λ (zs : List ℤ). pos wide ∷ zs) (wide_samples maxval n c raster pixels e)

narrow_samples : (maxval n c : ℕ) (raster pixels : List ℕ) → ltb 255 maxval ≡ false
    → map pos (map (λ p. sample_from maxval raster (p * n + c)) pixels) ≡ map (λ p. pos (get_or raster (p * n + c) 0)) pixels
narrow_samples maxval n c raster [] e = refl
narrow_samples maxval n c raster (p ∷ pixels) e =
    let k = p * n + c in
    let wide = 256 * get_or raster (2 * k) 0 + get_or raster (2 * k + 1) 0 in
    ap (λ b. pos (cond b wide (get_or raster k 0)) ∷ map pos (map (λ q. sample_from maxval raster (q * n + c)) pixels)) e
    ∙ ap (λ (zs : List ℤ). pos (get_or raster k 0) ∷ zs) (narrow_samples maxval n c raster pixels e)

pub wide_plane_is : (maxval n pixels c : ℕ) (raster : List ℕ) → ltb 255 maxval ≡ true
    → map (λ p. pos (256 * get_or raster (2 * (p * n + c)) 0 + get_or raster (2 * (p * n + c) + 1) 0)) (range_with_len 0 pixels) ≡ map pos (plane_from maxval n pixels raster c)
wide_plane_is maxval n pixels c raster e = sym (wide_samples maxval n c raster (range_with_len 0 pixels) e)

pub narrow_plane_is : (maxval n pixels c : ℕ) (raster : List ℕ) → ltb 255 maxval ≡ false
    → map (λ p. pos (get_or raster (p * n + c) 0)) (range_with_len 0 pixels) ≡ map pos (plane_from maxval n pixels raster c)
narrow_plane_is maxval n pixels c raster e = sym (narrow_samples maxval n c raster (range_with_len 0 pixels) e)

pub grey_plane_is : (maxval n pixels c : ℕ) (raster : List ℕ) → n ≡ 1 → c < n → length raster ≡ pixels → ltb 255 maxval ≡ false → map pos raster ≡ map pos (plane_from maxval n pixels raster c)
grey_plane_is maxval n pixels c raster one first whole e =
    let sample : ℕ → ℕ = λ p. sample_from maxval raster (p * n + c) in
    let same : (k : ℕ) → k < pixels → get_or raster k 0 ≡ sample k = λ k lt.
    let place : k ≡ k * n + c = omega (arith, ap (λ (m : ℕ). k * m) one) in
    let wide = 256 * get_or raster (2 * (k * n + c)) 0 + get_or raster (2 * (k * n + c) + 1) 0 in
    ap (λ j. get_or raster j 0) place ∙ sym (ap (λ b. cond b wide (get_or raster (k * n + c) 0)) e) in
    ap (λ (xs : List ℕ). map pos xs) (fill_by_all sample raster pixels 0 whole same)

-- an image that hasn't one component has three
pub coloured : (colour : Bool) → (components_of colour ≡ 1 → ⊥) → components_of colour ≡ 3
coloured true other = refl
coloured false other = absurd (other refl)

-- the length of a raster of samples of one byte and one component
pub grey_size : (h : Header) → components_of h.colour ≡ 1 → ltb 255 h.maxval ≡ false → raster_size h ≡ h.width * h.height
grey_size h one narrow =
    let pixels : ℕ = h.width * h.height in
    let size : ℕ = cond (ltb 255 h.maxval) 2 1 in
    let size_is : size ≡ 1 = ap (λ b. let k : ℕ = cond b 2 1 in k) narrow in
    let first : pixels * components_of h.colour * size ≡ pixels * 1 * size = ap (λ (m : ℕ). pixels * m * size) one in
    let second : pixels * 1 * size ≡ pixels * 1 * 1 = ap (λ (m : ℕ). pixels * 1 * m) size_is in
    let third : pixels * 1 * 1 ≡ pixels = omega arith in
    first ∙ second ∙ third

pub planes_are : (maxval n pixels : ℕ) (raster : List ℕ) → map (λ c. map pos (plane_from maxval n pixels raster c)) (range_with_len 0 n) ≡ map (map pos) (planes_from maxval n pixels raster)
unfolding planes_from
planes_are maxval n pixels raster = sym (map-map (map pos) (plane_from maxval n pixels raster) (range_with_len 0 n))

-- a list of samples that was filled sample by sample
pub filled : (sample : ℕ → ℤ) (new old : List ℤ) (long n : ℕ) → length new ≡ n → long ≡ n → ((k : ℕ) → k < n → get_or new k (pos 0) ≡ sample k)
    → take long (new ++ drop (length new) old) ≡ map sample (range_with_len 0 n)
filled sample new old long n count all each =
    take-append-le long new (drop (length new) old) (omega (arith, count, all))
    ∙ take_all long new (omega (arith, count, all))
    ∙ fill_by_all sample new n (pos 0) count each
