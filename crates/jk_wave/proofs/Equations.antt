-- One equation for each case of the definitions.
use Rattle.std.proofs.Common.{◌≡◌, ℕ, suc, ◌+◌, ◌-◌, ◌*◌, ◌/◌, ◌%◌, ◌<◌, ◌⊎◌, inl, inr, true, false, ◌&&◌, cond, eqb, ℤ, refl, ◌∙◌, ap, add-one, arith}
use Rattle.std.proofs.lemmas.Bool.{cases_eq}
use Rattle.jk_math.specs.declared.rect.Rect.{Rect}
use Rattle.jk_geom.specs.Rectangles.{resolution_area}
use Rattle.jk_wave.specs.Resolutions.{woven_plane, resolution_of}
use Rattle.jk_wave.specs.Analysis.{reduced, analysed}
use Rattle.jk_wave.specs.Levels.{unlifted_over, lifted_over}

both_zero : (a b : ℕ) → a ≡ 0 → b ≡ 0 → (eqb a 0 && eqb b 0) ≡ true
both_zero a b e f = rw (e, f) refl

not_both : (a b : ℕ) → a < 2 → (a ≡ 1) ⊎ (b ≡ 1) → (eqb a 0 && eqb b 0) ≡ false
not_both a b bit (inl e) = rw e refl
not_both a b bit (inr f) = elim (cases_eq a 0) [
  | inl e ↦ rw (e, f) refl
  | inr ne ↦ let e : a ≡ 1 = omega arith in rw e refl
]

pub woven_even : (low : ℕ → ℕ → ℤ) (high : ℕ → ℕ → ℕ → ℤ) (x y : ℕ) → x % 2 ≡ 0 → y % 2 ≡ 0 → woven_plane low high x y ≡ low (x / 2) (y / 2)
unfolding woven_plane
woven_even low high x y ex ey = ap (λ t. cond t (low (x / 2) (y / 2)) (high (x % 2 + 2 * (y % 2)) (x / 2) (y / 2))) (both_zero (x % 2) (y % 2) ex ey)

pub woven_odd : (low : ℕ → ℕ → ℤ) (high : ℕ → ℕ → ℕ → ℤ) (x y : ℕ) → (x % 2 ≡ 1) ⊎ (y % 2 ≡ 1) →
    woven_plane low high x y ≡ high (x % 2 + 2 * (y % 2)) (x / 2) (y / 2)
unfolding woven_plane
woven_odd low high x y odd = ap (λ t. cond t (low (x / 2) (y / 2)) (high (x % 2 + 2 * (y % 2)) (x / 2) (y / 2))) (not_both (x % 2) (y % 2) (omega arith) odd)

pub resolution_lowest : (a : Rect) (levels : ℕ) (bands : ℕ → ℕ → ℕ → ℤ) (x y : ℕ) → resolution_of a levels bands 0 x y ≡ bands 0 x y
unfolding resolution_of
resolution_lowest a levels bands x y = refl

-- the coefficients that resolution r + 1 is made of
abbrev pub level_of : Rect → (levels : ℕ) → (ℕ → ℕ → ℕ → ℤ) → ℕ → ℕ → ℕ → ℤ
level_of a levels bands r = woven_plane (resolution_of a levels bands r) (λ o. bands (3 * r + o))

pub resolution_more : (a : Rect) (levels : ℕ) (bands : ℕ → ℕ → ℕ → ℤ) (r x y : ℕ) →
    resolution_of a levels bands (r + 1) x y ≡ unlifted_over (resolution_area a levels (r + 1)) (level_of a levels bands r) x y
unfolding resolution_of
resolution_more a levels bands r x y = rw (add-one r) refl

pub reduced_none : (a : Rect) (levels : ℕ) (f : ℕ → ℕ → ℤ) (x y : ℕ) → reduced a levels f 0 x y ≡ f x y
unfolding reduced
reduced_none a levels f x y = refl

pub reduced_more : (a : Rect) (levels : ℕ) (f : ℕ → ℕ → ℤ) (n x y : ℕ) →
    reduced a levels f (n + 1) x y ≡ lifted_over (resolution_area a levels (levels - n)) (reduced a levels f n) (2 * x) (2 * y)
unfolding reduced
reduced_more a levels f n x y = rw (add-one n) refl

pub analysed_lowest : (a : Rect) (levels : ℕ) (f : ℕ → ℕ → ℤ) (x y : ℕ) → analysed a levels f 0 x y ≡ reduced a levels f levels x y
unfolding analysed
analysed_lowest a levels f x y = refl

analysed_suc : (a : Rect) (levels : ℕ) (f : ℕ → ℕ → ℤ) (b x y : ℕ) →
    analysed a levels f (suc b) x y ≡ lifted_over (resolution_area a levels (b / 3 + 1)) (reduced a levels f (levels - (b / 3 + 1))) (2 * x + (b % 3 + 1) % 2) (2 * y + (b % 3 + 1) / 2)
unfolding analysed
analysed_suc a levels f b x y = refl

-- sub-band o of the level below resolution r + 1, with HL 1, LH 2 and HH 3
pub analysed_more : (a : Rect) (levels : ℕ) (f : ℕ → ℕ → ℤ) (r o x y : ℕ) → 0 < o → o < 4 →
    analysed a levels f (3 * r + o) x y ≡ lifted_over (resolution_area a levels (r + 1)) (reduced a levels f (levels - (r + 1))) (2 * x + o % 2) (2 * y + o / 2)
analysed_more a levels f r o x y some few =
    let p : ℕ = o - 1 in
    let number : 3 * r + o ≡ suc (3 * r + p) = omega arith in
    let level : (3 * r + p) / 3 + 1 ≡ r + 1 = omega arith in
    let part : (3 * r + p) % 3 + 1 ≡ o = omega arith in
    ap (λ b. analysed a levels f b x y) number ∙ analysed_suc a levels f (3 * r + p) x y
    ∙ ap (λ n. lifted_over (resolution_area a levels n) (reduced a levels f (levels - n)) (2 * x + ((3 * r + p) % 3 + 1) % 2) (2 * y + ((3 * r + p) % 3 + 1) / 2)) level
    ∙ ap (λ n. lifted_over (resolution_area a levels (r + 1)) (reduced a levels f (levels - (r + 1))) (2 * x + n % 2) (2 * y + n / 2)) part
