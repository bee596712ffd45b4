-- The sub-bands depend on the samples of the rectangle alone.
use Rattle.std.proofs.Common.{◌≡◌, ℕ, zero, suc, ◌+◌, ◌-◌, ◌*◌, ◌/◌, ◌%◌, ◌<◌, ◌≤◌, List, ◌∷◌, map, ℤ, refl, sym, ◌∙◌, ap, subst, arith}
use Rattle.std.specs.List.{range_with_len}
use Rattle.jk_math.specs.declared.rect.Rect.{Rect}
use Rattle.jk_math.specs.Raster.{raster}
use Rattle.jk_math.proofs.Laws.{raster_same}
use Rattle.jk_geom.specs.Rectangles.{IsWithin, resolution_area}
use Rattle.jk_wave.specs.Analysis.{reduced, analysed, analysed_bands}
use Rattle.jk_wave.specs.Bands.{numbered_area}
use Rattle.jk_wave.specs.Levels.{half_area}
use Rattle.jk_wave.proofs.Equations.{reduced_none, reduced_more, analysed_lowest, analysed_more}
use Rattle.jk_wave.proofs.Halves.{half_within, below_half, lowest_area, number_area, resolution_top}
use Rattle.jk_wave.proofs.Within.{place_within}
use Rattle.jk_wave.proofs.Leaving.{lifted_agree}

-- two functions have the same values on a rectangle
abbrev pub Agree : Rect → (f g : ℕ → ℕ → ℤ) → Type 0
Agree a f g = (x y : ℕ) → IsWithin a x y → f x y ≡ g x y

left_agree : (a : Rect) (levels : ℕ) (f g : ℕ → ℕ → ℤ) → Agree a f g → (n : ℕ) → n ≤ levels → Agree (resolution_area a levels (levels - n)) (reduced a levels f n) (reduced a levels g n)
left_agree a levels f g same zero le = λ x y h.
    reduced_none a levels f x y ∙ same x y (subst (λ (s : Rect). IsWithin s x y) (ap (resolution_area a levels) (let e : levels - 0 ≡ levels = omega arith in e) ∙ resolution_top a levels) h) ∙ sym (reduced_none a levels g x y)
left_agree a levels f g same (suc n) le = λ x y h.
    let r : ℕ = levels - suc n in
    let area = resolution_area a levels (levels - n) in
    let up : levels - n ≡ r + 1 = omega (arith, le) in
    let half : resolution_area a levels r ≡ half_area area 0 = below_half a levels r (omega (arith, le)) ∙ ap (λ k. half_area (resolution_area a levels k) 0) (sym up) in
    let inside : IsWithin area (2 * x + 0) (2 * y + 0) = (half_within area 0 x y (omega arith)).0 (subst (λ (s : Rect). IsWithin s x y) half h) in
    let across : 2 * x + 0 ≡ 2 * x = omega arith in
    let down : 2 * y + 0 ≡ 2 * y = omega arith in
    let one : n + 1 ≡ suc n = omega arith in
    ap (λ k. reduced a levels f k x y) (sym one) ∙ reduced_more a levels f n x y
    ∙ lifted_agree area (reduced a levels f n) (reduced a levels g n) (left_agree a levels f g same n (omega (arith, le))) (2 * x) (2 * y) (subst (λ k. IsWithin area k (2 * y)) across (subst (λ k. IsWithin area (2 * x + 0) k) down inside))
    ∙ sym (reduced_more a levels g n x y) ∙ ap (λ k. reduced a levels g k x y) one

-- sub-band o of the level below resolution r + 1
high_agree : (a : Rect) (levels : ℕ) (f g : ℕ → ℕ → ℤ) → Agree a f g → (r o : ℕ) → r < levels → 0 < o → o < 4 → Agree (numbered_area a levels (3 * r + o)) (analysed a levels f (3 * r + o)) (analysed a levels g (3 * r + o))
high_agree a levels f g same r o less some few = λ x y h.
    let n : ℕ = levels - (r + 1) in
    let area = resolution_area a levels (r + 1) in
    let back : levels - n ≡ r + 1 = omega (arith, less) in
    let inside = (half_within area o x y few).0 (subst (λ (s : Rect). IsWithin s x y) (number_area a levels r o less some few) h) in
    analysed_more a levels f r o x y some few
    ∙ lifted_agree area (reduced a levels f n) (reduced a levels g n) (subst (λ k. Agree (resolution_area a levels k) (reduced a levels f n) (reduced a levels g n)) back (left_agree a levels f g same n (omega (arith, less)))) (2 * x + o % 2) (2 * y + o / 2) inside
    ∙ sym (analysed_more a levels g r o x y some few)

pub analysed_agree : (a : Rect) (levels : ℕ) (f g : ℕ → ℕ → ℤ) → Agree a f g → (b : ℕ) → b ≤ 3 * levels → Agree (numbered_area a levels b) (analysed a levels f b) (analysed a levels g b)
analysed_agree a levels f g same zero le = λ x y h.
    let none : levels - levels ≡ 0 = omega arith in
    let all = subst (λ k. Agree (resolution_area a levels k) (reduced a levels f levels) (reduced a levels g levels)) none (left_agree a levels f g same levels (omega arith)) in
    analysed_lowest a levels f x y ∙ all x y (subst (λ (s : Rect). IsWithin s x y) (lowest_area a levels) h) ∙ sym (analysed_lowest a levels g x y)
analysed_agree a levels f g same (suc b) le =
    let r : ℕ = b / 3 in
    let o : ℕ = b % 3 + 1 in
    let number : 3 * r + o ≡ suc b = omega arith in
    subst (λ k. Agree (numbered_area a levels k) (analysed a levels f k) (analysed a levels g k)) number (high_agree a levels f g same r o (omega (arith, le)) (omega arith) (omega arith))

lists_from : (f g : ℕ → List ℤ) (a n : ℕ) → ((i : ℕ) → a ≤ i → i < a + n → f i ≡ g i) → map f (range_with_len a n) ≡ map g (range_with_len a n)
lists_from f g a zero same = refl
lists_from f g a (suc n) same =
    ap (λ (l : List ℤ). l ∷ map f (range_with_len (a + 1) n)) (same a (omega arith) (omega arith))
    ∙ ap (λ (ls : List (List ℤ)). g a ∷ ls) (lists_from f g (a + 1) n (λ i from below. same i (omega (arith, from)) (omega (arith, below))))

pub bands_agree : (a : Rect) (levels : ℕ) (f g : ℕ → ℕ → ℤ) → Agree a f g → analysed_bands a levels f ≡ analysed_bands a levels g
unfolding analysed_bands
bands_agree a levels f g same =
    lists_from (λ b. raster (numbered_area a levels b) (analysed a levels f b)) (λ b. raster (numbered_area a levels b) (analysed a levels g b)) 0 (3 * levels + 1)
    (λ b from below. raster_same (numbered_area a levels b) (analysed a levels f b) (analysed a levels g b) (λ x y h. analysed_agree a levels f g same b (omega (arith, below)) x y (place_within (numbered_area a levels b) x y h)))
