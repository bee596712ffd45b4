-- How far coefficients are made of the rows that were given.
use Rattle.std.proofs.Common.{◌≡◌, ℕ, zero, suc, ◌+◌, ◌-◌, ◌%◌, ◌<◌, ◌≤◌, max, cond, inl, inr, refl, sym, ◌∙◌, ap, subst, add-one, arith}
use Rattle.std.proofs.lemmas.Bool.{cases_lt, le-leb, lt-leb}
use Rattle.jk_math.specs.declared.rect.Rect.{Rect}
use Rattle.jk_geom.specs.Rectangles.{IsArea, resolution_area}
use Rattle.jk_wave.specs.Levels.{half_bound, half_area}
use Rattle.jk_wave.proofs.Halves.{below_half, resolution_top}
use Rattle.jk_wave.proofs.RegionAreas.{resolution_is_area}
use Rattle.jk_wave.specs.falling.Intervals.{last_even, rows_fallen, rows_given, FallsWithin, FallsInOrder, FallsNone, FallsAll, GivenNone, GivenAll, GivenInOrder}

pub falls_all : FallsAll
unfolding rows_fallen
falls_all a y h = ap (λ t. cond t a.y1 (max a.y0 (last_even y))) (le-leb a.y1 y h)

pub falls_some : (a : Rect) (y : ℕ) → y < a.y1 → rows_fallen a y ≡ max a.y0 (last_even y)
unfolding rows_fallen
falls_some a y h = ap (λ t. cond t a.y1 (max a.y0 (last_even y))) (lt-leb a.y1 y h)

-- before an odd row and before an even one
pub falls_odd : (a : Rect) (y : ℕ) → y % 2 ≡ 1 → y < a.y1 → rows_fallen a y ≡ max a.y0 (y - 1)
falls_odd a y odd h = falls_some a y h ∙ ap (max a.y0) (let e : last_even y ≡ y - 1 = omega arith in e)

pub falls_even : (a : Rect) (y : ℕ) → y % 2 ≡ 0 → y < a.y1 → rows_fallen a y ≡ max a.y0 (y - 2)
falls_even a y even h = falls_some a y h ∙ ap (max a.y0) (let e : last_even y ≡ y - 2 = omega arith in e)

pub falls_none : FallsNone
falls_none a is = let upper = is.upper in elim (cases_lt a.y0 a.y1) [
  | inl lt ↦ let r = falls_some a a.y0 lt in omega (arith, r)
  | inr none ↦ let r = falls_all a a.y0 none in omega (arith, r, upper, none)
]

pub falls_within : FallsWithin
falls_within a y is = let upper = is.upper in elim (cases_lt y a.y1) [
  | inl lt ↦ let r = falls_some a y lt in (omega (arith, r), omega (arith, r, upper, lt))
  | inr all ↦ let r = falls_all a y all in (omega (arith, r, upper), omega (arith, r))
]

pub falls_in_order : FallsInOrder
falls_in_order a d e is le = let upper = is.upper in elim (cases_lt e a.y1) [
  | inl lt ↦ let r = falls_some a d (omega arith) in let s = falls_some a e lt in omega (arith, r, s, le)
  | inr all ↦ let s = falls_all a e all in let w = falls_within a d is in omega (arith, s, w.1)
]

pub given_first : (rect : Rect) (levels e : ℕ) → rows_given rect levels e 0 ≡ e
unfolding rows_given
given_first rect levels e = refl

pub given_next : (rect : Rect) (levels e n : ℕ) → rows_given rect levels e (suc n) ≡ half_bound (rows_fallen (resolution_area rect levels (levels - n)) (rows_given rect levels e n)) 0
unfolding rows_given
given_next rect levels e n = refl

-- the resolution below a level
pub below_is : (rect : Rect) (levels n r : ℕ) → n < levels → r + 1 ≡ levels - n → half_area (resolution_area rect levels (levels - n)) 0 ≡ resolution_area rect levels r
below_is rect levels n r less up = ap (λ k. half_area (resolution_area rect levels k) 0) (sym up) ∙ sym (below_half rect levels r (omega (arith, less, up)))

pub given_more : (rect : Rect) (levels e n : ℕ) → rows_given rect levels e (n + 1) ≡ half_bound (rows_fallen (resolution_area rect levels (levels - n)) (rows_given rect levels e n)) 0
given_more rect levels e n = ap (rows_given rect levels e) (add-one n) ∙ given_next rect levels e n

pub highest_is : (rect : Rect) (levels : ℕ) → resolution_area rect levels (levels - 0) ≡ rect
highest_is rect levels = ap (resolution_area rect levels) (let e : levels - 0 ≡ levels = omega arith in e) ∙ resolution_top rect levels

pub given_none : GivenNone
given_none rect levels zero is few = given_first rect levels rect.y0 ∙ sym (ap (λ (a : Rect). a.y0) (highest_is rect levels))
given_none rect levels (suc n) is few =
    let a = resolution_area rect levels (levels - n) in
    given_next rect levels rect.y0 n
    ∙ ap (λ y. half_bound (rows_fallen a y) 0) (given_none rect levels n is (omega arith))
    ∙ ap (λ y. half_bound y 0) (falls_none a (resolution_is_area rect levels (levels - n) is))
    ∙ ap (λ (b : Rect). b.y0) (below_is rect levels n (levels - suc n) (omega arith) (omega arith))

pub given_all : GivenAll
given_all rect levels zero is few = given_first rect levels rect.y1 ∙ sym (ap (λ (a : Rect). a.y1) (highest_is rect levels))
given_all rect levels (suc n) is few =
    let a = resolution_area rect levels (levels - n) in
    given_next rect levels rect.y1 n
    ∙ ap (λ y. half_bound (rows_fallen a y) 0) (given_all rect levels n is (omega arith))
    ∙ ap (λ y. half_bound y 0) (falls_all a a.y1 (omega arith))
    ∙ ap (λ (b : Rect). b.y1) (below_is rect levels n (levels - suc n) (omega arith) (omega arith))

-- more rows give more rows below, and none more give none more
pub given_in_order : GivenInOrder
given_in_order rect levels d e zero is le = let x = given_first rect levels d in let y = given_first rect levels e in omega (arith, x, y, le)
given_in_order rect levels d e (suc n) is le =
    let a = resolution_area rect levels (levels - n) in
    let more = falls_in_order a (rows_given rect levels d n) (rows_given rect levels e n) (resolution_is_area rect levels (levels - n) is) (given_in_order rect levels d e n is le) in
    let x = given_next rect levels d n in let y = given_next rect levels e n in omega (arith, x, y, more)

pub given_within : (rect : Rect) (levels e n : ℕ) → IsArea rect → rect.y0 ≤ e → e ≤ rect.y1 → n ≤ levels →
    ((resolution_area rect levels (levels - n)).y0 ≤ rows_given rect levels e n) × (rows_given rect levels e n ≤ (resolution_area rect levels (levels - n)).y1)
given_within rect levels e n is from to few =
    let x = given_in_order rect levels rect.y0 e n is from in let y = given_in_order rect levels e rect.y1 n is to in
    let none = given_none rect levels n is few in let all = given_all rect levels n is few in
    (omega (arith, x, none), omega (arith, y, all))

pub given_same : (rect : Rect) (levels d e n k : ℕ) → rows_given rect levels d n ≡ rows_given rect levels e n → rows_given rect levels d (n + k) ≡ rows_given rect levels e (n + k)
given_same rect levels d e n zero same = let e0 : n ≡ n + 0 = omega arith in subst (λ m. rows_given rect levels d m ≡ rows_given rect levels e m) e0 same
given_same rect levels d e n (suc k) same =
    let next : suc (n + k) ≡ n + suc k = omega arith in
    subst (λ m. rows_given rect levels d m ≡ rows_given rect levels e m) next
    (given_next rect levels d (n + k) ∙ ap (λ y. half_bound (rows_fallen (resolution_area rect levels (levels - (n + k))) y) 0) (given_same rect levels d e n k same) ∙ sym (given_next rect levels e (n + k)))

pub given_still : (rect : Rect) (levels d e n k : ℕ) → n ≤ k → rows_given rect levels d n ≡ rows_given rect levels e n → rows_given rect levels d k ≡ rows_given rect levels e k
given_still rect levels d e n k le same = subst (λ m. rows_given rect levels d m ≡ rows_given rect levels e m) (let e0 : n + (k - n) ≡ k = omega arith in e0) (given_same rect levels d e n (k - n) same)
