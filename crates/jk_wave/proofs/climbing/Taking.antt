-- Laws of what levels take and make.
use Rattle.std.proofs.Common.{◌≡◌, ℕ, zero, suc, ◌+◌, ◌-◌, ◌*◌, ◌/◌, ◌<◌, ◌≤◌, min, max, cond, inl, inr, refl, sym, ◌∙◌, ap, arith}
use Rattle.std.proofs.lemmas.Bool.{cases_lt, le-leb, lt-leb}
use Rattle.jk_math.specs.declared.rect.Rect.{Rect}
use Rattle.jk_geom.specs.Rectangles.{IsArea, resolution_area}
use Rattle.jk_wave.specs.Levels.{half_bound}
use Rattle.jk_wave.proofs.Halves.{below_half}
use Rattle.jk_wave.proofs.RegionAreas.{resolution_is_area}
use Rattle.jk_wave.specs.climbing.Intervals.{rows_taken, rows_reached, rows_asked, MadeEnough, TakesNoMore, TakesInOrder, TakesWithin, TakesPairs, TakesAll, EndsInOrder}

pub taken_none : (a : Rect) (e : ℕ) → e ≤ a.y0 → rows_taken a e ≡ a.y0
unfolding rows_taken
taken_none a e h = ap (λ t. cond t a.y0 (min a.y1 (2 * (e / 2) + 2))) (le-leb e a.y0 h)

pub taken_some : (a : Rect) (e : ℕ) → a.y0 < e → rows_taken a e ≡ min a.y1 (2 * (e / 2) + 2)
unfolding rows_taken
taken_some a e h = ap (λ t. cond t a.y0 (min a.y1 (2 * (e / 2) + 2))) (lt-leb e a.y0 h)

pub reached_all : (a : Rect) (v : ℕ) → a.y1 ≤ v → rows_reached a v ≡ a.y1
unfolding rows_reached
reached_all a v h = ap (λ t. cond t a.y1 (max a.y0 (v - 1))) (le-leb a.y1 v h)

pub reached_some : (a : Rect) (v : ℕ) → v < a.y1 → rows_reached a v ≡ max a.y0 (v - 1)
unfolding rows_reached
reached_some a v h = ap (λ t. cond t a.y1 (max a.y0 (v - 1))) (lt-leb a.y1 v h)

pub made_enough : MadeEnough
made_enough a e is small = elim (cases_lt a.y0 e) [
  | inl lt ↦
      let t = taken_some a e lt in
      elim (cases_lt (rows_taken a e) a.y1) [
        | inl less ↦ let r = reached_some a (rows_taken a e) less in omega (arith, t, r, less)
        | inr all ↦ let r = reached_all a (rows_taken a e) all in omega (arith, r, small)
      ]
  | inr none ↦
      let upper = is.upper in
      elim (cases_lt (rows_taken a e) a.y1) [
        | inl less ↦ let r = reached_some a (rows_taken a e) less in omega (arith, r, none)
        | inr all ↦ let r = reached_all a (rows_taken a e) all in omega (arith, r, small)
      ]
]

pub takes_no_more : TakesNoMore
takes_no_more a v is from even to = elim (cases_lt v a.y1) [
  | inl less ↦
      let r = reached_some a v less in
      elim (cases_lt a.y0 (rows_reached a v)) [
        | inl lt ↦ let t = taken_some a (rows_reached a v) lt in omega (arith, t, r, lt, even)
        | inr none ↦ let t = taken_none a (rows_reached a v) none in omega (arith, t, from)
      ]
  | inr all ↦
      let r = reached_all a v all in
      elim (cases_lt a.y0 (rows_reached a v)) [
        | inl lt ↦ let t = taken_some a (rows_reached a v) lt in omega (arith, t, all)
        | inr none ↦ let t = taken_none a (rows_reached a v) none in omega (arith, t, from)
      ]
]

pub takes_within : TakesWithin
takes_within a e is = let upper = is.upper in elim (cases_lt a.y0 e) [
  | inl lt ↦ let t = taken_some a e lt in (omega (arith, t, lt, upper), omega (arith, t))
  | inr none ↦ let t = taken_none a e none in (omega (arith, t), omega (arith, t, upper))
]

pub takes_pairs : TakesPairs
takes_pairs a e is some less = elim (cases_lt a.y0 e) [
  | inl lt ↦ let t = taken_some a e lt in omega (arith, t, less)
  | inr none ↦ let t = taken_none a e none in absurd (omega (arith, t, some))
]

pub takes_in_order : TakesInOrder
takes_in_order a d e is le = elim (cases_lt a.y0 d) [
  | inl lt ↦ let t = taken_some a d lt in let u = taken_some a e (omega (arith, lt, le)) in omega (arith, t, u, le)
  | inr none ↦ let t = taken_none a d none in let w = takes_within a e is in omega (arith, t, w.0)
]

pub ends_none : (rect : Rect) (levels top e : ℕ) → rows_asked rect levels top e 0 ≡ e
unfolding rows_asked
ends_none rect levels top e = refl

pub ends_more : (rect : Rect) (levels top e n : ℕ) → rows_asked rect levels top e (suc n) ≡ half_bound (rows_taken (resolution_area rect levels (top - n)) (rows_asked rect levels top e n)) 0
unfolding rows_asked
ends_more rect levels top e n = refl

-- all rows are taken where all are asked for
pub taken_all : (a : Rect) → IsArea a → rows_taken a a.y1 ≡ a.y1
taken_all a is = let upper = is.upper in elim (cases_lt a.y0 a.y1) [
  | inl lt ↦ let t = taken_some a a.y1 lt in omega (arith, t)
  | inr none ↦ let t = taken_none a a.y1 none in omega (arith, t, upper, none)
]

pub takes_all : TakesAll
takes_all rect levels top zero is few within =
    ends_none rect levels top (resolution_area rect levels top).y1 ∙ ap (λ r. (resolution_area rect levels r).y1) (let e : top ≡ top - 0 = omega arith in e)
takes_all rect levels top (suc n) is few within =
    let a = resolution_area rect levels (top - n) in
    let r : ℕ = top - suc n in
    let next : r + 1 ≡ top - n = omega arith in
    ends_more rect levels top (resolution_area rect levels top).y1 n
    ∙ ap (λ e. half_bound (rows_taken a e) 0) (takes_all rect levels top n is few (omega arith))
    ∙ ap (λ e. half_bound e 0) (taken_all a (resolution_is_area rect levels (top - n) is))
    ∙ ap (λ q. half_bound (resolution_area rect levels q).y1 0) (sym next)
    ∙ sym (ap (λ (b : Rect). b.y1) (below_half rect levels r (omega arith)))

pub ends_in_order : EndsInOrder
ends_in_order rect levels top d e zero is le = let x = ends_none rect levels top d in let y = ends_none rect levels top e in omega (arith, x, y, le)
ends_in_order rect levels top d e (suc n) is le =
    let a = resolution_area rect levels (top - n) in
    let before = ends_in_order rect levels top d e n is le in
    let less = takes_in_order a (rows_asked rect levels top d n) (rows_asked rect levels top e n) (resolution_is_area rect levels (top - n) is) before in
    let x = ends_more rect levels top d n in let y = ends_more rect levels top e n in omega (arith, x, y, less)

-- nothing is made before the first row
pub reached_none : (a : Rect) → IsArea a → rows_reached a a.y0 ≡ a.y0
reached_none a is = let upper = is.upper in elim (cases_lt a.y0 a.y1) [
  | inl lt ↦ let r = reached_some a a.y0 lt in omega (arith, r)
  | inr none ↦ let r = reached_all a a.y0 none in omega (arith, r, upper, none)
]

-- what is made grows
pub reached_more : (a : Rect) (v t : ℕ) → IsArea a → v ≤ t → rows_reached a v ≤ rows_reached a t
reached_more a v t is le = let upper = is.upper in elim (cases_lt t a.y1) [
  | inl lt ↦ let r = reached_some a v (omega arith) in let s = reached_some a t lt in omega (arith, r, s, le)
  | inr all ↦
      let s = reached_all a t all in
      elim (cases_lt v a.y1) [
        | inl lt ↦ let r = reached_some a v lt in omega (arith, r, s, upper, lt)
        | inr too ↦ let r = reached_all a v too in omega (arith, r, s)
      ]
]
