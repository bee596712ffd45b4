-- How far the resolutions of a source are taken and made.
use Rattle.std.proofs.Common.{◌≡◌, ℕ, zero, suc, ◌+◌, ◌-◌, ◌*◌, ◌/◌, ◌<◌, ◌≤◌, inl, inr, min, cond, refl, sym, ◌∙◌, ap, subst, add-one, arith}
use Rattle.std.proofs.lemmas.Bool.{cases_lt, lt-leb}
use Rattle.jk_math.specs.declared.rect.Rect.{Rect}
use Rattle.jk_geom.specs.Rectangles.{IsArea, resolution_area}
use Rattle.jk_wave.specs.declared.region.Region.{Region}
use Rattle.jk_wave.specs.Levels.{half_bound, half_area}
use Rattle.jk_wave.specs.climbing.Intervals.{rows_taken, rows_reached, rows_asked}
use Rattle.jk_wave.specs.climbing.Stack.{taken_of, made_of}
use Rattle.jk_wave.proofs.Laws.{taken_none, taken_all, ends_none, ends_more, reached_none, reached_some, reached_all, made_lowest, made_above, resolution_is_area, takes_within, half_is, ends_in_order, first_made}
use Rattle.jk_tile.specs.decoding.Source.{Source, IsSource}
use Rattle.jk_rows.specs.Components.{area_at, taken_rows, made_rows, IsStepEnd}

pub taken_low : (s : Source) (e : ℕ) → taken_rows s 0 e ≡ rows_asked s.region.rect s.region.levels s.region.top e s.region.top
unfolding taken_rows
taken_low s e = refl

pub taken_high : (s : Source) (q e : ℕ) → taken_rows s (q + 1) e ≡ taken_of s.region.rect s.region.levels s.region.top e q
unfolding taken_rows
taken_high s q e = ap (λ r. taken_rows s r e) (add-one q)

pub made_low : (s : Source) (e : ℕ) → made_rows s 0 e ≡ rows_asked s.region.rect s.region.levels s.region.top e s.region.top
unfolding made_rows
made_low s e = refl

pub made_high : (s : Source) (q e : ℕ) → made_rows s (q + 1) e ≡ made_of s.region.rect s.region.levels s.region.top e (q + 1)
unfolding made_rows
made_high s q e = ap (λ r. made_rows s r e) (add-one q) ∙ sym (ap (made_of s.region.rect s.region.levels s.region.top e) (add-one q))

-- what is made of the lowest is what is taken of it
pub made_is : (s : Source) (q e : ℕ) → 0 < s.region.top → made_rows s q e ≡ made_of s.region.rect s.region.levels s.region.top e q
made_is s zero e some =
    let rect = s.region.rect in
    let levels = s.region.levels in
    let top : ℕ = s.region.top in
    let n : ℕ = top - 1 in
    let next : suc n ≡ top = omega (arith, some) in
    let one : top - n ≡ 0 + 1 = omega (arith, some) in
    let back : n ≡ top - (0 + 1) = omega arith in
    made_low s e ∙ ap (rows_asked rect levels top e) (sym next) ∙ ends_more rect levels top e n
    ∙ ap (λ r. half_bound (rows_taken (resolution_area rect levels r) (rows_asked rect levels top e n)) 0) one
    ∙ ap (λ m. half_bound (rows_taken (resolution_area rect levels (0 + 1)) (rows_asked rect levels top e m)) 0) back
    ∙ sym (made_lowest rect levels top e)
made_is s (suc q) e some = subst (λ r. made_rows s r e ≡ made_of s.region.rect s.region.levels s.region.top e r) (add-one q) (made_high s q e)

taken_some : (a : Rect) (e : ℕ) → a.y0 < e → rows_taken a e ≡ min a.y1 (2 * (e / 2) + 2)
unfolding rows_taken
taken_some a e h = ap (λ t. cond t a.y0 (min a.y1 (2 * (e / 2) + 2))) (lt-leb e a.y0 h)

-- a level makes the rows up to the end of a step, and no other
reached_end : (a : Rect) (e : ℕ) → IsArea a → IsStepEnd a e → rows_reached a (rows_taken a e) ≡ e
reached_end a e is at = let from = at.from in let to = at.to in elim (cases_lt a.y0 e) [
  | inl behind ↦ elim (cases_lt e a.y1) [
    | inl short ↦
        let odd = at.odd behind short in
        let inside = at.inside behind short in
        let t = taken_some a e behind in
        let v : rows_taken a e ≡ e + 1 = omega (arith, t, odd, inside) in
        let r = reached_some a (rows_taken a e) (omega (arith, v, inside)) in
        omega (arith, r, v, behind)
    | inr all ↦
        let last : e ≡ a.y1 = omega (arith, all, to) in
        ap (λ n. rows_reached a (rows_taken a n)) last ∙ ap (rows_reached a) (taken_all a is) ∙ reached_all a a.y1 (omega arith) ∙ sym last
  ]
  | inr none ↦
      let first : e ≡ a.y0 = omega (arith, none, from) in
      ap (rows_reached a) (taken_none a e none) ∙ reached_none a is ∙ sym first
]

pub top_made : (s : Source) (e : ℕ) → IsArea s.region.rect → IsStepEnd (area_at s s.region.top) e → made_rows s s.region.top e ≡ e
top_made s e is at = by s.region.top refl
  where
    by : (n : ℕ) → s.region.top ≡ n → made_rows s s.region.top e ≡ e
    by zero none =
        ap (λ r. made_rows s r e) none ∙ made_low s e ∙ ap (rows_asked s.region.rect s.region.levels s.region.top e) none
        ∙ ends_none s.region.rect s.region.levels s.region.top e
    by (suc p) top =
        let rect = s.region.rect in
        let levels = s.region.levels in
        let next : s.region.top ≡ p + 1 = omega (arith, top) in
        let a = resolution_area rect levels (p + 1) in
        let none : s.region.top - (p + 1) ≡ 0 = omega (arith, top) in
        let here : IsStepEnd a e = subst (λ n. IsStepEnd (resolution_area rect levels n) e) next at in
        ap (λ r. made_rows s r e) next ∙ made_high s p e ∙ made_above rect levels s.region.top e p
        ∙ ap (λ m. rows_reached a (rows_taken a (rows_asked rect levels s.region.top e m))) none
        ∙ ap (λ m. rows_reached a (rows_taken a m)) (ends_none rect levels s.region.top e)
        ∙ reached_end a e (resolution_is_area rect levels (p + 1) is) here

-- what is asked for lies in its resolution
asked_within : (rect : Rect) (levels top e n : ℕ) → IsArea rect → top ≤ levels → n ≤ top → (resolution_area rect levels top).y0 ≤ e → e ≤ (resolution_area rect levels top).y1
    → ((resolution_area rect levels (top - n)).y0 ≤ rows_asked rect levels top e n) × (rows_asked rect levels top e n ≤ (resolution_area rect levels (top - n)).y1)
asked_within rect levels top e zero is few within from to =
    let all : top ≡ top - 0 = omega arith in
    let x = ends_none rect levels top e in
    subst (λ r. ((resolution_area rect levels r).y0 ≤ rows_asked rect levels top e 0) × (rows_asked rect levels top e 0 ≤ (resolution_area rect levels r).y1)) all (omega (arith, x, from), omega (arith, x, to))
asked_within rect levels top e (suc n) is few within from to =
    let a = resolution_area rect levels (top - n) in
    let r : ℕ = top - suc n in
    let next : r + 1 ≡ top - n = omega (arith, within) in
    let x = ends_more rect levels top e n in
    let taken = takes_within a (rows_asked rect levels top e n) (resolution_is_area rect levels (top - n) is) in
    let half : half_area a 0 ≡ resolution_area rect levels r = ap (λ q. half_area (resolution_area rect levels q) 0) (sym next) ∙ half_is rect levels r (omega (arith, within, few)) in
    let upper = ap (λ (b : Rect). b.y0) half in
    let lower = ap (λ (b : Rect). b.y1) half in
    (omega (arith, x, upper, taken.0), omega (arith, x, lower, taken.1))

pub low_within : (s : Source) (e : ℕ) → IsSource s → (area_at s s.region.top).y0 ≤ e → e ≤ (area_at s s.region.top).y1 → ((area_at s 0).y0 ≤ taken_rows s 0 e) × (taken_rows s 0 e ≤ (area_at s 0).y1)
low_within s e is from to =
    let rect = s.region.rect in
    let levels = s.region.levels in
    let top : ℕ = s.region.top in
    let none : top - top ≡ 0 = omega arith in
    let x = taken_low s e in
    let w = subst (λ r. ((resolution_area rect levels r).y0 ≤ rows_asked rect levels top e top) × (rows_asked rect levels top e top ≤ (resolution_area rect levels r).y1)) none
    (asked_within rect levels top e top is.region.rect is.region.top (omega arith) from to) in
    (omega (arith, x, w.0), omega (arith, x, w.1))

pub low_more : (s : Source) (d e : ℕ) → IsSource s → d ≤ e → taken_rows s 0 d ≤ taken_rows s 0 e
low_more s d e is le =
    let x = taken_low s d in let y = taken_low s e in
    let o = ends_in_order s.region.rect s.region.levels s.region.top d e s.region.top is.region.rect le in
    omega (arith, x, y, o)

-- the lowest resolution before its first row
pub low_first : (s : Source) → IsSource s → taken_rows s 0 (area_at s s.region.top).y0 ≡ (area_at s 0).y0
low_first s is = by s.region.top refl
  where
    by : (n : ℕ) → s.region.top ≡ n → taken_rows s 0 (area_at s s.region.top).y0 ≡ (area_at s 0).y0
    by zero none =
        taken_low s (area_at s s.region.top).y0 ∙ ap (rows_asked s.region.rect s.region.levels s.region.top (area_at s s.region.top).y0) none
        ∙ ends_none s.region.rect s.region.levels s.region.top (area_at s s.region.top).y0 ∙ ap (λ r. (area_at s r).y0) none
    by (suc p) top =
        let some : 0 < s.region.top = omega (arith, top) in
        taken_low s (area_at s s.region.top).y0 ∙ sym (made_low s (area_at s s.region.top).y0) ∙ made_is s 0 (area_at s s.region.top).y0 some ∙ first_made s.region.rect s.region.levels s.region.top 0 is.region.rect is.region.top some (omega arith)

-- the rectangle of a resolution, as it is found
pub area_is : (s : Source) (r : ℕ) (rect : Rect) (region : Region) (area : Rect) → rect ≡ s.region.rect → region ≡ s.region → area ≡ resolution_area rect region.levels r → area ≡ area_at s r
area_is s r rect region area er eg e = e ∙ ap (λ (a : Rect). resolution_area a region.levels r) er ∙ ap (λ (g : Region). resolution_area s.region.rect g.levels r) eg

-- how far a resolution above the lowest is taken
pub taken_at : (s : Source) (r e : ℕ) → 0 < r → rows_taken (area_at s r) (rows_asked s.region.rect s.region.levels s.region.top e (s.region.top - r)) ≡ taken_rows s r e
taken_at s zero e some = absurd (omega arith)
taken_at s (suc q) e some = subst (λ n. rows_taken (area_at s n) (rows_asked s.region.rect s.region.levels s.region.top e (s.region.top - n)) ≡ taken_rows s n e) (add-one q) (sym (taken_high s q e))

-- what is asked for, as it is found
pub asked_is : (s : Source) (r e end : ℕ) (rect : Rect) (region : Region) → rect ≡ s.region.rect → region ≡ s.region → end ≡ rows_asked rect region.levels region.top e (region.top - r)
    → end ≡ rows_asked s.region.rect s.region.levels s.region.top e (s.region.top - r)
asked_is s r e end rect region er eg is = is ∙ ap (λ (a : Rect). rows_asked a region.levels region.top e (region.top - r)) er ∙ ap (λ (g : Region). rows_asked s.region.rect g.levels g.top e (g.top - r)) eg
