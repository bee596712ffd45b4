-- What is made depends on the rows that were given alone.
use Rattle.std.proofs.Common.{◌≡◌, ℕ, zero, suc, ◌+◌, ◌-◌, ◌*◌, ◌%◌, ◌^◌, ◌<◌, ◌≤◌, cond, ltb, inl, inr, List, length, ℤ, sym, ◌∙◌, ap, subst, add-one, arith}
use Rattle.std.specs.List.{All}
use Rattle.std.proofs.lemmas.Bool.{cases_eq, cases_lt, lt-ltb, le-ltb}
use Rattle.jk_math.specs.declared.rect.Rect.{Rect}
use Rattle.jk_math.specs.Signed.{IsBelow}
use Rattle.jk_math.specs.Raster.{columns_of, raster, plane_at}
use Rattle.jk_math.proofs.Laws.{raster_is}
use Rattle.jk_geom.specs.Rectangles.{IsArea, IsWithin, resolution_area}
use Rattle.jk_lift.specs.Lifting.{before, after, high_at, lifted}
use Rattle.jk_lift.proofs.Laws.{high_at_is, lifted_odd, lifted_even, lifted_same, before_inside, before_first, after_inside}
use Rattle.jk_wave.specs.Levels.{lifted_over}
use Rattle.jk_wave.specs.Analysis.{reduced}
use Rattle.jk_wave.specs.SourceRows.{IsRow, AreBelow, column_high}
use Rattle.jk_wave.proofs.Equations.{reduced_none, reduced_more}
use Rattle.jk_wave.proofs.Halves.{half_within}
use Rattle.jk_wave.proofs.Synthesis.{entry_size, size_below}
use Rattle.jk_wave.specs.climbing.Held.{rows_between}
use Rattle.jk_wave.specs.declared.falling.fall.Fall.{Fall}
use Rattle.jk_wave.specs.declared.falling.level.FallingLevel.{FallingLevel}
use Rattle.jk_wave.specs.declared.falling.stack.Falling.{Falling}
use Rattle.jk_wave.specs.falling.Intervals.{last_even, rows_fallen, rows_given, GivenAlone}
use Rattle.jk_wave.specs.falling.Held.{IsFall}
use Rattle.jk_wave.specs.falling.Stack.{IsFallenTo, IsGiven}
use Rattle.jk_wave.proofs.falling.Making.{falls_some, below_is, highest_is, given_first, given_more}

-- the place before one, and its parity
before_near : (i0 i1 i : ℕ) → i0 + 2 ≤ i1 → i0 ≤ i → i < i1 → (i0 ≤ before i0 i1 i) × (before i0 i1 i ≤ i + 1) × (before i0 i1 i % 2 ≡ (i + 1) % 2)
before_near i0 i1 i tall from to = elim (cases_eq i i0) [
  | inl e ↦
      let at : before i0 i1 i ≡ i0 + 1 = ap (before i0 i1) e ∙ before_first i0 i1 tall in
      (omega (arith, at), omega (arith, at, e), ap (λ n. n % 2) (at ∙ ap (λ n. n + 1) (sym e)))
  | inr ne ↦
      let at : before i0 i1 i ≡ i - 1 = before_inside i0 i1 i tall (omega (arith, from, ne)) to in
      (omega (arith, at, from, ne), omega (arith, at), ap (λ n. n % 2) at ∙ (let e : (i - 1) % 2 ≡ (i + 1) % 2 = omega (arith, from, ne) in e))
]

-- above an even place a line depends on the places up to it
high_alone : (i0 i1 e i : ℕ) (x z : ℕ → ℤ) → i0 ≤ i → i < e → e < i1 → ((j : ℕ) → i0 ≤ j → j ≤ e → x j ≡ z j) → high_at i0 i1 x i ≡ high_at i0 i1 z i
high_alone i0 i1 e i x z from below inside same =
    let tall : i0 + 2 ≤ i1 = omega (arith, from, below, inside) in
    let next : after i0 i1 i ≡ i + 1 = after_inside i0 i1 i tall from (omega (arith, below, inside)) in
    let b = before_near i0 i1 i tall from (omega (arith, below, inside)) in
    high_at_is i0 i1 x i
    ∙ rw (same i from (omega (arith, below)), same (before i0 i1 i) b.0 (omega (arith, b.1, below)), same (after i0 i1 i) (omega (arith, next, from)) (omega (arith, next, below))) (sym (high_at_is i0 i1 z i))

line_alone : (i0 i1 e i : ℕ) (x z : ℕ → ℤ) → i0 ≤ i → i < e → e < i1 → e % 2 ≡ 0 → ((j : ℕ) → i0 ≤ j → j ≤ e → x j ≡ z j) → lifted i0 i1 x i ≡ lifted i0 i1 z i
line_alone i0 i1 e i x z from below inside even same =
    let tall : i0 + 2 ≤ i1 = omega (arith, from, below, inside) in
    elim (cases_eq (i % 2) 0) [
      | inl here ↦
          let far : i + 1 < e = omega (arith, below, even, here) in
          let next : after i0 i1 i ≡ i + 1 = after_inside i0 i1 i tall from (omega (arith, below, inside)) in
          let b = before_near i0 i1 i tall from (omega (arith, below, inside)) in
          lifted_even i0 i1 x i tall here
          ∙ rw (same i from (omega (arith, below)), high_alone i0 i1 e (before i0 i1 i) x z b.0 (omega (arith, b.1, far)) inside same, high_alone i0 i1 e (after i0 i1 i) x z (omega (arith, next, from)) (omega (arith, next, far)) inside same)
          (sym (lifted_even i0 i1 z i tall here))
      | inr odd ↦ lifted_odd i0 i1 x i tall (omega (arith, odd)) ∙ high_alone i0 i1 e i x z from below inside same ∙ sym (lifted_odd i0 i1 z i tall (omega (arith, odd)))
    ]

-- planes that have the same rows above row y
abbrev pub AgreeAbove : Rect → (y : ℕ) → (f g : ℕ → ℕ → ℤ) → Type 0
AgreeAbove a y f g = (x j : ℕ) → IsWithin a x j → j < y → f x j ≡ g x j

column_alone : (a : Rect) (v : ℕ) (f g : ℕ → ℕ → ℤ) → AgreeAbove a v f g → (x j : ℕ) → IsWithin a x j → j < rows_fallen a v → lifted a.y0 a.y1 (f x) j ≡ lifted a.y0 a.y1 (g x) j
column_alone a v f g same x j h made =
    let upper = h.upper in
    let lower = h.lower in
    elim (cases_lt v a.y1) [
      | inl less ↦
          let r = falls_some a v less in
          let e : ℕ = last_even v in
          let below : j < e = omega (arith, r, made, upper) in
          let under : e < v = omega (arith, below) in
          line_alone a.y0 a.y1 e j (f x) (g x) upper below (omega (arith, under, less)) (omega arith)
          (λ k from to. same x k (record { left = h.left; right = h.right; upper = from; lower = omega (arith, to, under, less) }) (omega (arith, to, under)))
      | inr all ↦ lifted_same a.y0 a.y1 (f x) (g x) j upper lower (λ k from to. same x k (record { left = h.left; right = h.right; upper = from; lower = to }) (omega (arith, to, all)))
    ]

pub plane_alone : (a : Rect) (v : ℕ) (f g : ℕ → ℕ → ℤ) → AgreeAbove a v f g → (x j : ℕ) → IsWithin a x j → j < rows_fallen a v → lifted_over a f x j ≡ lifted_over a g x j
plane_alone a v f g same x j h made =
    lifted_same a.x0 a.x1 (λ i. lifted a.y0 a.y1 (f i) j) (λ i. lifted a.y0 a.y1 (g i) j) x h.left h.right
    (λ i from to. column_alone a v f g same i j (record { left = from; right = to; upper = h.upper; lower = h.lower }) made)

-- each resolution
pub given_alone : GivenAlone
given_alone rect levels y zero f g is few same x j h made =
    let inside = subst (λ (a : Rect). IsWithin a x j) (highest_is rect levels) h in
    let first = given_first rect levels y in
    reduced_none rect levels f x j ∙ same x j inside (omega (arith, first, made)) ∙ sym (reduced_none rect levels g x j)
given_alone rect levels y (suc n) f g is few same x j h made =
    let a = resolution_area rect levels (levels - n) in
    let back : suc n ≡ n + 1 = sym (add-one n) in
    let there = subst (λ k. IsWithin (resolution_area rect levels (levels - k)) x j) back h in
    let low = subst (λ (r : Rect). IsWithin r x j) (sym (below_is rect levels n (levels - (n + 1)) (omega (arith, few)) (omega (arith, few)))) there in
    let twice = (half_within a 0 x j (omega arith)).0 low in
    let l = twice.left in let r = twice.right in let u = twice.upper in let b = twice.lower in
    let next = given_more rect levels y n in
    let less : j < rows_given rect levels y (n + 1) = subst (λ k. j < rows_given rect levels y k) back made in
    subst (λ k. reduced rect levels f k x j ≡ reduced rect levels g k x j) (add-one n)
    (reduced_more rect levels f n x j
    ∙ plane_alone a (rows_given rect levels y n) (reduced rect levels f n) (reduced rect levels g n) (given_alone rect levels y n f g is (omega (arith, few)) same)
    (2 * x) (2 * j) (record { left = omega (arith, l); right = omega (arith, r); upper = omega (arith, u); lower = omega (arith, b) }) (omega (arith, less, next))
    ∙ sym (reduced_more rect levels g n x j))

-- what a level holds
row_alone : (a : Rect) (p q : ℕ → ℤ) (row : List ℤ) → ((x : ℕ) → a.x0 ≤ x → x < a.x1 → p x ≡ q x) → IsRow a p row → IsRow a q row
row_alone a p q row same is = record { long = is.long; each = λ k lt. is.each k lt ∙ same (a.x0 + k) (omega arith) (omega (arith, lt)) }

held_alone : (a : Rect) (y : ℕ) (f g : ℕ → ℕ → ℤ) (s : Fall) → y ≤ a.y1 → AgreeAbove a y f g → IsFall a f y s → IsFall a g y s
held_alone a y f g s to same held =
    let e : ℕ = last_even y in
    record {
      even = λ behind far. row_alone a (λ x. f x e) (λ x. g x e) s.even.items
          (λ x left right. same x e (record { left = left; right = right; upper = far; lower = omega (arith, behind, to) }) (omega (arith, behind))) (held.even behind far);
      odd = λ behind even. row_alone a (λ x. f x (y - 1)) (λ x. g x (y - 1)) s.odd.items
          (λ x left right. same x (y - 1) (record { left = left; right = right; upper = omega (arith, behind); lower = omega (arith, behind, to) }) (omega (arith, behind))) (held.odd behind even);
      high = λ far. row_alone a (column_high a f (e - 1)) (column_high a g (e - 1)) s.high.items
          (λ x left right. high_alone a.y0 a.y1 e (e - 1) (f x) (g x) (omega (arith, far)) (omega (arith, far)) (omega (arith, far, to))
          (λ k from under. same x k (record { left = left; right = right; upper = from; lower = omega (arith, under, far, to) }) (omega (arith, under, far)))) (held.high far);
    }

-- and all levels
pub levels_alone : (f g : ℕ → ℕ → ℤ) (s : Falling) → AgreeAbove s.rect s.y f g → IsGiven f s → IsGiven g s
levels_alone f g s same given = record {
  area = given.area;
  few = given.few;
  upper = given.upper;
  lower = given.lower;
  at = record {
    count = given.at.count;
    each = λ n other less. level_alone s.rect s.levels s.y n f g _ given.area less same (given.at.each n other less);
  };
}
  where
    level_alone : (rect : Rect) (levels y n : ℕ) (f g : ℕ → ℕ → ℤ) (l : FallingLevel) → IsArea rect → n < levels → AgreeAbove rect y f g → IsFallenTo rect levels y f n l → IsFallenTo rect levels y g n l
    level_alone rect levels y n f g l is less same at = record {
      standing = at.standing;
      is = at.is;
      place = at.place;
      holds = λ short. held_alone l.area l.y (reduced rect levels f n) (reduced rect levels g n) l.fall (omega (arith, short))
          (λ x j h under. given_alone rect levels y n f g is (omega (arith, less)) same x j (subst (λ (r : Rect). IsWithin r x j) at.is h) (let place = at.place in omega (arith, under, place))) (at.holds short);
    }

-- a plane with the rows of a list from row y on
abbrev pub with_rows : Rect → (y e : ℕ) → (f : ℕ → ℕ → ℤ) → List ℤ → ℕ → ℕ → ℤ
with_rows rect y e f rows x j = cond (ltb j y) (f x j) (plane_at (rows_between rect y e) rows x j)

pub above_rows : (rect : Rect) (y e : ℕ) (f : ℕ → ℕ → ℤ) (rows : List ℤ) → AgreeAbove rect y f (with_rows rect y e f rows)
above_rows rect y e f rows x j h less = sym (ap (λ t. cond t (f x j) (plane_at (rows_between rect y e) rows x j)) (lt-ltb j y less))

pub rows_with : (rect : Rect) (y e : ℕ) (f : ℕ → ℕ → ℤ) (rows : List ℤ) → length rows ≡ (e - y) * columns_of rect → rows ≡ raster (rows_between rect y e) (with_rows rect y e f rows)
rows_with rect y e f rows long = raster_is (rows_between rect y e) rows (with_rows rect y e f rows) long
    (λ x j h. sym (ap (λ t. cond t (f x j) (plane_at (rows_between rect y e) rows x j)) (le-ltb j y h.upper)))

pub small_with : (rect : Rect) (y e : ℕ) (f : ℕ → ℕ → ℤ) (rows : List ℤ) → AreBelow (2 ^ 17) rect f → All (IsBelow (2 ^ 17)) rows → AreBelow (2 ^ 17) rect (with_rows rect y e f rows)
small_with rect y e f rows small more x j h = elim (cases_lt j y) [
  | inl less ↦ subst (IsBelow (2 ^ 17)) (above_rows rect y e f rows x j h less) (small x j h)
  | inr past ↦ subst (IsBelow (2 ^ 17)) (sym (ap (λ t. cond t (f x j) (plane_at (rows_between rect y e) rows x j)) (le-ltb j y past)))
      (size_below (2 ^ 17) (plane_at (rows_between rect y e) rows x j) (entry_size (2 ^ 17) rows (omega arith) more ((j - y) * columns_of rect + (x - rect.x0))))
]
