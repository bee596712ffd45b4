-- Rows lifted in place, one after another.
use Rattle.std.proofs.Common.{◌≡◌, ◌≢◌, ℕ, ℤ, List, ◌+◌, ◌-◌, ◌*◌, ◌%◌, ◌^◌, ◌<◌, ◌≤◌, true, false, eqb, ◌⊎◌, length, set, inl, inr, refl, sym, ◌∙◌, ap, subst, arith, w32}
use Rattle.jk_math.specs.Signed.{IsBelow, signed_at}
use Rattle.jk_math.specs.Eights.{HasEight}
use Rattle.jk_math.proofs.Laws.{HasLanes, loaded, HasLanes-load}
use Rattle.jk_lift.specs.Sweep.{row_before, row_after, first_step, both_steps}
use Rattle.jk_lift.proofs.Places.{passed, entry_below}
use Rattle.std.specs.List.{All}
use Rattle.std.proofs.lemmas.Int.{ints, to_z-of_z}
use Rattle.std.proofs.lemmas.Bool.{cases_lt, cases_eq}
use Rattle.std.proofs.lemmas.Bool.Decides.{nat_tests}
use Rattle.std.proofs.lemmas.List.{get_or-set_same, get_or-set_other}
use Rattle.std.proofs.Math.Nat.{mul-le-mul_left}
use borrow.Author.Count.{below_more}

-- The first k entries of a row are lifted, and nothing else has changed.
pub record IsLifted (f : ℤ → ℤ → ℤ → ℤ) (width row before after k : ℕ) (old new : List ℤ) : Type 0 where
  pub done : (x : ℕ) → x < k → signed_at new (row * width + x) ≡ f (signed_at old (row * width + x)) (signed_at old (before * width + x)) (signed_at old (after * width + x))
  pub rest : (x : ℕ) → k ≤ x → x < width → signed_at new (row * width + x) ≡ signed_at old (row * width + x)
  pub others : (r x : ℕ) → r ≢ row → x < width → signed_at new (r * width + x) ≡ signed_at old (r * width + x)

-- entries of two rows are apart
pub rows_apart : (r s width x y : ℕ) → r ≢ s → x < width → y < width → r * width + x ≢ s * width + y
rows_apart r s width x y ne lx ly e =
    elim (cases_lt r s) [
      | inl lt ↦ absurd (omega (arith, mul-le-mul_left width (let l : r + 1 ≤ s = omega arith in l)))
      | inr ge ↦ absurd (omega (arith, mul-le-mul_left width (let l : s + 1 ≤ r = omega arith in l)))
    ]

pub IsLifted-none : (f : ℤ → ℤ → ℤ → ℤ) (width row before after : ℕ) (old : List ℤ) → IsLifted f width row before after 0 old old
IsLifted-none f width row before after old = record {
  done = λ x l. absurd (omega arith);
  rest = λ x _ _. refl;
  others = λ r x _ _. refl;
}

pub IsLifted-more : (f : ℤ → ℤ → ℤ → ℤ) (width row before after k : ℕ) (old new : List ℤ) (v : ℤ) → IsLifted f width row before after k old new →
    k < width → row * width + width ≤ length new →
    v ≡ f (signed_at old (row * width + k)) (signed_at old (before * width + k)) (signed_at old (after * width + k)) →
    IsLifted f width row before after (k + 1) old (set new (row * width + k) v)
IsLifted-more f width row before after k old new v so_far l room here =
    let inside : row * width + k < length new = omega arith in
    let value : ℕ → ℤ = λ x. f (signed_at old (row * width + x)) (signed_at old (before * width + x)) (signed_at old (after * width + x)) in
    let P : ℕ → Type 0 = λ x. signed_at (set new (row * width + k) v) (row * width + x) ≡ value x in
    record {
      done = below_more P k
          (λ x lt. let ne : row * width + x ≢ row * width + k = omega arith in rw get_or-set_other (so_far.done x lt))
          (rw get_or-set_same here);
      rest = λ x lt w. let ne : row * width + x ≢ row * width + k = omega arith in rw get_or-set_other (so_far.rest x (omega arith) w);
      others = λ r x other w. let ne : r * width + x ≢ row * width + k = rows_apart r row width x k other w l in rw get_or-set_other (so_far.others r x other w);
    }

-- eight entries more
pub IsLifted-eight : (f : ℤ → ℤ → ℤ → ℤ) (width row before after k : ℕ) (old new new' : List ℤ) (g : ℕ → ℤ) → IsLifted f width row before after k old new →
    k + 8 ≤ width → row ≢ before → row ≢ after → HasEight g (row * width + k) new new' →
    ((j : ℕ) → j < 8 → g j ≡ f (signed_at new (row * width + k + j)) (signed_at new (before * width + k + j)) (signed_at new (after * width + k + j))) →
    IsLifted f width row before after (k + 8) old new'
IsLifted-eight f width row before after k old new new' g so_far room apart_before apart_after eight here =
    let value : ℕ → ℤ = λ x. f (signed_at old (row * width + x)) (signed_at old (before * width + x)) (signed_at old (after * width + x)) in
    let kept : (r x : ℕ) → row ≢ r → x < width → signed_at new (r * width + x) ≡ signed_at old (r * width + x) = λ r x ne w. so_far.others r x (λ e. ne (sym e)) w in
    let read : (j : ℕ) → j < 8 → g j ≡ value (k + j) = λ j l.
    here j l
    ∙ ap (λ z. f z (signed_at new (before * width + k + j)) (signed_at new (after * width + k + j))) (ap (signed_at new) (omega arith) ∙ so_far.rest (k + j) (omega arith) (omega arith))
    ∙ ap (λ z. f (signed_at old (row * width + (k + j))) z (signed_at new (after * width + k + j))) (ap (signed_at new) (omega arith) ∙ kept before (k + j) apart_before (omega arith))
    ∙ ap (λ z. f (signed_at old (row * width + (k + j))) (signed_at old (before * width + (k + j))) z) (ap (signed_at new) (omega arith) ∙ kept after (k + j) apart_after (omega arith)) in
    record {
      done = λ x l. elim (cases_lt x k) [
        | inl lt ↦ eight.1 (row * width + x) (omega arith) ∙ so_far.done x lt
        | inr ge ↦
            let j : ℕ = x - k in
            let e : k + j ≡ x = omega arith in
            let place : row * width + (k + j) ≡ row * width + k + j = omega arith in
            subst (λ x. signed_at new' (row * width + x) ≡ value x) e (ap (signed_at new') place ∙ eight.0 j (omega arith) ∙ read j (omega arith))
      ];
      rest = λ x l w. eight.2 (row * width + x) (omega arith) ∙ so_far.rest x (omega arith) w;
      others = λ r x other w. elim (cases_lt r row) [
        | inl lt ↦ let m = mul-le-mul_left width (let l : r + 1 ≤ row = omega arith in l) in eight.1 (r * width + x) (omega (arith, m)) ∙ so_far.others r x other w
        | inr ge ↦ let m = mul-le-mul_left width (let l : row + 1 ≤ r = omega arith in l) in eight.2 (r * width + x) (omega (arith, m)) ∙ so_far.others r x other w
      ];
    }

-- eight entries of a row that isn't lifted yet, or of one next to it
pub row_lanes : (f : ℤ → ℤ → ℤ → ℤ) (width row before after k m r : ℕ) (old new : List ℤ) → IsLifted f width row before after k old new → m ≤ 2 ^ 31 → k + 8 ≤ width → r * width + width ≤ length new →
    ((x : ℕ) → x < width → IsBelow m (signed_at old (r * width + x))) → HasLanes m (λ j. signed_at new (r * width + k + j)) (loaded (r * width + k) new)
row_lanes f width row before after k m r old new so_far few room inside small =
    HasLanes-load m new (r * width + k) few (omega arith)
    (λ j l.
    let place : r * width + (k + j) ≡ r * width + k + j = omega arith in
    let kept : signed_at new (r * width + (k + j)) ≡ signed_at old (r * width + (k + j)) = elim (cases_eq r row) [
      | inl same ↦
          subst (λ r. signed_at new (r * width + (k + j)) ≡ signed_at old (r * width + (k + j))) (sym same) (so_far.rest (k + j) (omega arith) (omega arith))
      | inr other ↦ so_far.others r (k + j) other (omega arith)
    ] in
    subst (IsBelow m) (sym kept ∙ ap (signed_at new) place) (small (k + j) (omega arith)))

-- what the code reads is still what was given
pub lifted_value : (f : ℤ → ℤ → ℤ → ℤ) (width row before after k : ℕ) (old new : List ℤ) (v : ℤ) → IsLifted f width row before after k old new →
    k < width → row ≢ before → row ≢ after →
    IsBelow (2 ^ 29) (signed_at old (row * width + k)) → IsBelow (2 ^ 30 - 1) (signed_at old (before * width + k)) → IsBelow (2 ^ 30 - 1) (signed_at old (after * width + k)) →
    v ≡ f (passed (signed_at new (row * width + k))) (passed (signed_at new (before * width + k))) (passed (signed_at new (after * width + k))) →
    v ≡ f (signed_at old (row * width + k)) (signed_at old (before * width + k)) (signed_at old (after * width + k))
lifted_value f width row before after k old new v so_far l apart_before apart_after number left right is_v =
    let here : passed (signed_at new (row * width + k)) ≡ signed_at old (row * width + k) =
    ap passed (so_far.rest k (omega arith) l) ∙ to_z-of_z w32 _ (omega (arith, ints)) in
    let at_left : passed (signed_at new (before * width + k)) ≡ signed_at old (before * width + k) =
    ap passed (so_far.others before k (λ e. apart_before (sym e)) l) ∙ to_z-of_z w32 _ (omega (arith, ints)) in
    let at_right : passed (signed_at new (after * width + k)) ≡ signed_at old (after * width + k) =
    ap passed (so_far.others after k (λ e. apart_after (sym e)) l) ∙ to_z-of_z w32 _ (omega (arith, ints)) in
    is_v ∙ ap (λ z. f z (passed (signed_at new (before * width + k))) (passed (signed_at new (after * width + k)))) here
    ∙ ap (λ z. f (signed_at old (row * width + k)) z (passed (signed_at new (after * width + k)))) at_left
    ∙ ap (λ z. f (signed_at old (row * width + k)) (signed_at old (before * width + k)) z) at_right

-- where the rows next to a row are
pub row_before_cases : (j : ℕ) → (row_before j + 1 ≡ j) ⊎ ((j ≡ 0) × (row_before j ≡ 1))
row_before_cases j = elim (cases_eq j 0) [
  | inl e ↦ inr (e, rw e refl)
  | inr ne ↦ inl (let f : eqb j 0 ≡ false = grind (arith, nat_tests) in rw f (omega arith))
]

pub row_after_cases : (n j : ℕ) → 2 ≤ n → j < n → ((row_after n j ≡ j + 1) × (j + 1 < n)) ⊎ ((row_after n j + 1 ≡ j) × (j + 1 ≡ n))
row_after_cases n j tall l = elim (cases_eq (j + 1) n) [
  | inl e ↦ let t : eqb (j + 1) n ≡ true = grind (arith, nat_tests) in inr (rw t (omega arith), e)
  | inr ne ↦ let f : eqb (j + 1) n ≡ false = grind (arith, nat_tests) in inl (rw f refl, omega arith)
]

-- The rows before the cut are finished, and those from the cut on are as given.
pub record IsCut (f g : ℤ → ℤ → ℤ → ℤ) (second height width cut : ℕ) (old new : List ℤ) : Type 0 where
  pub parity : cut % 2 ≡ second
  pub near : cut ≤ height + 1
  pub finished : (x j : ℕ) → x < width → j < cut → j < height → signed_at new (j * width + x) ≡ both_steps f g second height (λ i. signed_at old (i * width + x)) j
  pub given : (x j : ℕ) → x < width → cut ≤ j → j < height → signed_at new (j * width + x) ≡ signed_at old (j * width + x)

-- The same, once the row after the cut has been lifted by the first step.
pub record IsBetween (f g : ℤ → ℤ → ℤ → ℤ) (second height width cut : ℕ) (old new : List ℤ) : Type 0 where
  pub parity : cut % 2 ≡ second
  pub finished : (x j : ℕ) → x < width → j < cut → j < height → signed_at new (j * width + x) ≡ both_steps f g second height (λ i. signed_at old (i * width + x)) j
  pub here : (x : ℕ) → x < width → cut < height → signed_at new (cut * width + x) ≡ signed_at old (cut * width + x)
  pub next : (x : ℕ) → x < width → cut + 1 < height → signed_at new ((cut + 1) * width + x) ≡ first_step f height (λ i. signed_at old (i * width + x)) (cut + 1)
  pub given : (x j : ℕ) → x < width → cut + 2 ≤ j → j < height → signed_at new (j * width + x) ≡ signed_at old (j * width + x)

pub both_steps-second : (f g : ℤ → ℤ → ℤ → ℤ) (p n : ℕ) (x : ℕ → ℤ) (j : ℕ) → j % 2 ≡ p →
    both_steps f g p n x j ≡ g (x j) (first_step f n x (row_before j)) (first_step f n x (row_after n j))
both_steps-second f g p n x j e = let t : eqb (j % 2) p ≡ true = grind (arith, nat_tests) in rw t refl

pub both_steps-first : (f g : ℤ → ℤ → ℤ → ℤ) (p n : ℕ) (x : ℕ → ℤ) (j : ℕ) → j % 2 ≢ p → both_steps f g p n x j ≡ first_step f n x j
both_steps-first f g p n x j ne = let t : eqb (j % 2) p ≡ false = grind (arith, nat_tests) in rw t refl

pub IsBetween-from : (f g : ℤ → ℤ → ℤ → ℤ) (second height width cut : ℕ) (old new lifted : List ℤ) → 2 ≤ height → IsCut f g second height width cut old new →
    ((x : ℕ) → x < width → cut + 1 < height → signed_at lifted ((cut + 1) * width + x) ≡ first_step f height (λ j. signed_at new (j * width + x)) (cut + 1)) →
    ((r x : ℕ) → r ≢ cut + 1 → x < width → signed_at lifted (r * width + x) ≡ signed_at new (r * width + x)) →
    IsBetween f g second height width cut old lifted
IsBetween-from f g second height width cut old new lifted tall so_far is_lifted others = record {
  parity = so_far.parity;
  finished = λ x j w l m. others j x (omega arith) w ∙ so_far.finished x j w l m;
  here = λ x w l. others cut x (omega arith) w ∙ so_far.given x cut w (omega arith) l;
  next = λ x w l.
      let now : ℕ → ℤ = λ j. signed_at new (j * width + x) in
      let was : ℕ → ℤ = λ j. signed_at old (j * width + x) in
      let at_before : now (row_before (cut + 1)) ≡ was (row_before (cut + 1)) = elim (row_before_cases (cut + 1)) [
        | inl e ↦ so_far.given x (row_before (cut + 1)) w (omega arith) (omega arith)
        | inr z ↦ absurd (omega (arith, z.0))
      ] in
      let at_after : now (row_after height (cut + 1)) ≡ was (row_after height (cut + 1)) = elim (row_after_cases height (cut + 1) tall l) [
        | inl e ↦ so_far.given x (row_after height (cut + 1)) w (omega (arith, e.0)) (omega (arith, e.0, e.1))
        | inr e ↦ so_far.given x (row_after height (cut + 1)) w (omega (arith, e.0)) (omega (arith, e.0, e.1))
      ] in
      is_lifted x w l ∙ ap (λ z. f z (now (row_before (cut + 1))) (now (row_after height (cut + 1)))) (so_far.given x (cut + 1) w (omega arith) l)
      ∙ ap (λ z. f (was (cut + 1)) z (now (row_after height (cut + 1)))) at_before ∙ ap (λ z. f (was (cut + 1)) (was (row_before (cut + 1))) z) at_after;
  given = λ x j w l m. others j x (omega arith) w ∙ so_far.given x j w (omega arith) m;
}

-- the rows next to the cut hold what the first step made
neighbour_value : (f g : ℤ → ℤ → ℤ → ℤ) (second height width cut x b : ℕ) (old new : List ℤ) → IsBetween f g second height width cut old new →
    x < width → b < height → (b ≡ cut + 1) ⊎ (b + 1 ≡ cut) → signed_at new (b * width + x) ≡ first_step f height (λ i. signed_at old (i * width + x)) b
neighbour_value f g second height width cut x b old new so_far w l where_b = elim where_b [
  | inl e ↦
      let P : ℕ → Type 0 = λ b. signed_at new (b * width + x) ≡ first_step f height (λ i. signed_at old (i * width + x)) b in
      subst P (sym e) (so_far.next x w (omega arith))
  | inr e ↦
      let parity = so_far.parity in
      so_far.finished x b w (omega arith) l ∙ both_steps-first f g second height (λ i. signed_at old (i * width + x)) b (omega arith)
]

before_value : (f g : ℤ → ℤ → ℤ → ℤ) (second height width cut x : ℕ) (old new : List ℤ) → 2 ≤ height → IsBetween f g second height width cut old new →
    x < width → cut < height → signed_at new (row_before cut * width + x) ≡ first_step f height (λ i. signed_at old (i * width + x)) (row_before cut)
before_value f g second height width cut x old new tall so_far w l = elim (row_before_cases cut) [
  | inl e ↦ neighbour_value f g second height width cut x (row_before cut) old new so_far w (omega arith) (inr e)
  | inr z ↦ neighbour_value f g second height width cut x (row_before cut) old new so_far w (omega (arith, z.1)) (inl (omega (arith, z.0, z.1)))
]

after_value : (f g : ℤ → ℤ → ℤ → ℤ) (second height width cut x : ℕ) (old new : List ℤ) → 2 ≤ height → IsBetween f g second height width cut old new →
    x < width → cut < height → signed_at new (row_after height cut * width + x) ≡ first_step f height (λ i. signed_at old (i * width + x)) (row_after height cut)
after_value f g second height width cut x old new tall so_far w l = elim (row_after_cases height cut tall l) [
  | inl e ↦ neighbour_value f g second height width cut x (row_after height cut) old new so_far w (omega (arith, e.0, e.1)) (inl e.0)
  | inr e ↦ neighbour_value f g second height width cut x (row_after height cut) old new so_far w (omega (arith, e.0)) (inr e.0)
]

pub IsCut-from : (f g : ℤ → ℤ → ℤ → ℤ) (second height width cut : ℕ) (old new lifted : List ℤ) → 2 ≤ height → IsBetween f g second height width cut old new → cut < height →
    ((x : ℕ) → x < width → cut < height → signed_at lifted (cut * width + x) ≡ first_step g height (λ j. signed_at new (j * width + x)) cut) →
    ((r x : ℕ) → r ≢ cut → x < width → signed_at lifted (r * width + x) ≡ signed_at new (r * width + x)) →
    IsCut f g second height width (cut + 2) old lifted
IsCut-from f g second height width cut old new lifted tall so_far inside is_lifted others =
    let parity = so_far.parity in
    record {
      parity = omega arith;
      near = omega arith;
      finished = λ x j w l m.
          let was : ℕ → ℤ = λ i. signed_at old (i * width + x) in
          let now : ℕ → ℤ = λ i. signed_at new (i * width + x) in
          let made : ℕ → ℤ = first_step f height was in
          elim (cases_lt j cut) [
            | inl before ↦ others j x (omega arith) w ∙ so_far.finished x j w before m
            | inr from ↦ elim (cases_eq j cut) [
              | inl e ↦
                  let P : ℕ → Type 0 = λ j. signed_at lifted (j * width + x) ≡ both_steps f g second height was j in
                  subst P (sym e)
                  (is_lifted x w inside ∙ ap (λ z. g z (now (row_before cut)) (now (row_after height cut))) (so_far.here x w inside)
                  ∙ ap (λ z. g (was cut) z (now (row_after height cut))) (before_value f g second height width cut x old new tall so_far w inside)
                  ∙ ap (λ z. g (was cut) (made (row_before cut)) z) (after_value f g second height width cut x old new tall so_far w inside)
                  ∙ sym (both_steps-second f g second height was cut so_far.parity))
              | inr ne ↦
                  let e : j ≡ cut + 1 = omega arith in
                  others j x ne w ∙ neighbour_value f g second height width cut x j old new so_far w m (inl e)
                  ∙ sym (both_steps-first f g second height was j (omega arith))
            ]
          ];
      given = λ x j w l m. others j x (omega arith) w ∙ so_far.given x j w l m;
    }

-- what the first step makes stays small
first_step_below : (f : ℤ → ℤ → ℤ → ℤ) (height width x b : ℕ) (old : List ℤ) → All (IsBelow (2 ^ 29)) old →
    ((x a b : ℤ) → IsBelow (2 ^ 29) x → IsBelow (2 ^ 29) a → IsBelow (2 ^ 29) b → IsBelow (2 ^ 30 - 1) (f x a b)) →
    IsBelow (2 ^ 30 - 1) (first_step f height (λ i. signed_at old (i * width + x)) b)
first_step_below f height width x b old small within =
    let entry = entry_below (2 ^ 29) old (omega arith) small in
    within _ _ _ (entry (b * width + x)) (entry (row_before b * width + x)) (entry (row_after height b * width + x))

pub before_below : (f g : ℤ → ℤ → ℤ → ℤ) (second height width cut x : ℕ) (old new : List ℤ) → 2 ≤ height → IsBetween f g second height width cut old new →
    All (IsBelow (2 ^ 29)) old → ((x a b : ℤ) → IsBelow (2 ^ 29) x → IsBelow (2 ^ 29) a → IsBelow (2 ^ 29) b → IsBelow (2 ^ 30 - 1) (f x a b)) →
    x < width → cut < height → IsBelow (2 ^ 30 - 1) (signed_at new (row_before cut * width + x))
before_below f g second height width cut x old new tall so_far small within w l =
    subst (IsBelow (2 ^ 30 - 1)) (sym (before_value f g second height width cut x old new tall so_far w l)) (first_step_below f height width x (row_before cut) old small within)

pub after_below : (f g : ℤ → ℤ → ℤ → ℤ) (second height width cut x : ℕ) (old new : List ℤ) → 2 ≤ height → IsBetween f g second height width cut old new →
    All (IsBelow (2 ^ 29)) old → ((x a b : ℤ) → IsBelow (2 ^ 29) x → IsBelow (2 ^ 29) a → IsBelow (2 ^ 29) b → IsBelow (2 ^ 30 - 1) (f x a b)) →
    x < width → cut < height → IsBelow (2 ^ 30 - 1) (signed_at new (row_after height cut * width + x))
after_below f g second height width cut x old new tall so_far small within w l =
    subst (IsBelow (2 ^ 30 - 1)) (sym (after_value f g second height width cut x old new tall so_far w l)) (first_step_below f height width x (row_after height cut) old small within)
