-- One row lifted between two others.
use Rattle.std.proofs.Common.{◌≡◌, ◌≢◌, ℕ, ℤ, List, ◌+◌, ◌-◌, ◌^◌, ◌<◌, ◌≤◌, length, set, pos, inl, inr, refl, ◌∙◌, ap, subst, arith, w32}
use Rattle.std.specs.List.{All}
use Rattle.std.proofs.lemmas.Int.{ints, to_z-of_z}
use Rattle.std.proofs.lemmas.Bool.{cases_lt}
use Rattle.std.proofs.lemmas.List.{get_or-set_same, get_or-set_other}
use borrow.Author.Count.{below_more}
use Rattle.jk_math.specs.Signed.{IsBelow, signed_at}
use Rattle.jk_math.specs.Eights.{HasEight}
use Rattle.jk_math.proofs.Laws.{HasLanes, loaded, HasLanes-load}
use Rattle.jk_lift.proofs.Places.{passed, entry_below}

-- The first k numbers of a row are lifted, and the others are as they were.
pub record IsLiftedUpto (f : ℤ → ℤ → ℤ → ℤ) (before after : List ℤ) (k : ℕ) (old new : List ℤ) : Type 0 where
  pub done : (x : ℕ) → x < k → signed_at new x ≡ f (signed_at old x) (signed_at before x) (signed_at after x)
  pub rest : (x : ℕ) → k ≤ x → signed_at new x ≡ signed_at old x

pub lifted_none : (f : ℤ → ℤ → ℤ → ℤ) (before after old : List ℤ) → IsLiftedUpto f before after 0 old old
lifted_none f before after old = record { done = λ x l. absurd (omega arith); rest = λ x _. refl }

pub lifted_more : (f : ℤ → ℤ → ℤ → ℤ) (before after : List ℤ) (k : ℕ) (old new : List ℤ) (v : ℤ) → IsLiftedUpto f before after k old new → k < length new →
    v ≡ f (signed_at old k) (signed_at before k) (signed_at after k) → IsLiftedUpto f before after (k + 1) old (set new k v)
lifted_more f before after k old new v so_far room here =
    let P : ℕ → Type 0 = λ x. signed_at (set new k v) x ≡ f (signed_at old x) (signed_at before x) (signed_at after x) in
    record {
      done = below_more P k
          (λ x lt. let ne : x ≢ k = omega arith in rw get_or-set_other (so_far.done x lt))
          (rw get_or-set_same here);
      rest = λ x lt. let ne : x ≢ k = omega arith in rw get_or-set_other (so_far.rest x (omega arith));
    }

-- what the code reads is what was given
pub lifted_of : (f : ℤ → ℤ → ℤ → ℤ) (before after : List ℤ) (k : ℕ) (old new : List ℤ) (v : ℤ) → IsLiftedUpto f before after k old new →
    All (IsBelow (2 ^ 29)) old → All (IsBelow (2 ^ 30 - 1)) before → All (IsBelow (2 ^ 30 - 1)) after →
    v ≡ f (passed (signed_at new k)) (passed (signed_at before k)) (passed (signed_at after k)) →
    v ≡ f (signed_at old k) (signed_at before k) (signed_at after k)
lifted_of f before after k old new v so_far small befores afters is =
    let s = entry_below (2 ^ 29) old (omega arith) small k in
    let b = entry_below (2 ^ 30 - 1) before (omega arith) befores k in
    let a = entry_below (2 ^ 30 - 1) after (omega arith) afters k in
    let here : passed (signed_at new k) ≡ signed_at old k = ap passed (so_far.rest k (omega arith)) ∙ to_z-of_z w32 _ (omega (arith, ints)) in
    let left : passed (signed_at before k) ≡ signed_at before k = to_z-of_z w32 _ (omega (arith, ints)) in
    let right : passed (signed_at after k) ≡ signed_at after k = to_z-of_z w32 _ (omega (arith, ints)) in
    is ∙ ap (λ z. f z (passed (signed_at before k)) (passed (signed_at after k))) here
    ∙ ap (λ z. f (signed_at old k) z (passed (signed_at after k))) left
    ∙ ap (λ z. f (signed_at old k) (signed_at before k) z) right

-- eight numbers more
pub lifted_eight : (f : ℤ → ℤ → ℤ → ℤ) (before after : List ℤ) (k : ℕ) (old new new' : List ℤ) (g : ℕ → ℤ) → IsLiftedUpto f before after k old new →
    HasEight g k new new' → ((j : ℕ) → j < 8 → g j ≡ f (signed_at new (k + j)) (signed_at before (k + j)) (signed_at after (k + j))) →
    IsLiftedUpto f before after (k + 8) old new'
lifted_eight f before after k old new new' g so_far eight here = record {
  done = λ x l. elim (cases_lt x k) [
    | inl lt ↦ eight.1 x lt ∙ so_far.done x lt
    | inr ge ↦
        let j : ℕ = x - k in
        let e : k + j ≡ x = omega arith in
        subst (λ x. signed_at new' x ≡ f (signed_at old x) (signed_at before x) (signed_at after x)) e
        (eight.0 j (omega arith) ∙ here j (omega arith) ∙ ap (λ z. f z (signed_at before (k + j)) (signed_at after (k + j))) (so_far.rest (k + j) (omega arith)))
  ];
  rest = λ x l. eight.2 x l ∙ so_far.rest x (omega arith);
}

-- a formula of three numbers that are others
pub three : (f : ℤ → ℤ → ℤ → ℤ) {x y z x' y' z' : ℤ} → x ≡ x' → y ≡ y' → z ≡ z' → f x y z ≡ f x' y' z'
three f {x} {y} {z} {x'} {y'} {z'} a b c = ap (λ t. f t y z) a ∙ ap (λ t. f x' t z) b ∙ ap (λ t. f x' y' t) c

-- eight numbers of a row next to it, and eight of what is left of a row
pub all_lanes : (m k : ℕ) (xs : List ℤ) → m ≤ 2 ^ 31 → k + 8 ≤ length xs → All (IsBelow m) xs → HasLanes m (λ j. signed_at xs (k + j)) (loaded k xs)
all_lanes m k xs few room small = HasLanes-load m xs k few room (λ j l. small (k + j) (pos 0) (omega arith))

pub rest_lanes : (f : ℤ → ℤ → ℤ → ℤ) (before after : List ℤ) (k : ℕ) (old new : List ℤ) → IsLiftedUpto f before after k old new → k + 8 ≤ length old → k + 8 ≤ length new → All (IsBelow (2 ^ 29)) old →
    HasLanes (2 ^ 29) (λ j. signed_at new (k + j)) (loaded k new)
rest_lanes f before after k old new so_far room room' small =
    HasLanes-load (2 ^ 29) new k (omega arith) room' (λ j l. rw (so_far.rest (k + j) (omega arith)) (small (k + j) (pos 0) (omega arith)))
