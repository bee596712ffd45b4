-- Numbers of intervals.
use Rattle.std.proofs.Common.{◌≡◌, ℕ, ◌+◌, ◌≤◌, ◌⊎◌, inl, inr, nat_lt, cond, false, List, [], ◌∷◌, ◌++◌, length, length-append, get_or, sym, ap, ◌∙◌, subst, arith}
use Rattle.std.specs.List.{Any}
use Rattle.std.specs.List.Sorted.{IsPermutation, IsSorted, IsNonDecreasingBy}
use Rattle.std.specs.Ordering.{nat_cmp, is_lt, ordering_then}
use Rattle.std.specs.Prelude.{◌==◌}
use Rattle.std.specs.declared.cmp.Ordering.TheVariants.{Less, Equal, Greater}
use Rattle.std.proofs.lemmas.Bool.{cases_lt, cond-true, lt-ltb}
use Rattle.std.proofs.lemmas.List.{get_or_append_left, get_or_push}
use Rattle.std.proofs.lemmas.List.Sorted.{Contains-permutation, IsNonDecreasingBy-from_all_adjacent}

pub any_none : {X : Type 0} (P : X → Type 0) → Any P [] → ⊥
any_none P h = let lt = h.2 in omega (arith, lt)

pub any_first : {X : Type 0} (P : X → Type 0) (xs : List X) (y : X) → Any P xs → Any P (xs ++ y ∷ [])
any_first P xs y h =
    let lt = h.2 in
    let more = length-append xs (y ∷ []) in
    (h.0, h.1, omega (arith, lt, more), get_or_append_left xs (y ∷ []) h.1 h.0 (omega (arith, lt)) ∙ h.3, h.4)

-- one more, and no others
pub any_pushed : {X : Type 0} (P : X → Type 0) (xs : List X) (y : X) → Any P (xs ++ y ∷ []) → Any P xs ⊎ P y
any_pushed P xs y h =
    let lt = h.2 in
    let more = length-append xs (y ∷ []) in
    elim (cases_lt h.0 (length xs)) [
      | inl less ↦ inl (h.0, h.1, less, sym (get_or_append_left xs (y ∷ []) h.1 h.0 less) ∙ h.3, h.4)
      | inr past ↦ (
          let last : h.0 ≡ length xs = omega (arith, lt, more, past) in
          let is : get_or (xs ++ y ∷ []) h.0 h.1 ≡ y = ap (λ k. get_or (xs ++ y ∷ []) k h.1) last ∙ get_or_push xs y h.1 (length xs) (λ j. length xs) in
          inr (subst P (sym h.3 ∙ is) h.4))
    ]

-- in another order
pub any_moved : {X : Type 0} (P : X → Type 0) (xs ys : List X) → IsPermutation xs ys → Any P xs → Any P ys
any_moved P xs ys moved h =
    let there = Contains-permutation xs ys h.1 moved (h.0, h.2, h.3) in
    (there.0, h.1, there.1, there.2, h.4)

-- ---- a list that is sorted

starts_ascend : (a b : ℕ × ℕ) → is_lt (ordering_then (nat_cmp b.0 a.0) (nat_cmp b.1 a.1)) ≡ false → a.0 ≤ b.0
starts_ascend a b e = elim (cases_lt b.0 a.0) [
  | inl less ↦ (
      let lt : nat_cmp b.0 a.0 ≡ Less = cond-true (nat_lt b.0 a.0) Less (cond (b.0 == a.0) Equal Greater) (lt-ltb b.0 a.0 less) in
      let never : is_lt (ordering_then Less (nat_cmp b.1 a.1)) ≡ false = subst (λ o. is_lt (ordering_then o (nat_cmp b.1 a.1)) ≡ false) lt e in
      absurd cc)
  | inr le ↦ le
]

pub sorted_starts : (xs : List (ℕ × ℕ)) → IsSorted (λ (x y : ℕ × ℕ). ordering_then (nat_cmp x.0 y.0) (nat_cmp x.1 y.1)) xs → IsNonDecreasingBy (λ (s : ℕ × ℕ). s.0) xs
sorted_starts xs up = IsNonDecreasingBy-from_all_adjacent (λ (s : ℕ × ℕ). s.0) xs
    (λ k d lt. starts_ascend (get_or xs k d) (get_or xs (k + 1) d) (up k d (omega arith) lt))
