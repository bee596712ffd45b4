-- A coefficient depends on the line alone.
use Rattle.std.proofs.Common.{◌≡◌, ℕ, ℤ, ◌+◌, ◌%◌, ◌<◌, ◌≤◌, inl, inr, sym, ◌∙◌, arith}
use Rattle.std.proofs.lemmas.Bool.{cases_eq, cases_lt}
use Rattle.jk_lift.specs.Lifting.{before, after, high_at, lifted}
use Rattle.jk_lift.proofs.Equations.{high_at_is, lifted_even, lifted_odd, lifted_one_even, lifted_one_odd}
use Rattle.jk_lift.proofs.Undoing.{before_next, after_next}

high_same : (i0 i1 : ℕ) (x z : ℕ → ℤ) (i : ℕ) → i0 + 2 ≤ i1 → i0 ≤ i → i < i1 → ((j : ℕ) → i0 ≤ j → j < i1 → x j ≡ z j) → high_at i0 i1 x i ≡ high_at i0 i1 z i
high_same i0 i1 x z i long from to same =
    let b = before_next i0 i1 i long from to in
    let a = after_next i0 i1 i long from to in
    high_at_is i0 i1 x i ∙ rw (same i from to, same (before i0 i1 i) b.from b.to, same (after i0 i1 i) a.from a.to) (sym (high_at_is i0 i1 z i))

pub lifted_same : (i0 i1 : ℕ) (x z : ℕ → ℤ) (i : ℕ) → i0 ≤ i → i < i1 → ((j : ℕ) → i0 ≤ j → j < i1 → x j ≡ z j) → lifted i0 i1 x i ≡ lifted i0 i1 z i
lifted_same i0 i1 x z i from to same = elim (cases_lt (i0 + 1) i1) [
  | inl lt ↦
      let long : i0 + 2 ≤ i1 = omega arith in
      elim (cases_eq (i % 2) 0) [
        | inl even ↦
            let b = before_next i0 i1 i long from to in
            let a = after_next i0 i1 i long from to in
            lifted_even i0 i1 x i long even
            ∙ rw (same i from to, high_same i0 i1 x z (before i0 i1 i) long b.from b.to same, high_same i0 i1 x z (after i0 i1 i) long a.from a.to same) (sym (lifted_even i0 i1 z i long even))
        | inr ne ↦ lifted_odd i0 i1 x i long (omega arith) ∙ high_same i0 i1 x z i long from to same ∙ sym (lifted_odd i0 i1 z i long (omega arith))
      ]
  | inr one ↦
      let here = same i from to in
      elim (cases_eq (i % 2) 0) [
        | inl even ↦ lifted_one_even i0 i1 x i (omega arith) even ∙ here ∙ sym (lifted_one_even i0 i1 z i (omega arith) even)
        | inr odd ↦ lifted_one_odd i0 i1 x i (omega arith) (omega arith) ∙ rw here (sym (lifted_one_odd i0 i1 z i (omega arith) (omega arith)))
      ]
]
