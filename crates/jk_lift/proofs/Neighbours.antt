-- Only the two places next to the ends of a line are ever reflected.
use Rattle.std.proofs.Common.{◌≡◌, ℕ, ℤ, ◌+◌, ◌-◌, ◌*◌, ◌%◌, ◌<◌, ◌≤◌, pos, negsuc, ◌-ℤ◌, inl, inr, ◌∙◌, ap, arith}
use Rattle.std.proofs.Math.Nat.{mod-eq_of_lt}
use Rattle.std.proofs.lemmas.Bool.{cases_lt}
use Rattle.std.proofs.lemmas.Int.{ints}
use Rattle.jk_math.specs.Division.{reflected, remainder_of}
use Rattle.jk_lift.specs.Lifting.{before, after}

-- a place on the line stands for itself
reflected_on_line : (z : ℤ) (k i0 i1 : ℕ) → z -ℤ pos i0 ≡ pos k → i0 + k < i1 → i0 + 2 ≤ i1 → reflected z i0 i1 ≡ i0 + k
unfolding reflected
reflected_on_line z k i0 i1 e h g =
    let p : ℕ = 2 * (i1 - i0 - 1) in
    let lt : k < p = omega arith in
    let m : remainder_of (pos k) p ≡ k = mod-eq_of_lt lt in
    rw (e, m) (omega arith)

reflected_first : (z : ℤ) (i0 i1 : ℕ) → z -ℤ pos i0 ≡ negsuc 0 → i0 + 2 ≤ i1 → reflected z i0 i1 ≡ i0 + 1
unfolding reflected
reflected_first z i0 i1 e g =
    let p : ℕ = 2 * (i1 - i0 - 1) in
    let lt : 0 < p = omega arith in
    let m : remainder_of (negsuc 0) p ≡ p - 1 = ap (λ r. p - 1 - r) (mod-eq_of_lt lt) ∙ omega arith in
    rw (e, m) (omega arith)

reflected_last : (z : ℤ) (i0 i1 : ℕ) → z -ℤ pos i0 ≡ pos (i1 - i0) → i0 + 2 ≤ i1 → reflected z i0 i1 + 2 ≡ i1
unfolding reflected
reflected_last z i0 i1 e g =
    let n : ℕ = i1 - i0 in
    let p : ℕ = 2 * (n - 1) in
    elim (cases_lt n p) [
      | inl lt ↦
          let m : remainder_of (pos n) p ≡ n = mod-eq_of_lt lt in
          rw (e, m) (omega arith)
      | inr ge ↦
          let two : n ≡ 2 = omega arith in
          let m : remainder_of (pos n) p ≡ 0 = ap (λ k. k % (2 * (k - 1))) two in
          rw (e, m) (omega arith)
    ]

pub before_inside : (i0 i1 i : ℕ) → i0 + 2 ≤ i1 → i0 < i → i < i1 → before i0 i1 i ≡ i - 1
before_inside i0 i1 i g a b = reflected_on_line _ (i - 1 - i0) i0 i1 (omega (arith, ints)) (omega arith) g ∙ omega arith

pub before_first : (i0 i1 : ℕ) → i0 + 2 ≤ i1 → before i0 i1 i0 ≡ i0 + 1
before_first i0 i1 g = reflected_first _ i0 i1 (omega (arith, ints)) g

pub after_inside : (i0 i1 i : ℕ) → i0 + 2 ≤ i1 → i0 ≤ i → i + 1 < i1 → after i0 i1 i ≡ i + 1
after_inside i0 i1 i g a b = reflected_on_line _ (i + 1 - i0) i0 i1 (omega (arith, ints)) (omega arith) g ∙ omega arith

pub after_last : (i0 i1 i : ℕ) → i0 + 2 ≤ i1 → i + 1 ≡ i1 → after i0 i1 i ≡ i - 1
after_last i0 i1 i g e =
    let r : after i0 i1 i + 2 ≡ i1 = reflected_last _ i0 i1 (omega (arith, ints)) g in omega arith

-- the neighbours of place i0 + j of a line of n places from i0 on
pub before_at : (i0 n j b : ℕ) → 2 ≤ n → j < n → (0 < j → b + 1 ≡ j) → (j ≡ 0 → b ≡ 1) → before i0 (i0 + n) (i0 + j) ≡ i0 + b
before_at i0 n j b g l inside first =
    elim (cases_lt 0 j) [
      | inl lt ↦ let e : b + 1 ≡ j = inside lt in before_inside i0 (i0 + n) (i0 + j) (omega arith) (omega arith) (omega arith) ∙ omega arith
      | inr ge ↦
          let z : j ≡ 0 = omega arith in
          let e : b ≡ 1 = first z in
          let here : i0 + j ≡ i0 = omega arith in
          ap (before i0 (i0 + n)) here ∙ before_first i0 (i0 + n) (omega arith) ∙ omega arith
    ]

pub after_at : (i0 n j a : ℕ) → 2 ≤ n → j < n → (j + 1 < n → a ≡ j + 1) → (j + 1 ≡ n → a + 1 ≡ j) → after i0 (i0 + n) (i0 + j) ≡ i0 + a
after_at i0 n j a g l inside last =
    elim (cases_lt (j + 1) n) [
      | inl lt ↦ let e : a ≡ j + 1 = inside lt in after_inside i0 (i0 + n) (i0 + j) (omega arith) (omega arith) (omega arith) ∙ omega arith
      | inr ge ↦
          let z : j + 1 ≡ n = omega arith in
          let e : a + 1 ≡ j = last z in
          after_last i0 (i0 + n) (i0 + j) (omega arith) (omega arith) ∙ omega arith
    ]
