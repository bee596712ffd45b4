-- The formulas of one sample, case by case.
use Rattle.std.proofs.Common.{◌≡◌, ℕ, ℤ, List, ◌+◌, ◌-◌, ◌%◌, ◌≤◌, false, eqb, get_or, pos, ◌+ℤ◌, refl, ap, arith}
use Rattle.std.proofs.lemmas.Bool.Decides.{nat_tests}
use Rattle.jk_math.specs.Division.{floor_of}
use Rattle.jk_lift.specs.Lifting.{before, after, high_pass, low_pass, even_sample, odd_sample, high_at, lifted, even_at, unlifted}
use Rattle.jk_lift.specs.Samples.{line_of}

pub high_at_is : (i0 i1 : ℕ) (x : ℕ → ℤ) (i : ℕ) → high_at i0 i1 x i ≡ high_pass (x i) (x (before i0 i1 i)) (x (after i0 i1 i))
unfolding high_at
high_at_is i0 i1 x i = refl

pub even_at_is : (i0 i1 : ℕ) (y : ℕ → ℤ) (i : ℕ) → even_at i0 i1 y i ≡ even_sample (y i) (y (before i0 i1 i)) (y (after i0 i1 i))
unfolding even_at
even_at_is i0 i1 y i = refl

pub lifted_odd : (i0 i1 : ℕ) (x : ℕ → ℤ) (i : ℕ) → i0 + 2 ≤ i1 → i % 2 ≡ 1 → lifted i0 i1 x i ≡ high_at i0 i1 x i
unfolding lifted
lifted_odd i0 i1 x i long odd =
    let ne : eqb (i1 - i0) 1 ≡ false = grind (arith, nat_tests) in
    rw (ne, odd) refl

pub lifted_even : (i0 i1 : ℕ) (x : ℕ → ℤ) (i : ℕ) → i0 + 2 ≤ i1 → i % 2 ≡ 0 →
    lifted i0 i1 x i ≡ low_pass (x i) (high_at i0 i1 x (before i0 i1 i)) (high_at i0 i1 x (after i0 i1 i))
unfolding lifted
lifted_even i0 i1 x i long even =
    let ne : eqb (i1 - i0) 1 ≡ false = grind (arith, nat_tests) in
    rw (ne, even) refl

pub lifted_one_even : (i0 i1 : ℕ) (x : ℕ → ℤ) (i : ℕ) → i1 ≡ i0 + 1 → i % 2 ≡ 0 → lifted i0 i1 x i ≡ x i
unfolding lifted
lifted_one_even i0 i1 x i one even =
    let e : i1 - i0 ≡ 1 = omega arith in
    rw (e, even) refl

pub lifted_one_odd : (i0 i1 : ℕ) (x : ℕ → ℤ) (i : ℕ) → i1 ≡ i0 + 1 → i % 2 ≡ 1 → lifted i0 i1 x i ≡ x i +ℤ x i
unfolding lifted
lifted_one_odd i0 i1 x i one odd =
    let e : i1 - i0 ≡ 1 = omega arith in
    rw (e, odd) refl

pub unlifted_even : (i0 i1 : ℕ) (y : ℕ → ℤ) (i : ℕ) → i0 + 2 ≤ i1 → i % 2 ≡ 0 → unlifted i0 i1 y i ≡ even_at i0 i1 y i
unfolding unlifted
unlifted_even i0 i1 y i long even =
    let ne : eqb (i1 - i0) 1 ≡ false = grind (arith, nat_tests) in
    rw (ne, even) refl

pub unlifted_odd : (i0 i1 : ℕ) (y : ℕ → ℤ) (i : ℕ) → i0 + 2 ≤ i1 → i % 2 ≡ 1 →
    unlifted i0 i1 y i ≡ odd_sample (y i) (even_at i0 i1 y (before i0 i1 i)) (even_at i0 i1 y (after i0 i1 i))
unfolding unlifted
unlifted_odd i0 i1 y i long odd =
    let ne : eqb (i1 - i0) 1 ≡ false = grind (arith, nat_tests) in
    rw (ne, odd) refl

pub unlifted_one_even : (i0 i1 : ℕ) (y : ℕ → ℤ) (i : ℕ) → i1 ≡ i0 + 1 → i % 2 ≡ 0 → unlifted i0 i1 y i ≡ y i
unfolding unlifted
unlifted_one_even i0 i1 y i one even =
    let e : i1 - i0 ≡ 1 = omega arith in
    rw (e, even) refl

pub unlifted_one_odd : (i0 i1 : ℕ) (y : ℕ → ℤ) (i : ℕ) → i1 ≡ i0 + 1 → i % 2 ≡ 1 → unlifted i0 i1 y i ≡ floor_of (y i) 2
unfolding unlifted
unlifted_one_odd i0 i1 y i one odd =
    let e : i1 - i0 ≡ 1 = omega arith in
    rw (e, odd) refl

pub line_of_at : (i0 : ℕ) (line : List ℤ) (j : ℕ) → line_of i0 line (i0 + j) ≡ get_or line j (pos 0)
line_of_at i0 line j = ap (λ k. get_or line k (pos 0)) (let e : i0 + j - i0 ≡ j = omega arith in e)
