-- Division rounded up, from division rounded down.
use Rattle.std.proofs.Common.{◌≡◌, ℕ, zero, suc, ◌+◌, ◌-◌, ◌*◌, ◌/◌, ◌%◌, ◌<◌, ◌≤◌, min, pos, negsuc, ◌+ℤ◌, ◌-ℤ◌, ℤ, refl, ap, ◌∙◌, arith, inl, inr}
use Rattle.std.proofs.lemmas.Nat.{div-add-mod', div-mul-add}
use Rattle.std.proofs.lemmas.Bool.{cases_lt}
use Rattle.std.proofs.lemmas.Int.{ints}
use Rattle.jk_math.specs.Division.{floor_of, ceiling_of, remainder_of, reflected}

-- the quotient of a sum whose parts are known
quotient_is : (n q b r : ℕ) → n ≡ q * b + r → r < b → n / b ≡ q
quotient_is n q b r e lt = ap (λ x. x / b) e ∙ div-mul-add q b r lt

-- z + (b - 1) below zero: the numbers add
below_zero : (a b : ℕ) → 0 < b → b ≤ a + 1 → negsuc a +ℤ pos (b - 1) ≡ negsuc (a + 1 - b)
below_zero a b h le = omega (arith, ints)

not_below_zero : (a b : ℕ) → a + 1 < b → negsuc a +ℤ pos (b - 1) ≡ pos (b - 2 - a)
not_below_zero a b h = omega (arith, ints)

pub ceiling_zero : (z : ℤ) (b : ℕ) → 0 < b → remainder_of z b ≡ 0 → ceiling_of z b ≡ floor_of z b
ceiling_zero (pos a) b h e =
    let d = div-add-mod' a b in
    ap pos (quotient_is (a + (b - 1)) (a / b) b (b - 1) (omega (arith, d, e)) (omega arith))
ceiling_zero (negsuc a) b h e =
    let d = div-add-mod' a b in
    let small : a % b < b = omega arith in
    let q : (a + 1 - b) / b ≡ a / b = quotient_is (a + 1 - b) (a / b) b 0 (omega (arith, d, e)) h in
    ap (λ x. floor_of x b) (below_zero a b h (omega (arith, d, e))) ∙ ap negsuc q

-- the parts of a + 1 - b
one_less_whole : (a b k r : ℕ) → (k + 1) * b + r ≡ a → r < b → a + 1 - b ≡ k * b + (r + 1)
one_less_whole a b k r e lt = omega arith

whole_part : (a b q r : ℕ) → q * b + r ≡ a → r + 1 < b → b ≤ a + 1 → 0 < q
whole_part a b zero r e lt le = absurd (omega arith)
whole_part a b (suc k) r e lt le = omega arith

below_one : (a b q r : ℕ) → q * b + r ≡ a → a < b → q ≡ 0
below_one a b zero r e lt = refl
below_one a b (suc k) r e lt = absurd (omega arith)

pub ceiling_more : (z : ℤ) (b : ℕ) → 0 < b → 0 < remainder_of z b → ceiling_of z b ≡ floor_of z b +ℤ pos 1
ceiling_more (pos a) b h r =
    let d = div-add-mod' a b in
    let small : a % b < b = omega arith in
    ap pos (quotient_is (a + (b - 1)) (a / b + 1) b (a % b - 1) (omega (arith, d, r)) (omega arith))
ceiling_more (negsuc a) b h r = elim (cases_lt (a + 1) b) [
  | inl lt ↦
      let none : a / b ≡ 0 = below_one a b (a / b) (a % b) (div-add-mod' a b) (omega arith) in
      let zero_last : pos 0 ≡ negsuc (a / b) +ℤ pos 1 = omega (arith, ints, none) in
      ap (λ x. floor_of x b) (not_below_zero a b lt) ∙ ap pos (quotient_is (b - 2 - a) 0 b (b - 2 - a) (omega arith) (omega arith)) ∙ zero_last
  | inr le ↦
      let d = div-add-mod' a b in
      let whole : 0 < a / b = whole_part a b (a / b) (a % b) d (omega (arith, r)) le in
      let k = a / b - 1 in
      let q-is : k + 1 ≡ a / b = omega (arith, whole) in
      let parts = one_less_whole a b k (a % b) (ap (λ q. q * b + a % b) q-is ∙ d) (omega arith) in
      let q : (a + 1 - b) / b ≡ k = quotient_is (a + 1 - b) k b (a % b + 1) parts (omega (arith, r)) in
      let one_less : negsuc (a / b - 1) ≡ negsuc (a / b) +ℤ pos 1 = omega (arith, ints, whole) in
      ap (λ x. floor_of x b) (below_zero a b h le) ∙ ap negsuc q ∙ one_less
]

-- a line of one place
pub reflected_one : (i : ℤ) (i0 i1 : ℕ) → i1 - i0 ≡ 1 → reflected i i0 i1 ≡ i0
unfolding reflected
reflected_one i i0 i1 e =
    let j = remainder_of (i -ℤ pos i0) (2 * (i1 - i0 - 1)) in
    omega (arith, e)

pub reflected_is : (i : ℤ) (i0 i1 p j : ℕ) → p ≡ 2 * (i1 - i0 - 1) → j ≡ remainder_of (i -ℤ pos i0) p → i0 + min j (p - j) ≡ reflected i i0 i1
unfolding reflected
reflected_is i i0 i1 p j e f = rw (f, e) refl
