-- The algebra of bits.
use Rattle.std.proofs.Common.{◌≡◌, ℕ, zero, suc, ◌+◌, ◌-◌, ◌*◌, ◌/◌, ◌%◌, ◌^◌, ◌<◌, ◌≤◌, min, max, true, false, not, refl, sym, ap, ◌∙◌, inl, inr, arith}
use Rattle.std.specs.Prelude.{◌&&◌, ◌||◌, nat_le, nat_eq}
use Rattle.std.specs.Int.{bit_at, Width, bit_not}
use Rattle.std.specs.Int.RustNames.{bit_or, bit_and}
use Rattle.std.proofs.lemmas.Nat.{shr-shr, shr_split, pow_pos}
use Rattle.std.proofs.lemmas.Nat.Bits.{bit_at_or, bit_at_and, bit_at_not, bit_at-lt, bit_at_above, bit_at_cat_low, bit_at_cat_high, same_from_bits_below}
use Rattle.std.proofs.lemmas.Bool.{cases_lt}
use Rattle.std.proofs.lemmas.Bool.Decides.{nat_tests}
use Rattle.jk_scan.specs.Bits.{on}
use mir.Val.{bits}

or_of_bits : (x y : ℕ) → x < 2 → y < 2 → nat_eq (max x y) 1 ≡ (nat_eq x 1 || nat_eq y 1)
or_of_bits x y p q = grind (arith, nat_tests)

and_of_bits : (x y : ℕ) → x < 2 → y < 2 → nat_eq (min x y) 1 ≡ (nat_eq x 1 && nat_eq y 1)
and_of_bits x y p q = grind (arith, nat_tests)

not_of_bit : (x : ℕ) → x < 2 → nat_eq (1 - x) 1 ≡ not (nat_eq x 1)
not_of_bit x p = grind (arith, nat_tests)

pub on_or : (a b k : ℕ) → on (bit_or a b) k ≡ (on a k || on b k)
unfolding on
on_or a b k = ap (λ x. nat_eq x 1) (bit_at_or a b k) ∙ or_of_bits (bit_at a k) (bit_at b k) (bit_at-lt a k) (bit_at-lt b k)

pub on_and : (a b k : ℕ) → on (bit_and a b) k ≡ (on a k && on b k)
unfolding on
on_and a b k = ap (λ x. nat_eq x 1) (bit_at_and a b k) ∙ and_of_bits (bit_at a k) (bit_at b k) (bit_at-lt a k) (bit_at-lt b k)

pub on_not : (w : Width) (a k : ℕ) → a < 2 ^ bits w → k < bits w → on (bit_not w a) k ≡ not (on a k)
unfolding on
on_not w a k p q = ap (λ x. nat_eq x 1) (bit_at_not w a k p q) ∙ not_of_bit (bit_at a k) (bit_at-lt a k)

pub on_above : (a w k : ℕ) → a < 2 ^ w → w ≤ k → on a k ≡ false
unfolding on
on_above a w k p q = ap (λ x. nat_eq x 1) (bit_at_above a w k p q)

pub on_zero : (k : ℕ) → on 0 k ≡ false
on_zero k = on_above 0 0 k (omega arith) (omega arith)

-- a shift to the right
pub on_shr : (a s k : ℕ) → on (a / 2 ^ s) k ≡ on a (s + k)
unfolding on
on_shr a s k = ap (λ x. nat_eq (x % 2) 1) (shr-shr a s k)

-- what a width cuts off
pub on_mod : (a w k : ℕ) → k < w → on (a % 2 ^ w) k ≡ on a k
unfolding on
on_mod a w k h = ap (λ x. nat_eq x 1) (sym (bit_at_cat_low (a / 2 ^ w) w (a % 2 ^ w) k h) ∙ ap (λ x. bit_at x k) (shr_split a w))

-- a shift to the left
pub on_shl_high : (a s w k : ℕ) → s + k < w → on (a * 2 ^ s % 2 ^ w) (s + k) ≡ on a k
unfolding on
on_shl_high a s w k h =
    on_mod (a * 2 ^ s) w (s + k) h ∙ ap (λ x. nat_eq x 1) (ap (λ x. bit_at x (s + k)) (let e : a * 2 ^ s ≡ a * 2 ^ s + 0 = omega arith in e) ∙ bit_at_cat_high a s 0 (s + k) (pow_pos s) (omega arith)
    ∙ ap (bit_at a) (let e : s + k - s ≡ k = omega arith in e))

pub on_shl_low : (a s w k : ℕ) → k < s → k < w → on (a * 2 ^ s % 2 ^ w) k ≡ false
unfolding on
on_shl_low a s w k h l =
    on_mod (a * 2 ^ s) w k l ∙ ap (λ x. nat_eq x 1) (ap (λ x. bit_at x k) (let e : a * 2 ^ s ≡ a * 2 ^ s + 0 = omega arith in e) ∙ bit_at_cat_low a s 0 k h ∙ bit_at_above 0 0 k (omega arith) (omega arith))

-- words with the same bits are equal
pub same_from_on : (w a b : ℕ) → a < 2 ^ w → b < 2 ^ w → ((k : ℕ) → k < w → on a k ≡ on b k) → a ≡ b
unfolding on
same_from_on w a b p q same = same_from_bits_below w a b p q (λ k h. bits_from (bit_at a k) (bit_at b k) (bit_at-lt a k) (bit_at-lt b k) (same k h))
  where
    bits_from : (x y : ℕ) → x < 2 → y < 2 → nat_eq x 1 ≡ nat_eq y 1 → x ≡ y
    bits_from x y p q e = grind (arith, nat_tests)

-- the same, at any index that is so much higher or lower
pub on_shl : (a s w k j : ℕ) → j ≡ s + k → j < w → on (a * 2 ^ s % 2 ^ w) j ≡ on a k
on_shl a s w k j e h = ap (on (a * 2 ^ s % 2 ^ w)) e ∙ on_shl_high a s w k (omega arith)

pub on_shr_at : (a s k j : ℕ) → k ≡ s + j → on (a / 2 ^ s) j ≡ on a k
on_shr_at a s k j e = on_shr a s j ∙ ap (on a) (sym e)

pub on_shl_any : (a s w k : ℕ) → k < w → on (a * 2 ^ s % 2 ^ w) k ≡ (nat_le s k && on a (k - s))
on_shl_any a s w k h = elim (cases_lt k s) [
  | inl low ↦ on_shl_low a s w k low h ∙ sym (ap (λ b. b && on a (k - s)) (let e : nat_le s k ≡ false = grind (arith, nat_tests) in e))
  | inr high ↦ on_shl a s w (k - s) k (omega arith) h ∙ sym (ap (λ b. b && on a (k - s)) (let e : nat_le s k ≡ true = grind (arith, nat_tests) in e))
]

-- one bit set
pub on_one : (k : ℕ) → on 1 k ≡ nat_eq k 0
unfolding on
on_one zero = refl
on_one (suc k) = on_above 1 1 (suc k) (omega arith) (omega arith) ∙ (let e : false ≡ nat_eq (suc k) 0 = grind (arith, nat_tests) in e)

pub on_set : (a z w k : ℕ) → k < w → on (bit_or a (1 * 2 ^ z % 2 ^ w)) k ≡ (on a k || nat_eq k z)
on_set a z w k h =
    on_or a (1 * 2 ^ z % 2 ^ w) k ∙ ap (λ b. on a k || b) (on_shl_any 1 z w k h ∙ ap (λ b. nat_le z k && b) (on_one (k - z)) ∙ (let e : (nat_le z k && nat_eq (k - z) 0) ≡ nat_eq k z = grind (arith, nat_tests) in e))
