-- Bits of two words put together, and the four bits of each half byte of four words turned.
use Rattle.std.proofs.Common.{◌≡◌, ℕ, ◌+◌, ◌-◌, ◌*◌, ◌%◌, ◌^◌, ◌<◌, ◌≤◌, Bool, true, false, refl, ap, ◌∙◌, arith}
use Rattle.std.specs.Prelude.{◌&&◌, ◌||◌, nat_eq, nat_le, nat_lt}
use Rattle.std.specs.Int.RustNames.{bit_or, bit_and}
use Rattle.std.proofs.lemmas.Bool.Decides.{nat_tests}
use Rattle.jk_scan.specs.Bits.{on}
use Rattle.jk_scan.specs.WordNumbers.{of_digits}
use Rattle.jk_scan.proofs.BitLaws.{on_or, on_and, on_shl_any}
use Rattle.jk_scan.proofs.Patterns.{all_below, all_at, same, same_is}

-- the masks
pub fives : (k : ℕ) → k < 64 → on 0x5555_5555_5555_5555 k ≡ nat_eq (k % 2) 0
unfolding all_below same on
fives k h = same_is (on 0x5555_5555_5555_5555 k) (nat_eq (k % 2) 0) (all_at 64 (λ k. same (on 0x5555_5555_5555_5555 k) (nat_eq (k % 2) 0)) refl k h)

pub tens : (k : ℕ) → k < 64 → on 0xAAAA_AAAA_AAAA_AAAA k ≡ nat_eq (k % 2) 1
unfolding all_below same on
tens k h = same_is (on 0xAAAA_AAAA_AAAA_AAAA k) (nat_eq (k % 2) 1) (all_at 64 (λ k. same (on 0xAAAA_AAAA_AAAA_AAAA k) (nat_eq (k % 2) 1)) refl k h)

pub threes : (k : ℕ) → k < 64 → on 0x3333_3333_3333_3333 k ≡ nat_lt (k % 4) 2
unfolding all_below same on
threes k h = same_is (on 0x3333_3333_3333_3333 k) (nat_lt (k % 4) 2) (all_at 64 (λ k. same (on 0x3333_3333_3333_3333 k) (nat_lt (k % 4) 2)) refl k h)

pub twelves : (k : ℕ) → k < 64 → on 0xCCCC_CCCC_CCCC_CCCC k ≡ nat_le 2 (k % 4)
unfolding all_below same on
twelves k h = same_is (on 0xCCCC_CCCC_CCCC_CCCC k) (nat_le 2 (k % 4)) (all_at 64 (λ k. same (on 0xCCCC_CCCC_CCCC_CCCC k) (nat_le 2 (k % 4))) refl k h)

pub lows : (k : ℕ) → k < 64 → on 0x0F0F_0F0F_0F0F_0F0F k ≡ nat_lt (k % 8) 4
unfolding all_below same on
lows k h = same_is (on 0x0F0F_0F0F_0F0F_0F0F k) (nat_lt (k % 8) 4) (all_at 64 (λ k. same (on 0x0F0F_0F0F_0F0F_0F0F k) (nat_lt (k % 8) 4)) refl k h)

pub highs : (k : ℕ) → k < 64 → on 0xF0F0_F0F0_F0F0_F0F0 k ≡ nat_le 4 (k % 8)
unfolding all_below same on
highs k h = same_is (on 0xF0F0_F0F0_F0F0_F0F0 k) (nat_le 4 (k % 8)) (all_at 64 (λ k. same (on 0xF0F0_F0F0_F0F0_F0F0 k) (nat_le 4 (k % 8))) refl k h)

-- two masked words
masked_two : (a b m n k : ℕ) → on (bit_or (bit_and a m) (bit_and b n)) k ≡ ((on a k && on m k) || (on b k && on n k))
masked_two a b m n k = on_or (bit_and a m) (bit_and b n) k ∙ two (on_and a m k) (on_and b n k)
  where
    two : {a b a' b' : Bool} → a ≡ a' → b ≡ b' → (a || b) ≡ (a' || b')
    two e g = cc

pub of_first : (a b m n k : ℕ) → on m k ≡ true → on n k ≡ false → on (bit_or (bit_and a m) (bit_and b n)) k ≡ on a k
of_first a b m n k p q = masked_two a b m n k ∙ pick (on a k) (on b k) (on m k) (on n k) p q
  where
    pick : (x y p q : Bool) → p ≡ true → q ≡ false → ((x && p) || (y && q)) ≡ x
    pick x y p q e g = grind (arith, nat_tests)

pub of_second : (a b m n k : ℕ) → on m k ≡ false → on n k ≡ true → on (bit_or (bit_and a m) (bit_and b n)) k ≡ on b k
of_second a b m n k p q = masked_two a b m n k ∙ pick (on a k) (on b k) (on m k) (on n k) p q
  where
    pick : (x y p q : Bool) → p ≡ false → q ≡ true → ((x && p) || (y && q)) ≡ y
    pick x y p q e g = grind (arith, nat_tests)

-- the same where the second one is moved up behind its mask
moved_two : (a b m s k : ℕ) → k < 64 → on (bit_or (bit_and a m) (bit_and b m * 2 ^ s % 2 ^ 64)) k ≡ ((on a k && on m k) || (nat_le s k && (on b (k - s) && on m (k - s))))
moved_two a b m s k h = on_or (bit_and a m) (bit_and b m * 2 ^ s % 2 ^ 64) k ∙ two (on_and a m k) (on_shl_any (bit_and b m) s 64 k h ∙ ap (λ t. nat_le s k && t) (on_and b m (k - s)))
  where
    two : {a b a' b' : Bool} → a ≡ a' → b ≡ b' → (a || b) ≡ (a' || b')
    two e g = cc

pub of_unmoved : (a b m s k : ℕ) → k < 64 → on m k ≡ true → (s ≤ k → on m (k - s) ≡ false) → on (bit_or (bit_and a m) (bit_and b m * 2 ^ s % 2 ^ 64)) k ≡ on a k
of_unmoved a b m s k h p q = moved_two a b m s k h ∙ pick (on a k) (on b (k - s)) (on m k) (on m (k - s)) p q
  where
    pick : (x y p q : Bool) → p ≡ true → (s ≤ k → q ≡ false) → ((x && p) || (nat_le s k && (y && q))) ≡ x
    pick x y p q e g = grind (arith, nat_tests)

pub of_moved : (a b m s k j : ℕ) → k ≡ j + s → k < 64 → on m k ≡ false → on m j ≡ true → on (bit_or (bit_and a m) (bit_and b m * 2 ^ s % 2 ^ 64)) k ≡ on b j
of_moved a b m s k j e h p q =
    moved_two a b m s k h ∙ pick (on a k) (on b (k - s)) (on m k) (on m (k - s)) p (ap (on m) back ∙ q) ∙ ap (on b) back
  where
    back : k - s ≡ j
    back = omega (arith, e)

    pick : (x y p q : Bool) → p ≡ false → q ≡ true → ((x && p) || (nat_le s k && (y && q))) ≡ y
    pick x y p q f g = grind (arith, nat_tests, e)

pub same_digits : {a b d e a' b' d' e' : Bool} → a ≡ a' → b ≡ b' → d ≡ d' → e ≡ e' → of_digits a b d e ≡ of_digits a' b' d' e'
same_digits p q r s = cc
