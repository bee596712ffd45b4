-- The bits of a column's index.
use Rattle.std.proofs.Common.{◌≡◌, ℕ, zero, suc, ◌+◌, ◌*◌, ◌/◌, ◌%◌, ◌^◌, ◌<◌, Bool, true, false, refl, ap, ◌∙◌, arith}
use Rattle.std.specs.Prelude.{◌&&◌, ◌||◌}
use Rattle.std.specs.Int.RustNames.{bit_or, bit_and}
use Rattle.std.proofs.lemmas.Bool.Decides.{nat_tests}
use Rattle.std.proofs.lemmas.Nat.{or_lt, and_le_r}
use Rattle.jk_scan.specs.Bits.{on}
use Rattle.jk_scan.proofs.BitLaws.{on_or, on_and, on_shr_at, on_shl, on_shl_low}
use Rattle.jk_columns.specs.Columns.{IsIndex}

pub ones_low : (k : ℕ) → k < 8 → on 255 k ≡ true
unfolding on
ones_low zero h = refl
ones_low (suc zero) h = refl
ones_low (suc (suc zero)) h = refl
ones_low (suc (suc (suc zero))) h = refl
ones_low (suc (suc (suc (suc zero)))) h = refl
ones_low (suc (suc (suc (suc (suc zero))))) h = refl
ones_low (suc (suc (suc (suc (suc (suc zero)))))) h = refl
ones_low (suc (suc (suc (suc (suc (suc (suc zero))))))) h = refl
ones_low (suc (suc (suc (suc (suc (suc (suc (suc k)))))))) h = absurd (omega arith)

none_at_eight : on 255 8 ≡ false
unfolding on
none_at_eight = refl

one_at_zero : on 1 0 ≡ true
unfolding on
one_at_zero = refl

first_only : (a m b : Bool) → m ≡ true → b ≡ false → ((a && m) || b) ≡ a
first_only a m b e g = grind (arith, nat_tests)

second_only : (a m b n : Bool) → m ≡ false → n ≡ true → ((a && m) || (b && n)) ≡ b
second_only a m b n e g = grind (arith, nat_tests)

abbrev index_of : (w r c : ℕ) → ℕ
index_of w r c = bit_or (bit_and (w / 2 ^ (8 * c)) 255) (bit_and (r / 2 ^ (8 * c + 1)) 1 * 2 ^ 8 % 2 ^ 64)

low_bit : (w r c k : ℕ) → k < 8 → on (index_of w r c) k ≡ on w (8 * c + k)
low_bit w r c k h =
    on_or (bit_and (w / 2 ^ (8 * c)) 255) (bit_and (r / 2 ^ (8 * c + 1)) 1 * 2 ^ 8 % 2 ^ 64) k
    ∙ ap (λ b. b || on (bit_and (r / 2 ^ (8 * c + 1)) 1 * 2 ^ 8 % 2 ^ 64) k) (on_and (w / 2 ^ (8 * c)) 255 k)
    ∙ first_only (on (w / 2 ^ (8 * c)) k) (on 255 k) (on (bit_and (r / 2 ^ (8 * c + 1)) 1 * 2 ^ 8 % 2 ^ 64) k) (ones_low k h) (on_shl_low (bit_and (r / 2 ^ (8 * c + 1)) 1) 8 64 k h (omega arith))
    ∙ on_shr_at w (8 * c) (8 * c + k) k refl

run_bit : (w r c : ℕ) → on (index_of w r c) 8 ≡ on r (8 * c + 1)
run_bit w r c =
    on_or (bit_and (w / 2 ^ (8 * c)) 255) (bit_and (r / 2 ^ (8 * c + 1)) 1 * 2 ^ 8 % 2 ^ 64) 8
    ∙ ap (λ b. b || on (bit_and (r / 2 ^ (8 * c + 1)) 1 * 2 ^ 8 % 2 ^ 64) 8) (on_and (w / 2 ^ (8 * c)) 255 8)
    ∙ ap (λ b. (on (w / 2 ^ (8 * c)) 8 && on 255 8) || b) (on_shl (bit_and (r / 2 ^ (8 * c + 1)) 1) 8 64 0 8 refl (omega arith) ∙ on_and (r / 2 ^ (8 * c + 1)) 1 0)
    ∙ second_only (on (w / 2 ^ (8 * c)) 8) (on 255 8) (on (r / 2 ^ (8 * c + 1)) 0) (on 1 0) none_at_eight one_at_zero
    ∙ on_shr_at r (8 * c + 1) (8 * c + 1) 0 (omega arith)

pub index_is : (w r c members ones : ℕ) → c < 8 → ((c r : ℕ) → c < 8 → r < 4 → on w (8 * c + r) ≡ on members (8 * c + (r + 1))) → ((c r : ℕ) → c < 8 → r < 4 → on w (8 * c + 4 + r) ≡ on ones (8 * c + (r + 1)))
    → IsIndex members ones r c (index_of w r c)
index_is w r c members ones h low high = record {
  small = (let a = and_le_r (w / 2 ^ (8 * c)) 255 in let b = and_le_r (r / 2 ^ (8 * c + 1)) 1 in
      or_lt 9 (bit_and (w / 2 ^ (8 * c)) 255) (bit_and (r / 2 ^ (8 * c + 1)) 1 * 2 ^ 8 % 2 ^ 64) (omega (arith, a)) (omega (arith, b)));
  members_are = λ k l. low_bit w r c k (omega (arith, l)) ∙ low c k h l;
  ones_are = λ k l. low_bit w r c (4 + k) (omega (arith, l)) ∙ ap (on w) (let e : 8 * c + (4 + k) ≡ 8 * c + 4 + k = omega arith in e) ∙ high c k h l;
  run_is = run_bit w r c;
}
