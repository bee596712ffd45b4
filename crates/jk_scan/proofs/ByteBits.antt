-- Bytes by their bits.
use Rattle.std.proofs.Common.{◌≡◌, ℕ, ◌+◌, ◌-◌, ◌*◌, ◌/◌, ◌%◌, ◌^◌, ◌<◌, ◌≤◌, Bool, true, false, cond, refl, ap, ◌∙◌, arith}
use Rattle.std.specs.Prelude.{◌&&◌, ◌||◌, nat_eq, nat_le, nat_lt}
use Rattle.std.specs.Int.RustNames.{bit_or, bit_and}
use Rattle.std.proofs.lemmas.Bool.Decides.{nat_tests}
use Rattle.std.proofs.Math.Nat.{mod-lt}
use Rattle.jk_scan.specs.Bits.{on}
use Rattle.jk_scan.specs.WordNumbers.{of_digits, byte_of}
use Rattle.jk_scan.proofs.BitLaws.{on_or, on_and, on_mod, on_shl_any, on_shr, on_shr_at}
use Rattle.jk_scan.proofs.DigitBits.{all_eight, all_eight_at, both, same_number}
use Rattle.jk_scan.proofs.HalfBits.{lows}
use Rattle.jk_scan.proofs.Patterns.{all_below, all_at, same, same_is, firsts}

abbrev of_eight : (a b d e p q r s : Bool) → ℕ
of_eight a b d e p q r s = of_digits a b d e + 16 * of_digits p q r s

byte_test : ℕ → Bool
byte_test n = nat_eq n (of_eight (on n 0) (on n 1) (on n 2) (on n 3) (on n 4) (on n 5) (on n 6) (on n 7))

bytes_all : all_below 256 byte_test ≡ true
unfolding all_below byte_test of_digits on
bytes_all = refl

byte_is : (n : ℕ) → n < 256 → n ≡ of_eight (on n 0) (on n 1) (on n 2) (on n 3) (on n 4) (on n 5) (on n 6) (on n 7)
unfolding byte_test
byte_is n h = same_number n (of_eight (on n 0) (on n 1) (on n 2) (on n 3) (on n 4) (on n 5) (on n 6) (on n 7)) (all_at 256 byte_test bytes_all n h)

same_eight : {a b d e p q r s a' b' d' e' p' q' r' s' : Bool} → a ≡ a' → b ≡ b' → d ≡ d' → e ≡ e' → p ≡ p' → q ≡ q' → r ≡ r' → s ≡ s' → of_eight a b d e p q r s ≡ of_eight a' b' d' e' p' q' r' s'
same_eight f g h i j k l m = cc

pub byte_digits : (word c : ℕ) {a b d e p q r s : Bool} → on word (8 * c + 0) ≡ a → on word (8 * c + 1) ≡ b → on word (8 * c + 2) ≡ d → on word (8 * c + 3) ≡ e → on word (8 * c + 4) ≡ p → on word (8 * c + 5) ≡ q
    → on word (8 * c + 6) ≡ r → on word (8 * c + 7) ≡ s → byte_of word c ≡ of_digits a b d e + 16 * of_digits p q r s
byte_digits word c f g h i j k l m =
    byte_is (byte_of word c) (mod-lt (word / 2 ^ (8 * c)) (omega arith))
    ∙ same_eight (bit 0 (omega arith) ∙ f) (bit 1 (omega arith) ∙ g) (bit 2 (omega arith) ∙ h) (bit 3 (omega arith) ∙ i) (bit 4 (omega arith) ∙ j) (bit 5 (omega arith) ∙ k) (bit 6 (omega arith) ∙ l) (bit 7 (omega arith) ∙ m)
  where
    bit : (i : ℕ) → i < 8 → on (byte_of word c) i ≡ on word (8 * c + i)
    bit i h = on_mod (word / 2 ^ (8 * c)) 8 i h ∙ on_shr word (8 * c) i

-- twice a number below 16, and a bit
doubled_all : all_eight (λ o a b d e p q r. nat_eq (of_digits o a b d + 16 * of_digits e false false false) (2 * of_digits a b d e + cond o 1 0)) ≡ true
unfolding both all_eight of_digits
doubled_all = refl

pub doubled : (o a b d e : Bool) → of_digits o a b d + 16 * of_digits e false false false ≡ 2 * of_digits a b d e + cond o 1 0
doubled o a b d e =
    same_number (of_digits o a b d + 16 * of_digits e false false false) (2 * of_digits a b d e + cond o 1 0)
    (all_eight_at (λ o a b d e p q r. nat_eq (of_digits o a b d + 16 * of_digits e false false false) (2 * of_digits a b d e + cond o 1 0)) doubled_all o a b d e true true true)

pub behind_sixteen : (n : ℕ) → n + 16 * of_digits true false false false ≡ 16 + n
unfolding of_digits
behind_sixteen n = omega arith

abbrev pub with_bits_of : (numbers ones line : ℕ) → ℕ
with_bits_of numbers ones line = bit_or (bit_and numbers 0x0F0F_0F0F_0F0F_0F0F * 2 ^ 1 % 2 ^ 64) (bit_and (ones / 2 ^ (line + 1)) 0x0101_0101_0101_0101)

with_bits_at : (numbers ones line c i : ℕ) → c < 8 → i < 8
    → on (with_bits_of numbers ones line) (8 * c + i) ≡ ((nat_le 1 (8 * c + i) && (on numbers (8 * c + i - 1) && nat_lt ((8 * c + i - 1) % 8) 4)) || (on (ones / 2 ^ (line + 1)) (8 * c + i) && nat_eq i 0))
with_bits_at numbers ones line c i p q =
    on_or (bit_and numbers 0x0F0F_0F0F_0F0F_0F0F * 2 ^ 1 % 2 ^ 64) (bit_and (ones / 2 ^ (line + 1)) 0x0101_0101_0101_0101) (8 * c + i)
    ∙ two (on_shl_any (bit_and numbers 0x0F0F_0F0F_0F0F_0F0F) 1 64 (8 * c + i) (omega arith) ∙ ap (λ t. nat_le 1 (8 * c + i) && t) (on_and numbers 0x0F0F_0F0F_0F0F_0F0F (8 * c + i - 1) ∙ ap (λ t. on numbers (8 * c + i - 1) && t) (lows (8 * c + i - 1) (omega arith))))
    (on_and (ones / 2 ^ (line + 1)) 0x0101_0101_0101_0101 (8 * c + i) ∙ ap (λ t. on (ones / 2 ^ (line + 1)) (8 * c + i) && t) (firsts c i p q))
  where
    two : {a b a' b' : Bool} → a ≡ a' → b ≡ b' → (a || b) ≡ (a' || b')
    two e g = cc

pub with_bits_first : (numbers ones line c : ℕ) → c < 8 → on (with_bits_of numbers ones line) (8 * c + 0) ≡ on ones (8 * c + (line + 1))
with_bits_first numbers ones line c p =
    with_bits_at numbers ones line c 0 p (omega arith) ∙ pick (on numbers (8 * c + 0 - 1)) (on (ones / 2 ^ (line + 1)) (8 * c + 0)) (nat_lt ((8 * c + 0 - 1) % 8) 4) far
    ∙ on_shr_at ones (line + 1) (8 * c + (line + 1)) (8 * c + 0) (omega arith)
  where
    far : 1 ≤ 8 * c + 0 → nat_lt ((8 * c + 0 - 1) % 8) 4 ≡ false
    far l = let o : 4 ≤ (8 * c + 0 - 1) % 8 = omega (arith, l) in grind (arith, nat_tests)

    pick : (x y q : Bool) → (1 ≤ 8 * c + 0 → q ≡ false) → ((nat_le 1 (8 * c + 0) && (x && q)) || (y && true)) ≡ y
    pick x y q e = grind (arith, nat_tests)

pub with_bits_next : (numbers ones line c i : ℕ) → c < 8 → i < 4 → on (with_bits_of numbers ones line) (8 * c + (i + 1)) ≡ on numbers (8 * c + i)
with_bits_next numbers ones line c i p q =
    with_bits_at numbers ones line c (i + 1) p (omega arith)
    ∙ pick (on numbers (8 * c + (i + 1) - 1)) (on (ones / 2 ^ (line + 1)) (8 * c + (i + 1))) (nat_lt ((8 * c + (i + 1) - 1) % 8) 4) (let o : (8 * c + (i + 1) - 1) % 8 < 4 = omega (arith, q) in let g : nat_lt ((8 * c + (i + 1) - 1) % 8) 4 ≡ true = grind (arith, nat_tests) in g)
    ∙ ap (on numbers) (omega arith)
  where
    pick : (x y q : Bool) → q ≡ true → ((nat_le 1 (8 * c + (i + 1)) && (x && q)) || (y && nat_eq (i + 1) 0)) ≡ x
    pick x y q e = grind (arith, nat_tests)

pub with_bits_none : (numbers ones line c i : ℕ) → c < 8 → 5 ≤ i → i < 8 → on (with_bits_of numbers ones line) (8 * c + i) ≡ false
with_bits_none numbers ones line c i p low q =
    with_bits_at numbers ones line c i p q
    ∙ pick (on numbers (8 * c + i - 1)) (on (ones / 2 ^ (line + 1)) (8 * c + i)) (nat_lt ((8 * c + i - 1) % 8) 4) (let o : 4 ≤ (8 * c + i - 1) % 8 = omega (arith, low, q) in let g : nat_lt ((8 * c + i - 1) % 8) 4 ≡ false = grind (arith, nat_tests) in g)
  where
    pick : (x y q : Bool) → q ≡ false → ((nat_le 1 (8 * c + i) && (x && q)) || (y && nat_eq i 0)) ≡ false
    pick x y q e = grind (arith, nat_tests)

sixteens : (k : ℕ) → k < 64 → on 0x1010_1010_1010_1010 k ≡ nat_eq (k % 8) 4
unfolding all_below same on
sixteens k h = same_is (on 0x1010_1010_1010_1010 k) (nat_eq (k % 8) 4) (all_at 64 (λ k. same (on 0x1010_1010_1010_1010 k) (nat_eq (k % 8) 4)) refl k h)

abbrev pub with_sixteen_of : (numbers : ℕ) → ℕ
with_sixteen_of numbers = bit_or (bit_and (numbers / 2 ^ 4) 0x0F0F_0F0F_0F0F_0F0F) 0x1010_1010_1010_1010

with_sixteen_at : (numbers c i : ℕ) → c < 8 → i < 8 → on (with_sixteen_of numbers) (8 * c + i) ≡ ((on (numbers / 2 ^ 4) (8 * c + i) && nat_lt ((8 * c + i) % 8) 4) || nat_eq ((8 * c + i) % 8) 4)
with_sixteen_at numbers c i p q =
    on_or (bit_and (numbers / 2 ^ 4) 0x0F0F_0F0F_0F0F_0F0F) 0x1010_1010_1010_1010 (8 * c + i)
    ∙ two (on_and (numbers / 2 ^ 4) 0x0F0F_0F0F_0F0F_0F0F (8 * c + i) ∙ ap (λ t. on (numbers / 2 ^ 4) (8 * c + i) && t) (lows (8 * c + i) (omega arith))) (sixteens (8 * c + i) (omega arith))
  where
    two : {a b a' b' : Bool} → a ≡ a' → b ≡ b' → (a || b) ≡ (a' || b')
    two e g = cc

pub with_sixteen_low : (numbers c i : ℕ) → c < 8 → i < 4 → on (with_sixteen_of numbers) (8 * c + i) ≡ on numbers (8 * c + 4 + i)
with_sixteen_low numbers c i p q =
    let o : (8 * c + i) % 8 ≡ i = omega (arith, q) in
    with_sixteen_at numbers c i p (omega arith) ∙ pick (on (numbers / 2 ^ 4) (8 * c + i)) ((8 * c + i) % 8) (omega (arith, o, q)) ∙ on_shr_at numbers 4 (8 * c + 4 + i) (8 * c + i) (omega arith)
  where
    pick : (x : Bool) (n : ℕ) → n < 4 → ((x && nat_lt n 4) || nat_eq n 4) ≡ x
    pick x n e = grind (arith, nat_tests)

pub with_sixteen_four : (numbers c : ℕ) → c < 8 → on (with_sixteen_of numbers) (8 * c + 4) ≡ true
with_sixteen_four numbers c p =
    let o : (8 * c + 4) % 8 ≡ 4 = omega arith in
    with_sixteen_at numbers c 4 p (omega arith) ∙ pick (on (numbers / 2 ^ 4) (8 * c + 4)) ((8 * c + 4) % 8) o
  where
    pick : (x : Bool) (n : ℕ) → n ≡ 4 → ((x && nat_lt n 4) || nat_eq n 4) ≡ true
    pick x n e = grind (arith, nat_tests)

pub with_sixteen_none : (numbers c i : ℕ) → c < 8 → 5 ≤ i → i < 8 → on (with_sixteen_of numbers) (8 * c + i) ≡ false
with_sixteen_none numbers c i p low q =
    let o : (8 * c + i) % 8 ≡ i = omega (arith, q) in
    with_sixteen_at numbers c i p q ∙ pick (on (numbers / 2 ^ 4) (8 * c + i)) ((8 * c + i) % 8) (omega (arith, o, low))
  where
    pick : (x : Bool) (n : ℕ) → 5 ≤ n → ((x && nat_lt n 4) || nat_eq n 4) ≡ false
    pick x n e = grind (arith, nat_tests)

at_most : (b : Bool) (n : ℕ) → cond b n 0 ≤ n
at_most true n = omega arith
at_most false n = omega arith

digits_small : (a b d e : Bool) → of_digits a b d e < 16
unfolding of_digits
digits_small a b d e =
    let p = at_most a 1 in
    let q = at_most b 2 in
    let r = at_most d 4 in
    let s = at_most e 8 in
    omega (arith, p, q, r, s)

pub doubled_small : (n : ℕ) (a b d e o : Bool) → n ≡ 2 * of_digits a b d e + cond o 1 0 → n < 32
doubled_small n a b d e o h = let m = digits_small a b d e in let p = at_most o 1 in omega (arith, m, p, h)

pub sixteen_small : (n : ℕ) (a b d e : Bool) → n ≡ 16 + of_digits a b d e → n < 32
sixteen_small n a b d e h = let m = digits_small a b d e in omega (arith, m, h)
