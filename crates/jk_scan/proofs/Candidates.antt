-- The candidates of a loop: the set bits of a word, from the lowest on.
use Rattle.std.proofs.Common.{◌≡◌, ℕ, zero, suc, ◌+◌, ◌-◌, ◌*◌, ◌/◌, ◌%◌, ◌^◌, ◌<◌, ◌≤◌, Bool, true, false, refl, sym, ap, ◌∙◌, inl, inr, ◌⊎◌, arith}
use Rattle.std.specs.Prelude.{◌&&◌, ◌||◌, nat_eq, nat_le}
use Rattle.std.specs.Int.{bit_at, bit_not, trailing_zeros, w64}
use Rattle.std.specs.Int.RustNames.{bit_or, bit_and}
use Rattle.std.proofs.lemmas.Bool.{cases_lt}
use Rattle.std.proofs.lemmas.Bool.Decides.{nat_tests}
use Rattle.std.proofs.lemmas.Nat.{shr_split, pow_pos, or_lt, and_le_l, and_le_r}
use Rattle.std.proofs.Math.Nat.{mod-lt}
use Rattle.std.proofs.lemmas.Nat.Bits.{bit_at-trailing_zeros, bit_at_cat_high, bit_at_lowest, bit_at-suc, shr_and_one}
use lib.Count.{count_trailing_zeros}
use Rattle.jk_scan.specs.Bits.{on}
use Rattle.jk_scan.proofs.BitLaws.{on_or, on_and, on_zero, on_mod, on_shl_any, same_from_on}

pub lowest : (n : ℕ) → 0 < n → n < 2 ^ 64 → (trailing_zeros w64 n < 64) × (on n (trailing_zeros w64 n) ≡ true) × ((i : ℕ) → i < trailing_zeros w64 n → on n i ≡ false)
unfolding on
lowest n p q = let l = bit_at-trailing_zeros w64 n p q in (l.0, ap (λ b. nat_eq b 1) l.1, λ i h. ap (λ b. nat_eq b 1) (l.2 i h))

-- an odd number less one
odd_pred : (q m : ℕ) → q % 2 ≡ 1 → on (q - 1) m ≡ (nat_le 1 m && on q m)
unfolding on
odd_pred q zero odd = ap (λ b. nat_eq b 1) (bit_at_lowest (q - 1) ∙ (let e : (q - 1) % 2 ≡ 0 = omega arith in e))
odd_pred q (suc m) odd =
    let up : nat_le 1 (suc m) ≡ true = grind (arith, nat_tests) in
    ap (λ b. nat_eq b 1) (bit_at-suc (q - 1) m ∙ ap (λ h. bit_at h m) (let e : (q - 1) / 2 ≡ q / 2 = omega arith in e) ∙ sym (bit_at-suc q m)) ∙ ap (λ b. b && nat_eq (bit_at q (suc m)) 1) (sym up)

-- a multiple of a power, and one less, from that power's bit on
high_bits : (q z i : ℕ) → z ≤ i → on (q * 2 ^ z) i ≡ on q (i - z)
unfolding on
high_bits q z i h = ap (λ b. nat_eq b 1) (ap (λ x. bit_at x i) (let e : q * 2 ^ z ≡ q * 2 ^ z + 0 = omega arith in e) ∙ bit_at_cat_high q z 0 i (pow_pos z) h)

less_one : (m z i : ℕ) → z ≤ i → on ((m + 1) * 2 ^ z - 1) i ≡ on m (i - z)
unfolding on
less_one m z i h =
    let pos : 0 < 2 ^ z = pow_pos z in
    ap (λ b. nat_eq b 1) (ap (λ x. bit_at x i) (product_pred m (2 ^ z) pos) ∙ bit_at_cat_high m z (2 ^ z - 1) i (omega (arith, pos)) h)
  where
    product_pred : (m p : ℕ) → 0 < p → (m + 1) * p - 1 ≡ m * p + (p - 1)
    product_pred m p pos = omega arith

-- the lowest bit taken off
pub rest_by : (n z i : ℕ) → on n z ≡ true → ((k : ℕ) → k < z → on n k ≡ false) → on (bit_and n (n - 1)) i ≡ (nat_le (z + 1) i && on n i)
unfolding on
rest_by n z i set clear = on_and n (n - 1) i ∙ elim (cases_lt i z) [
  | inl low ↦ low_case (on n i) (on (n - 1) i) (nat_le (z + 1) i) (clear i low)
  | inr high ↦
      let here : on n i ≡ on (n / 2 ^ z) (i - z) = ap (λ x. on x i) whole ∙ high_bits (n / 2 ^ z) z i high in
      let there : on (n - 1) i ≡ (nat_le 1 (i - z) && on (n / 2 ^ z) (i - z)) =
      ap (λ x. on (x - 1) i) (whole ∙ ap (λ q. q * 2 ^ z) (let o = odd in let e : n / 2 ^ z ≡ n / 2 ^ z - 1 + 1 = omega (arith, o) in e)) ∙ less_one (n / 2 ^ z - 1) z i high ∙ odd_pred (n / 2 ^ z) (i - z) odd in
      let le : nat_le 1 (i - z) ≡ nat_le (z + 1) i = grind (arith, nat_tests) in
      high_case (on n i) (on (n - 1) i) (on (n / 2 ^ z) (i - z)) (nat_le 1 (i - z)) (nat_le (z + 1) i) here there le
]
  where
    low_case : (a b l : Bool) → a ≡ false → (a && b) ≡ (l && a)
    low_case a b l e = grind (arith, nat_tests)

    high_case : (a b t l l' : Bool) → a ≡ t → b ≡ (l && t) → l ≡ l' → (a && b) ≡ (l' && a)
    high_case a b t l l' e g k = grind (arith, nat_tests)

    whole : n ≡ n / 2 ^ z * 2 ^ z
    whole =
        let none : n % 2 ^ z ≡ 0 = same_from_on z (n % 2 ^ z) 0 (mod-lt n (pow_pos z)) (pow_pos z) (λ k l. on_mod n z k l ∙ clear k l ∙ sym (on_zero k)) in
        let split = shr_split n z in
        omega (arith, split, none)

    odd : n / 2 ^ z % 2 ≡ 1
    odd = let s = set in grind (arith, nat_tests)

pub rest_at : (n : ℕ) → 0 < n → n < 2 ^ 64 → (i : ℕ) → on (bit_and n (n - 1)) i ≡ (nat_le (trailing_zeros w64 n + 1) i && on n i)
rest_at n p q i = let l = lowest n p q in rest_by n (trailing_zeros w64 n) i l.1 l.2

-- a bit is the lowest, or one of the rest
pub lowest_or_rest : (n : ℕ) → 0 < n → n < 2 ^ 64 → (i : ℕ) → on n i ≡ (nat_eq i (trailing_zeros w64 n) || on (bit_and n (n - 1)) i)
lowest_or_rest n p q i =
    let l = lowest n p q in
    gate (trailing_zeros w64 n) (on n i) (on (bit_and n (n - 1)) i) (λ e. ap (on n) e ∙ l.1) (l.2 i) (rest_at n p q i)
  where
    gate : (z : ℕ) (a b : Bool) → (i ≡ z → a ≡ true) → (i < z → a ≡ false) → b ≡ (nat_le (z + 1) i && a) → a ≡ (nat_eq i z || b)
    gate z a b h k e = grind (arith, nat_tests)

-- A word with no bit up to the lowest of another has its own lowest later, or none.
pub later_lowest : (n n' : ℕ) → 0 < n → n < 2 ^ 64 → n' < 2 ^ 64 → ((i : ℕ) → i < 64 → i ≤ trailing_zeros w64 n → on n' i ≡ false) → 64 - trailing_zeros w64 n' < 64 - trailing_zeros w64 n
unfolding count_trailing_zeros
later_lowest n n' p q q' none = by_size (cases_lt 0 n')
  where
    empty : n' ≡ 0 → trailing_zeros w64 n' ≡ 64
    empty e = ap (trailing_zeros w64) e

    differ : on n' (trailing_zeros w64 n') ≡ true → on n' (trailing_zeros w64 n') ≡ false → ⊥
    differ a b = let e : true ≡ false = sym a ∙ b in absurd (cc)

    by_size : (0 < n') ⊎ (n' ≤ 0) → 64 - trailing_zeros w64 n' < 64 - trailing_zeros w64 n
    by_size (inl some) =
        let l = lowest n p q in
        let l' = lowest n' some q' in
        let later : trailing_zeros w64 n < trailing_zeros w64 n' = elim (cases_lt (trailing_zeros w64 n) (trailing_zeros w64 n')) [
          | inl less ↦ less
          | inr not_less ↦ absurd (differ l'.1 (none (trailing_zeros w64 n') l'.0 not_less))
        ] in
        let w = l.0 in
        omega (arith, w, later)
    by_size (inr none_left_there) = let e = empty (omega arith) in let l = lowest n p q in let w = l.0 in omega (arith, e, w)

-- the places taken in behind a new one
abbrev pub taken : (inside x z : ℕ) → ℕ
taken inside x z = bit_and (bit_and (0x382 * 2 ^ z % 2 ^ 64) inside) (bit_not w64 x)

not_first : on 0x382 0 ≡ false
unfolding on
not_first = refl

-- nothing earlier is taken in
pub taken_low : (inside x z i : ℕ) → i < 64 → i ≤ z → on (taken inside x z) i ≡ false
taken_low inside x z i l le =
    on_and (bit_and (0x382 * 2 ^ z % 2 ^ 64) inside) (bit_not w64 x) i ∙ ap (λ b. b && on (bit_not w64 x) i) (on_and (0x382 * 2 ^ z % 2 ^ 64) inside i)
    ∙ ap (λ b. (b && on inside i) && on (bit_not w64 x) i) (on_shl_any 0x382 z 64 i l ∙ none)
  where
    and_false : (b : Bool) → (b && false) ≡ false
    and_false true = refl
    and_false false = refl

    none : (nat_le z i && on 0x382 (i - z)) ≡ false
    none = elim (cases_lt i z) [
      | inl less ↦ (let e : nat_le z i ≡ false = grind (arith, nat_tests) in ap (λ b. b && on 0x382 (i - z)) e)
      | inr same ↦ ap (λ d. nat_le z i && on 0x382 d) (let e : i - z ≡ 0 = omega arith in e) ∙ ap (λ b. nat_le z i && b) not_first ∙ and_false (nat_le z i)
    ]

pub set_below : (x z : ℕ) → x < 2 ^ 64 → bit_or x (1 * 2 ^ z % 2 ^ 64) < 2 ^ 64
set_below x z h = or_lt 64 x (1 * 2 ^ z % 2 ^ 64) h (mod-lt (1 * 2 ^ z) (pow_pos 64))

-- the test of a bit
pub bit_true : (bits z : ℕ) → bit_and (bits / 2 ^ z) 1 ≡ 1 → on bits z ≡ true
unfolding on
bit_true bits z e = ap (λ b. nat_eq b 1) (sym (shr_and_one bits z) ∙ e)

pub bit_false : (bits z : ℕ) → (bit_and (bits / 2 ^ z) 1 ≡ 1 → ⊥) → on bits z ≡ false
unfolding on
bit_false bits z e = let h = shr_and_one bits z in let g : bit_at bits z ≡ 1 → ⊥ = (λ k. e (h ∙ k)) in by_test (bit_at bits z) g
  where
    by_test : (b : ℕ) → (b ≡ 1 → ⊥) → nat_eq b 1 ≡ false
    by_test b g = grind (arith, nat_tests)

-- the loop comes to an end: the lowest candidate goes up
pub sooner_zero : (n : ℕ) → 0 < n → n < 2 ^ 64 → 64 - trailing_zeros w64 (bit_and n (n - 1)) < 64 - trailing_zeros w64 n
sooner_zero n p q =
    later_lowest n (bit_and n (n - 1)) p q (let e = and_le_l n (n - 1) in omega (arith, e))
    (λ i l le. rest_at n p q i ∙ ap (λ b. b && on n i) (let e : nat_le (trailing_zeros w64 n + 1) i ≡ false = grind (arith, nat_tests) in e))

pub sooner_one : (n inside x : ℕ) → 0 < n → n < 2 ^ 64 → 64 - trailing_zeros w64 (bit_or (bit_and n (n - 1)) (taken inside x (trailing_zeros w64 n))) < 64 - trailing_zeros w64 n
sooner_one n inside x p q =
    let z = trailing_zeros w64 n in
    later_lowest n (bit_or (bit_and n (n - 1)) (taken inside x z)) p q
    (or_lt 64 (bit_and n (n - 1)) (taken inside x z) (let e = and_le_l n (n - 1) in omega (arith, e))
    (let e = and_le_r (bit_and (0x382 * 2 ^ z % 2 ^ 64) inside) (bit_not w64 x) in omega (arith, e)))
    (λ i l le. on_or (bit_and n (n - 1)) (taken inside x z) i
    ∙ neither (on (bit_and n (n - 1)) i) (on (taken inside x z) i)
    (rest_at n p q i ∙ ap (λ b. b && on n i) (let e : nat_le (trailing_zeros w64 n + 1) i ≡ false = grind (arith, nat_tests) in e))
    (taken_low inside x z i l le))
  where
    neither : (a b : Bool) → a ≡ false → b ≡ false → (a || b) ≡ false
    neither a b e g = cc

pub bit_is : (bits z : ℕ) → nat_eq (bit_and (bits / 2 ^ z) 1) 1 ≡ on bits z
unfolding on
bit_is bits z = ap (λ b. nat_eq b 1) (shr_and_one bits z)
