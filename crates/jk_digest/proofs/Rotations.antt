-- Rotations of 32 bits, bit by bit, and three of them inside each other.
use Rattle.std.proofs.Common.{◌≡◌, ℕ, ◌+◌, ◌-◌, ◌*◌, ◌/◌, ◌%◌, ◌^◌, ◌<◌, ◌≤◌, ◌⊎◌, inl, inr, max, bit_or, bit_xor, sym, ap, subst, ◌∙◌, arith, mod-lt, add-zero}
use Rattle.std.specs.Int.{w32, bit_at, rotate_right}
use Rattle.std.proofs.lemmas.Nat.{or_lt, xor_lt, shr_le, shr_below, shr-shr, shr_split, pow_pos}
use Rattle.std.proofs.lemmas.Nat.Bits.{bit_at-lt, bit_at-zero, bit_at_or, bit_at_xor, bit_at_above, bit_at_cat_low, bit_at_cat_high, same_from_bits_below}
use Rattle.std.proofs.lemmas.Bool.{cases_lt}

-- a number of 32 bits rotated to the right by k, from 1 to 31
abbrev turned : ℕ → ℕ → ℕ
turned n k = bit_or (n / 2 ^ k) (n * 2 ^ (32 - k) % 2 ^ 32)

max_zero : (a : ℕ) → max a 0 ≡ a
max_zero a = omega arith

zero_max : (a : ℕ) → max 0 a ≡ a
zero_max a = omega arith

turned_fits : (n k : ℕ) → n < 2 ^ 32 → turned n k < 2 ^ 32
turned_fits n k fits = or_lt 32 (n / 2 ^ k) (n * 2 ^ (32 - k) % 2 ^ 32) (omega (arith, shr_le n k)) (mod-lt _ (pow_pos 32))

-- a bit of a number that is shifted up in 32 bits
shifted_bit : (n j i : ℕ) → i < 32 → bit_at (n * 2 ^ j % 2 ^ 32) i ≡ bit_at (n * 2 ^ j + 0) i
shifted_bit n j i place =
    let m : ℕ = n * 2 ^ j in
    sym (bit_at_cat_low (m / 2 ^ 32) 32 (m % 2 ^ 32) i place) ∙ ap (λ a. bit_at a i) (shr_split m 32 ∙ sym (add-zero m))

-- a bit comes from the place that is k above it, round the word: of the two parts one is 0 there
turned_bit : (n k i : ℕ) → n < 2 ^ 32 → k < 32 → i < 32 → bit_at (turned n k) i ≡ bit_at n ((i + k) % 32)
turned_bit n k i fits low place = bit_at_or (n / 2 ^ k) (n * 2 ^ (32 - k) % 2 ^ 32) i ∙ by (cases_lt i (32 - k))
  where
    by : (i < 32 - k) ⊎ (32 - k ≤ i) → max (bit_at (n / 2 ^ k) i) (bit_at (n * 2 ^ (32 - k) % 2 ^ 32) i) ≡ bit_at n ((i + k) % 32)
    by (inl lower) =
        let from : k + i ≡ (i + k) % 32 = omega arith in
        let one : bit_at (n / 2 ^ k) i ≡ bit_at n ((i + k) % 32) = ap (λ m. m % 2) (shr-shr n k i) ∙ ap (λ m. bit_at n m) from in
        let other : bit_at (n * 2 ^ (32 - k) % 2 ^ 32) i ≡ 0 = shifted_bit n (32 - k) i place ∙ bit_at_cat_low n (32 - k) 0 i lower ∙ bit_at-zero i in
        (λ s. max (one s) (other s)) ∙ max_zero (bit_at n ((i + k) % 32))
    by (inr upper) =
        let from : i - (32 - k) ≡ (i + k) % 32 = omega arith in
        let whole : 32 ≡ 32 - k + k = omega arith in
        let small : n / 2 ^ k < 2 ^ (32 - k) = shr_below n (32 - k) k (subst (λ m. n < 2 ^ m) whole fits) in
        let one : bit_at (n / 2 ^ k) i ≡ 0 = bit_at_above (n / 2 ^ k) (32 - k) i small upper in
        let other : bit_at (n * 2 ^ (32 - k) % 2 ^ 32) i ≡ bit_at n ((i + k) % 32) =
        shifted_bit n (32 - k) i place ∙ bit_at_cat_high n (32 - k) 0 i (pow_pos (32 - k)) upper ∙ ap (λ m. bit_at n m) from in
        (λ s. max (one s) (other s)) ∙ zero_max (bit_at n ((i + k) % 32))

-- sums of three bits
three_bits : (a b c : ℕ) → a < 2 → b < 2 → c < 2 → (((c + b) % 2 + a) % 2) ≡ (((a + b) % 2 + c) % 2)
three_bits a b c ha hb hc = omega arith

-- three rotations, each of the later ones inside the one before
nested_three : (x j k l : ℕ) → x < 2 ^ 32 → j + k + l < 32
    → turned (bit_xor (turned (bit_xor (turned x l) x) k) x) j ≡ bit_xor (bit_xor (turned x j) (turned x (j + k))) (turned x (j + k + l))
nested_three x j k l fits low = same_from_bits_below 32 _ _ (turned_fits b j b_fits) (xor_lt 32 _ _ (xor_lt 32 _ _ (turned_fits x j fits) (turned_fits x (j + k) fits)) (turned_fits x (j + k + l) fits)) same
  where
    a : ℕ
    a = bit_xor (turned x l) x

    b : ℕ
    b = bit_xor (turned a k) x

    a_fits : a < 2 ^ 32
    a_fits = xor_lt 32 _ _ (turned_fits x l fits) fits

    b_fits : b < 2 ^ 32
    b_fits = xor_lt 32 _ _ (turned_fits a k a_fits) fits

    same : (i : ℕ) → i < 32 → bit_at (turned b j) i ≡ bit_at (bit_xor (bit_xor (turned x j) (turned x (j + k))) (turned x (j + k + l))) i
    same i place =
        let p : ℕ = (i + j) % 32 in
        let q : ℕ = (p + k) % 32 in
        let r : ℕ = (q + l) % 32 in
        let twice : (i + (j + k)) % 32 ≡ q = omega arith in
        let thrice : (i + (j + k + l)) % 32 ≡ r = omega arith in
        let first : bit_at (turned x j) i ≡ bit_at x p = turned_bit x j i fits (omega arith) place in
        let second : bit_at (turned x (j + k)) i ≡ bit_at x q = turned_bit x (j + k) i fits (omega arith) place ∙ ap (λ m. bit_at x m) twice in
        let third : bit_at (turned x (j + k + l)) i ≡ bit_at x r = turned_bit x (j + k + l) i fits low place ∙ ap (λ m. bit_at x m) thrice in
        let inner : bit_at a q ≡ (bit_at x r + bit_at x q) % 2 =
        bit_at_xor (turned x l) x q ∙ ap (λ m. (m + bit_at x q) % 2) (turned_bit x l q fits (omega arith) (omega arith)) in
        let outer : bit_at b p ≡ ((bit_at x r + bit_at x q) % 2 + bit_at x p) % 2 =
        bit_at_xor (turned a k) x p ∙ ap (λ m. (m + bit_at x p) % 2) (turned_bit a k p a_fits (omega arith) (omega arith) ∙ inner) in
        turned_bit b j i b_fits (omega arith) place ∙ outer ∙ three_bits (bit_at x p) (bit_at x q) (bit_at x r) (bit_at-lt x p) (bit_at-lt x q) (bit_at-lt x r)
        ∙ sym (bit_at_xor (bit_xor (turned x j) (turned x (j + k))) (turned x (j + k + l)) i
        ∙ (λ s. (bit_at_xor (turned x j) (turned x (j + k)) i s + third s) % 2) ∙ (λ s. ((first s + second s) % 2 + bit_at x r) % 2))

turned_is : (n k : ℕ) → 0 < k → k < 32 → rotate_right w32 n k ≡ turned n k
turned_is n k some low =
    let right : k % 32 ≡ k = omega arith in
    let left : (32 - k % 32) % 32 ≡ 32 - k = omega arith in
    λ i. bit_or (n / 2 ^ right i) (n * 2 ^ left i % 2 ^ 32)

-- the same, in the words of contracts
pub rotations_are : (x j k l c b a : ℕ) → x < 2 ^ 32 → 0 < j → 0 < k → 0 < l → j + k + l < 32
    → c ≡ rotate_right w32 x l → b ≡ rotate_right w32 (bit_xor c x) k → a ≡ rotate_right w32 (bit_xor b x) j
    → a ≡ bit_xor (bit_xor (rotate_right w32 x j) (rotate_right w32 x (j + k))) (rotate_right w32 x (j + k + l))
rotations_are x j k l c b a fits oj ok ol low ec eb ea =
    let tc : c ≡ turned x l = ec ∙ turned_is x l ol (omega arith) in
    let tb : b ≡ turned (bit_xor (turned x l) x) k = eb ∙ turned_is (bit_xor c x) k ok (omega arith) ∙ ap (λ n. turned (bit_xor n x) k) tc in
    ea ∙ turned_is (bit_xor b x) j oj (omega arith) ∙ ap (λ n. turned (bit_xor n x) j) tb
    ∙ nested_three x j k l fits low
    ∙ sym (λ i. bit_xor (bit_xor (turned_is x j oj (omega arith) i) (turned_is x (j + k) (omega arith) (omega arith) i)) (turned_is x (j + k + l) (omega arith) low i))
