-- Bits of a number, and the number of bits.
use Rattle.std.proofs.Common.{◌≡◌, ℕ, zero, suc, ◌+◌, ◌-◌, ◌*◌, ◌/◌, ◌%◌, ◌^◌, ◌<◌, ◌≤◌, Bool, true, false, List, [], ◌∷◌, ◌++◌, length, take, refl, sym, ap, ◌∙◌, subst, arith}
use Rattle.std.specs.Prelude.{◌==◌, if◌then◌else◌}
use Rattle.std.proofs.lemmas.Nat.{mod-pow-add, shr_high, mod_low, shr-shr, pow-add, mod_below}
use Rattle.std.proofs.Math.Nat.{pow-suc, mul-add-div_right, mul-add-mod_self_right}
use Rattle.std.proofs.Math.Pow.{pow_pos}
use Rattle.jk_bits.specs.Stuffing.{binary, number}

abbrev pub digit : Bool → ℕ
digit bit = if bit then 1 else 0

-- a bit and its test
of_small : (d : ℕ) → d < 2 → digit (d == 1) ≡ d
of_small zero h = refl
of_small (suc zero) h = refl
of_small (suc (suc d)) h = absurd (omega (arith, h))

bit_of : (x : ℕ) → digit (x % 2 == 1) ≡ x % 2
bit_of x = of_small (x % 2) (mod_below x 2 (omega arith))

digit_test : (bit : Bool) → (digit bit % 2 == 1) ≡ bit
digit_test true = refl
digit_test false = refl

digit_less : (bit : Bool) → digit bit < 2
digit_less true = omega arith
digit_less false = omega arith

scaled : (bit : Bool) (m : ℕ) → (if bit then m else 0) ≡ digit bit * m
scaled true m = omega arith
scaled false m = omega arith

number-suc : (n : ℕ) (bit : Bool) (bits : List Bool) → number (suc n) (bit ∷ bits) ≡ digit bit * 2 ^ n + number n bits
unfolding number
number-suc n bit bits = ap (λ k. k + number n bits) (scaled bit (2 ^ n))

digits_less : (n m : ℕ) (bit : Bool) → m < 2 ^ n → digit bit * 2 ^ n + m < 2 ^ suc n
digits_less n m true h = omega (arith, h, pow-suc 2 n)
digits_less n m false h = omega (arith, h, pow-suc 2 n)

pub number_less : (n : ℕ) (bits : List Bool) → number n bits < 2 ^ n
unfolding number
number_less zero bits = pow_pos 0
number_less (suc n) [] = pow_pos (suc n)
number_less (suc n) (bit ∷ bits) = subst (λ k. k < 2 ^ suc n) (sym (number-suc n bit bits)) (digits_less n (number n bits) bit (number_less n bits))

split_low : (k x : ℕ) → x % 2 ^ suc k ≡ x / 2 ^ k % 2 * 2 ^ k + x % 2 ^ k
split_low k x = ap (λ j. x % 2 ^ j) (let e : suc k ≡ 1 + k = omega arith in e) ∙ mod-pow-add x 1 k

regroup : (q p s r n : ℕ) → q * (p * s) + (r * s + n) ≡ (q * p + r) * s + n
regroup q p s r n = grind arith

-- the first k bits are those of x
pub number-binary : (k n x : ℕ) (bits : List Bool) → number (k + n) (binary k x ++ bits) ≡ x % 2 ^ k * 2 ^ n + number n bits
unfolding binary
number-binary zero n x bits =
    let low : x % 2 ^ 0 < 1 = mod_below x 1 (omega arith) in
    let none : x % 2 ^ 0 ≡ 0 = omega (arith, low) in
    ap (λ m. number m bits) (let e : 0 + n ≡ n = omega arith in e)
    ∙ (let e : number n bits ≡ 0 * 2 ^ n + number n bits = omega arith in e)
    ∙ ap (λ r. r * 2 ^ n + number n bits) (sym none)
number-binary (suc k) n x bits =
    ap (λ m. number m (binary (suc k) x ++ bits)) (let e : suc k + n ≡ suc (k + n) = omega arith in e)
    ∙ number-suc (k + n) (x / 2 ^ k % 2 == 1) (binary k x ++ bits)
    ∙ ap (λ d. d * 2 ^ (k + n) + number (k + n) (binary k x ++ bits)) (bit_of (x / 2 ^ k))
    ∙ ap (λ m. x / 2 ^ k % 2 * 2 ^ (k + n) + m) (number-binary k n x bits)
    ∙ ap (λ p. x / 2 ^ k % 2 * p + (x % 2 ^ k * 2 ^ n + number n bits)) (pow-add 2 k n)
    ∙ regroup (x / 2 ^ k % 2) (2 ^ k) (2 ^ n) (x % 2 ^ k) (number n bits)
    ∙ ap (λ m. m * 2 ^ n + number n bits) (sym (split_low k x))

-- A digit above the low k bits doesn't show in them.
scale : (c n j : ℕ) → c * 2 ^ (suc j + n) ≡ c * 2 ^ j * 2 * 2 ^ n
scale c n j = ap (λ p. c * p) (pow-add 2 (suc j) n) ∙ ap (λ p. c * (p * 2 ^ n)) (pow-suc 2 j) ∙ (let e : c * (2 ^ j * 2 * 2 ^ n) ≡ c * 2 ^ j * 2 * 2 ^ n = grind arith in e)

high_bit : (c n j m : ℕ) → (c * 2 ^ (suc j + n) + m) / 2 ^ n % 2 ≡ m / 2 ^ n % 2
high_bit c n j m =
    ap (λ p. (p + m) / 2 ^ n % 2) (scale c n j)
    ∙ ap (λ q. q % 2) (mul-add-div_right (pow_pos n) (c * 2 ^ j * 2) m)
    ∙ mul-add-mod_self_right (c * 2 ^ j) 2 (m / 2 ^ n)

binary_low : (n k c m : ℕ) → n ≤ k → binary n (c * 2 ^ k + m) ≡ binary n m
unfolding binary
binary_low zero k c m h = refl
binary_low (suc n) k c m h =
    let at : suc (k - suc n) + n ≡ k = omega (arith, h) in
    let bit : (c * 2 ^ k + m) / 2 ^ n % 2 ≡ m / 2 ^ n % 2 = subst (λ j. (c * 2 ^ j + m) / 2 ^ n % 2 ≡ m / 2 ^ n % 2) at (high_bit c n (k - suc n) m) in
    ap (λ d. (d == 1) ∷ binary n (c * 2 ^ k + m)) bit ∙ ap (λ (bits : List Bool). (m / 2 ^ n % 2 == 1) ∷ bits) (binary_low n k c m (omega (arith, h)))

-- The number of bits has those bits.
pub binary-number : (n : ℕ) (bits : List Bool) → take (length bits) (binary n (number n bits)) ≡ take n bits
unfolding binary number
binary-number zero [] = refl
binary-number zero (bit ∷ bits) = refl
binary-number (suc n) [] = refl
binary-number (suc n) (bit ∷ bits) =
    let m = number n bits in
    let x = digit bit * 2 ^ n + m in
    let top : x / 2 ^ n ≡ digit bit = shr_high (digit bit) n m (number_less n bits) in
    ap (λ y. take (suc (length bits)) (binary (suc n) y)) (number-suc n bit bits)
    ∙ ap (λ d. (d % 2 == 1) ∷ take (length bits) (binary n x)) top
    ∙ ap (λ (b : Bool). b ∷ take (length bits) (binary n x)) (digit_test bit)
    ∙ ap (λ (bs : List Bool). bit ∷ take (length bits) bs) (binary_low n n (digit bit) m (omega arith))
    ∙ ap (λ (bs : List Bool). bit ∷ bs) (binary-number n bits)

half : (x : ℕ) (bit : Bool) → (x * 2 + digit bit) / 2 ≡ x
half x true = omega arith
half x false = omega arith

last_bit : (x : ℕ) (bit : Bool) → ((x * 2 + digit bit) / 2 ^ 0 % 2 == 1) ≡ bit
last_bit x true = ap (λ d. d == 1) (let e : (x * 2 + 1) / 1 % 2 ≡ 1 = omega arith in e)
last_bit x false = ap (λ d. d == 1) (let e : (x * 2 + 0) / 1 % 2 ≡ 0 = omega arith in e)

halved : (n x : ℕ) (bit : Bool) → (x * 2 + digit bit) / 2 ^ suc n ≡ x / 2 ^ n
halved n x bit =
    ap (λ j. (x * 2 + digit bit) / 2 ^ j) (let e : suc n ≡ 1 + n = omega arith in e)
    ∙ sym (shr-shr (x * 2 + digit bit) 1 n)
    ∙ ap (λ y. y / 2 ^ n) (half x bit)

pushed : (n x : ℕ) (bit : Bool) → binary (suc n) (x * 2 + digit bit) ≡ binary n x ++ bit ∷ []
unfolding binary
pushed zero x bit = ap (λ (b : Bool). b ∷ []) (last_bit x bit)
pushed (suc n) x bit =
    ap (λ d. (d % 2 == 1) ∷ binary (suc n) (x * 2 + digit bit)) (halved n x bit)
    ∙ ap (λ (bs : List Bool). (x / 2 ^ n % 2 == 1) ∷ bs) (pushed n x bit)

-- One bit more at the end.
pub binary_push : (n x : ℕ) (bit : Bool) → binary (n + 1) (x * 2 + digit bit) ≡ binary n x ++ bit ∷ []
binary_push n x bit = ap (λ k. binary k (x * 2 + digit bit)) (let e : n + 1 ≡ suc n = omega arith in e) ∙ pushed n x bit

number_none : (bits : List Bool) → number 0 bits ≡ 0
unfolding number
number_none bits = refl

-- A byte all of whose bits are taken.
pub number_all : (n x : ℕ) (bits : List Bool) → x < 2 ^ n → number n (binary n x ++ bits) ≡ x
number_all n x bits h =
    let none : number 0 bits ≡ 0 = number_none bits in
    let low : x % 2 ^ n ≡ x = ap (λ y. y % 2 ^ n) (let e : x ≡ 0 * 2 ^ n + x = omega arith in e) ∙ mod_low 0 n x h in
    ap (λ k. number k (binary n x ++ bits)) (let e : n ≡ n + 0 = omega arith in e)
    ∙ number-binary n 0 x bits
    ∙ ap (λ r. r * 2 ^ 0 + number 0 bits) low
    ∙ omega (arith, none)
