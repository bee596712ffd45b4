-- How many binary digits a number has: the power of two below it, the least that exceeds it, its leading zeros.
use Rattle.std.proofs.Common.{◌≡◌, ℕ, zero, suc, ◌+◌, ◌-◌, ◌/◌, ◌^◌, ◌<◌, ◌≤◌, false, cond, refl, sym, ap, ◌∙◌, subst, arith}
use Rattle.std.specs.Prelude.{nat_eq}
use Rattle.std.proofs.lemmas.Bool.Decides.{nat_tests}
use Rattle.std.proofs.lemmas.Nat.{leading_top, pow_pos}
use Rattle.std.proofs.lemmas.Grind.{pow_more}
use Rattle.std.specs.Int.Count.{count_leading_zeros, leading_of_zero}
use Rattle.jk_math.specs.BitLength.{digits, bit_length}

digits_none : (k : ℕ) → digits k 0 ≡ 0
unfolding digits
digits_none zero = refl
digits_none (suc k) = refl

digits_are : (j k m : ℕ) → m ≤ k → 2 ^ j ≤ m → m < 2 ^ suc j → digits k m ≡ suc j
unfolding digits
digits_are j zero m h l u = absurd (let p = pow_pos j in omega (arith, p))
digits_are zero (suc k) m h l u =
    let one : m ≡ 1 = omega (arith, pow_more 2 0) in
    ap (λ m. cond (nat_eq m 0) 0 (1 + digits k (m / 2))) one ∙ ap (λ d. 1 + d) (digits_none k)
digits_are (suc j) (suc k) m h l u =
    let p = pow_more 2 j in
    let q = pow_more 2 (suc j) in
    let r = pow_pos j in
    let some : nat_eq m 0 ≡ false = (let g : 0 < m = omega (arith, p, r) in grind (arith, nat_tests)) in
    let half = digits_are j k (m / 2) (omega (arith, p, r)) (omega (arith, p)) (omega (arith, p, q)) in
    ap (λ b. cond b 0 (1 + digits k (m / 2))) some ∙ ap (λ d. 1 + d) half ∙ (let e : 1 + suc j ≡ suc (suc j) = omega arith in e)

pub bit_length_none : bit_length 0 ≡ 0
unfolding bit_length digits
bit_length_none = refl

pub bit_length_is : (j m : ℕ) → 2 ^ j ≤ m → m < 2 ^ suc j → bit_length m ≡ suc j
unfolding bit_length
bit_length_is j m l u = digits_are j m m (omega arith) l u

-- a number of n bits is below 2^n
pub bit_length_room : (m : ℕ) → m < 2 ^ bit_length m
bit_length_room m = by m (room m)
  where
    wide : (m : ℕ) → m < 2 ^ m
    wide zero = let p = pow_pos 0 in omega (arith, p)
    wide (suc m) = let r = wide m in let e = pow_more 2 m in let g : 2 ^ (m + 1) ≡ 2 ^ suc m = ap (λ k. 2 ^ k) (omega arith) in omega (arith, r, e, g)

    room : (m : ℕ) → m < 2 ^ m
    room m = wide m

    by : (m : ℕ) → m < 2 ^ m → m < 2 ^ bit_length m
    by zero h = let p = pow_pos (bit_length 0) in omega (arith, p)
    by (suc m) h =
        let t = leading_top (suc m) (suc m) (omega arith) h in
        subst (λ n. suc m < 2 ^ n) (sym (bit_length_is t.0 (suc m) t.2 t.3)) t.3

-- what n bits hold has no more
pub bit_length_few : (m n : ℕ) → m < 2 ^ n → bit_length m ≤ n
bit_length_few zero n h = let e = bit_length_none in omega (arith, e)
bit_length_few (suc m) n h =
    let t = leading_top n (suc m) (omega arith) h in
    let e = bit_length_is t.0 (suc m) t.2 t.3 in
    let c = t.1 in
    omega (arith, e, c)

-- the number of bits, by the leading zeros of 32
pub bit_length_zeros : (m : ℕ) → m < 2 ^ 32 → 32 - count_leading_zeros 32 m ≡ bit_length m
bit_length_zeros zero h = let e = leading_of_zero 32 in let g = bit_length_none in omega (arith, e, g)
bit_length_zeros (suc m) h =
    let t = leading_top 32 (suc m) (omega arith) h in
    let e = bit_length_is t.0 (suc m) t.2 t.3 in
    let c = t.1 in
    omega (arith, e, c)
