-- Products with powers of two, and how far a number's highest bit is from the top.
use Rattle.std.proofs.Common.{◌≡◌, ◌∙◌, ap, sym, ℕ, suc, ◌+◌, ◌*◌, ◌^◌, ◌<◌, ◌≤◌, inl, inr, arith}
use Rattle.std.proofs.Math.Nat.{pow-succ', mul-lt-mul_of_pos_right, mul-le-mul_right}
use Rattle.std.proofs.Math.Pow.{pow_pos, pow_mono}
use Rattle.std.proofs.lemmas.Nat.{pow-add, leading_top}
use Rattle.std.proofs.lemmas.Bool.{cases_lt}
use Rattle.std.specs.Int.Count.{count_leading_zeros}

pub shift_less : (c w k : ℕ) → c < w → c * 2 ^ k < w * 2 ^ k
shift_less c w k h = mul-lt-mul_of_pos_right h (pow_pos k)

pub shift_grows : (w m n : ℕ) → m ≤ n → w * 2 ^ m ≤ w * 2 ^ n
shift_grows w m n h = let p = pow_mono h in let e = mul-le-mul_right w p in omega (arith, e)

pub shift_first : (c k : ℕ) → c * 2 ^ suc k ≡ 2 * c * 2 ^ k
shift_first c k = let e = ap (λ x. c * x) (pow-succ' 2 k) in omega (arith, e)

pub shift_twice : (w a c n : ℕ) → a + c ≡ n → w * 2 ^ a * 2 ^ c ≡ w * 2 ^ n
shift_twice w a c n e = let p = ap (λ x. w * x) (pow-add 2 a c) in let q : w * 2 ^ (a + c) ≡ w * 2 ^ n = ap (λ k. w * 2 ^ k) e in grind arith

pub half_less : (w n : ℕ) → 0 < n → w * 2 ^ n < 2 ^ 32 → w < 2 ^ 31
half_less w n some h = let g = shift_grows w 1 n some in omega (arith, g, h)

-- the doublings that bring the highest bit of a width to the top
pub highest : (w : ℕ) → 2 ^ 48 ≤ w → w < 2 ^ 64 → (count_leading_zeros 64 w ≤ 15) × (2 ^ 63 ≤ w * 2 ^ count_leading_zeros 64 w) × (w * 2 ^ count_leading_zeros 64 w < 2 ^ 64)
highest w wide fits =
    let t = leading_top 64 w (omega (arith, wide)) fits in
    let n = count_leading_zeros 64 w in
    let j = t.0 in
    let all : n + suc j ≡ 64 = t.1 in
    let below : w * 2 ^ n < 2 ^ suc j * 2 ^ n = shift_less w (2 ^ suc j) n t.3 in
    let least : 2 ^ j * 2 ^ n ≤ w * 2 ^ n = mul-le-mul_right (2 ^ n) t.2 in
    let top : 2 ^ suc j * 2 ^ n ≡ 2 ^ 64 = sym (pow-add 2 (suc j) n) ∙ ap (λ k. 2 ^ k) (let e : suc j + n ≡ 64 = omega (arith, all) in e) in
    let bottom : 2 ^ j * 2 ^ n ≡ 2 ^ 63 = sym (pow-add 2 j n) ∙ ap (λ k. 2 ^ k) (let e : j + n ≡ 63 = omega (arith, all) in e) in
    let near : n ≤ 15 = elim (cases_lt 15 n) [
      | inl more ↦ (let low : suc j ≤ 48 = omega (arith, all, more) in
          let p : 2 ^ suc j ≤ 2 ^ 48 = pow_mono low in
          let less = t.3 in
          absurd (omega (arith, p, less, wide)))
      | inr few ↦ few
    ] in
    (near, omega (arith, least, bottom), omega (arith, below, top))
