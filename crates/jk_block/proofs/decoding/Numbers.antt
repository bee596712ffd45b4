-- Numbers by their bits.
use Rattle.std.proofs.Common.{◌≡◌, ℕ, zero, suc, ◌+◌, ◌-◌, ◌*◌, ◌/◌, ◌%◌, ◌^◌, ◌<◌, ◌≤◌, Bool, true, false, cond, refl, sym, ap, ◌∙◌, arith}
use Rattle.std.specs.Prelude.{◌&&◌, nat_eq, nat_lt}
use Rattle.std.proofs.lemmas.Bool.Decides.{nat_tests}
use Rattle.std.proofs.lemmas.Grind.{pow_more}
use Rattle.std.proofs.lemmas.Nat.{div-mul-add}
use Rattle.std.proofs.Math.Nat.{mul_assoc, mul_comm}
use Rattle.jk_scan.specs.Bits.{on}
use Rattle.jk_scan.proofs.Laws.{on_shr, on_zero}
use Rattle.jk_block.specs.Fields.{number_from}
use Rattle.jk_block.specs.Meaning.{above}

digit : Bool → ℕ
digit b = cond b 1 0

digit_small : (b : Bool) → digit b ≤ 1
unfolding digit
digit_small true = omega arith
digit_small false = omega arith

number_less : (f : ℕ → Bool) (b n : ℕ) → number_from f b (suc n) ≡ digit (f b) + 2 * number_from f (b + 1) n
unfolding number_from digit
number_less f b n = refl

pub number_empty : (f : ℕ → Bool) (b : ℕ) → number_from f b 0 ≡ 0
unfolding number_from
number_empty f b = refl

-- the same bits
pub number_same : (f g : ℕ → Bool) (b n : ℕ) → ((c : ℕ) → b ≤ c → c < b + n → f c ≡ g c) → number_from f b n ≡ number_from g b n
number_same f g b zero e = number_empty f b ∙ sym (number_empty g b)
number_same f g b (suc n) e =
    number_less f b n ∙ ap (λ d. digit d + 2 * number_from f (b + 1) n) (e b (omega arith) (omega arith))
    ∙ ap (λ m. digit (g b) + 2 * m) (number_same f g (b + 1) n (λ c h l. e c (omega arith) (omega arith))) ∙ sym (number_less g b n)

pub number_none : (f : ℕ → Bool) (b n : ℕ) → ((c : ℕ) → f c ≡ false) → number_from f b n ≡ 0
unfolding digit
number_none f b zero e = number_empty f b
number_none f b (suc n) e = number_less f b n ∙ ap (λ d. digit d + 2 * number_from f (b + 1) n) (e b) ∙ ap (λ m. 0 + 2 * m) (number_none f (b + 1) n e)

pub number_small : (f : ℕ → Bool) (b n : ℕ) → number_from f b n < 2 ^ n
number_small f b zero = let e = number_empty f b in omega (arith, e)
number_small f b (suc n) =
    let e = number_less f b n in
    let d = digit_small (f b) in
    let r = number_small f (b + 1) n in
    let p = pow_more 2 n in
    let q : 2 ^ suc n ≡ 2 ^ (n + 1) = ap (λ k. 2 ^ k) (let e : suc n ≡ n + 1 = omega arith in e) in
    omega (arith, e, d, r, p, q)

-- the bits below a bit, and those from there on
pub number_parts : (f : ℕ → Bool) (b p q : ℕ) → number_from f b (p + q) ≡ number_from f b p + 2 ^ p * number_from f (b + p) q
number_parts f b zero q =
    ap (number_from f b) (let e : 0 + q ≡ q = omega arith in e) ∙ ap (λ c. number_from f c q) (let e : b ≡ b + 0 = omega arith in e)
    ∙ (let e = number_empty f b in let h : number_from f (b + 0) q ≡ number_from f b 0 + 2 ^ 0 * number_from f (b + 0) q = omega (arith, e) in h)
number_parts f b (suc p) q =
    let X = number_from f (b + suc p) q in
    let twice : 2 ^ suc p * X ≡ 2 * (2 ^ p * X) = ap (λ k. 2 ^ k * X) (let e : suc p ≡ p + 1 = omega arith in e) ∙ ap (λ k. k * X) (let e = pow_more 2 p in let h : 2 ^ (p + 1) ≡ 2 * 2 ^ p = omega (arith, e) in h) ∙ mul_assoc 2 (2 ^ p) X in
    let rest = number_parts f (b + 1) p q in
    let moved : 2 ^ p * number_from f (b + 1 + p) q ≡ 2 ^ p * X = ap (λ c. 2 ^ p * number_from f c q) (let e : b + 1 + p ≡ b + suc p = omega arith in e) in
    let first = number_less f b p in
    ap (number_from f b) (let e : suc p + q ≡ suc (p + q) = omega arith in e) ∙ number_less f b (p + q)
    ∙ (let h : digit (f b) + 2 * number_from f (b + 1) (p + q) ≡ number_from f b (suc p) + 2 ^ suc p * X = omega (arith, twice, rest, moved, first) in h)

divided : (l p x : ℕ) → l < p → (l + p * x) / p ≡ x
divided l p x h = ap (λ m. m / p) (let c = mul_comm p x in let e : l + p * x ≡ x * p + l = omega (arith, c) in e) ∙ div-mul-add x p l h

-- a number without what is below a bit
above_is : (f : ℕ → Bool) (b n : ℕ) → b ≤ n → above b (number_from f 0 n) ≡ 2 ^ b * number_from f b (n - b)
above_is f b n h =
    let x = number_from f (0 + b) (n - b) in
    ap (λ n. number_from f 0 n / 2 ^ b * 2 ^ b) (let e : n ≡ b + (n - b) = omega arith in e)
    ∙ ap (λ m. m / 2 ^ b * 2 ^ b) (number_parts f 0 b (n - b))
    ∙ ap (λ q. q * 2 ^ b) (divided (number_from f 0 b) (2 ^ b) x (number_small f 0 b)) ∙ mul_comm x (2 ^ b)
    ∙ ap (λ c. 2 ^ b * number_from f c (n - b)) (let e : 0 + b ≡ b = omega arith in e)

split : (f : ℕ → Bool) (b n : ℕ) → b ≤ n → number_from f 0 n ≡ number_from f 0 b + above b (number_from f 0 n)
split f b n h =
    ap (number_from f 0) (let e : n ≡ b + (n - b) = omega arith in e) ∙ number_parts f 0 b (n - b)
    ∙ ap (λ c. number_from f 0 b + 2 ^ b * number_from f c (n - b)) (let e : 0 + b ≡ b = omega arith in e)
    ∙ ap (λ m. number_from f 0 b + m) (sym (above_is f b n h))

-- nothing below a bit, and the bit
one_more : (f : ℕ → Bool) (b : ℕ) → number_from f 0 b ≡ 0 → number_from f 0 (b + 1) ≡ cond (f b) (2 ^ b) 0
unfolding digit
one_more f b e =
    number_parts f 0 b 1 ∙ ap (λ m. m + 2 ^ b * number_from f (0 + b) 1) e ∙ ap (λ c. 0 + 2 ^ b * number_from f c 1) (let e : 0 + b ≡ b = omega arith in e)
    ∙ ap (λ m. 0 + 2 ^ b * m) (number_less f b 0 ∙ ap (λ m. digit (f b) + 2 * m) (number_empty f (b + 1))) ∙ by (f b)
  where
    by : (d : Bool) → 0 + 2 ^ b * (cond d 1 0 + 2 * 0) ≡ cond d (2 ^ b) 0
    by true = omega arith
    by false = omega arith

-- another bit at one place, where nothing is below it
pub number_put : (f g : ℕ → Bool) (b n : ℕ) → b < n → ((c : ℕ) → c < n → (c ≡ b → ⊥) → g c ≡ f c) → above b (number_from f 0 n) ≡ number_from f 0 n
    → number_from g 0 n ≡ above (b + 1) (number_from f 0 n) + cond (g b) (2 ^ b) 0
number_put f g b n h same whole =
    let none : number_from f 0 b ≡ 0 = let s = split f b n (omega arith) in omega (arith, s, whole) in
    let none' : number_from g 0 b ≡ 0 = number_same g f 0 b (λ c l m. same c (omega (arith, m)) (λ e. omega (arith, e, m))) ∙ none in
    let high : number_from g (b + 1) (n - (b + 1)) ≡ number_from f (b + 1) (n - (b + 1)) = number_same g f (b + 1) (n - (b + 1)) (λ c l m. same c (omega (arith, m)) (λ e. omega (arith, e, l))) in
    let a : above (b + 1) (number_from g 0 n) ≡ above (b + 1) (number_from f 0 n) = above_is g (b + 1) n (omega arith) ∙ ap (λ m. 2 ^ (b + 1) * m) high ∙ sym (above_is f (b + 1) n (omega arith)) in
    let t = split g (b + 1) n (omega arith) in
    let o = one_more g b none' in
    omega (arith, t, o, a)

first : (d : Bool) (m : ℕ) → on (digit d + 2 * m) 0 ≡ d
unfolding on digit
first true m = ap (λ x. nat_eq x 1) (let e : (1 + 2 * m) / 2 ^ 0 % 2 ≡ 1 = omega arith in e)
first false m = ap (λ x. nat_eq x 1) (let e : (0 + 2 * m) / 2 ^ 0 % 2 ≡ 0 = omega arith in e)

-- a bit of a number
pub on_number : (f : ℕ → Bool) (b n i : ℕ) → on (number_from f b n) i ≡ (nat_lt i n && f (b + i))
on_number f b zero i = ap (λ m. on m i) (number_empty f b) ∙ on_zero i ∙ (let e : false ≡ (nat_lt i 0 && f (b + i)) = ap (λ q. q && f (b + i)) (let g : false ≡ nat_lt i 0 = grind (arith, nat_tests) in g) in e)
on_number f b (suc n) zero =
    ap (λ m. on m 0) (number_less f b n) ∙ first (f b) (number_from f (b + 1) n) ∙ ap f (let e : b ≡ b + 0 = omega arith in e)
    ∙ ap (λ q. q && f (b + 0)) (let g : true ≡ nat_lt 0 (suc n) = grind (arith, nat_tests) in g)
on_number f b (suc n) (suc i) =
    ap (λ m. on m (suc i)) (number_less f b n) ∙ ap (on (digit (f b) + 2 * number_from f (b + 1) n)) (let e : suc i ≡ 1 + i = omega arith in e) ∙ sym (on_shr (digit (f b) + 2 * number_from f (b + 1) n) 1 i)
    ∙ ap (λ m. on m i) (let s = digit_small (f b) in let e : (digit (f b) + 2 * number_from f (b + 1) n) / 2 ^ 1 ≡ number_from f (b + 1) n = omega (arith, s) in e)
    ∙ on_number f (b + 1) n i ∙ ap (λ q. q && f (b + 1 + i)) (let g : nat_lt i n ≡ nat_lt (suc i) (suc n) = grind (arith, nat_tests) in g)
    ∙ ap (λ c. nat_lt (suc i) (suc n) && f c) (let e : b + 1 + i ≡ b + suc i = omega arith in e)

-- a byte of ones
pub number_ones : ◌≡◌ {A = ℕ} 255 (number_from (λ _. true) 0 8)
unfolding number_from
number_ones = refl
