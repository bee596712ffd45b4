-- Resolutions by the inch as ratios of whole numbers.
use Rattle.std.proofs.Common.{◌≡◌, ℕ, ◌+◌, ◌*◌, ◌<◌, ◌≤◌, ◌^◌, ◌⊎◌, inl, inr, refl, sym, ap, subst, lit<, ◌∙◌, arith, pos, negsuc}
use Rattle.std.proofs.Math.Nat.{mul_assoc, mul_left_comm, mul-le-mul, one-le-pow, pow-le-pow_right, pow-suc}
use Rattle.std.proofs.lemmas.Bool.{cases_lt}
use Rattle.std.proofs.Common.{Option, Some, None}
use Rattle.std.specs.Option.{IfNone, IsSome}
use Rattle.jk_extras.specs.declared.grids.Ratio.{Ratio}
use Rattle.jk_extras.specs.Inches.{IsReduced, IsRaised, IsLowered, IsPerInch, HasSixteenBits}

-- 254 * d * s and what is multiplied with it, in both orders
turned : (x d s : ℕ) → x * (254 * d * s) ≡ 254 * (x * d) * s
turned x d s =
    mul_left_comm x (254 * d) s ∙ mul_assoc 254 d (x * s) ∙ ap (λ k. 254 * k) (mul_left_comm d x s ∙ sym (mul_assoc x d s))
    ∙ sym (mul_assoc 254 (x * d) s)

-- y * (10000 * n)
swapped : (y n : ℕ) → y * (10000 * n) ≡ 10000 * (y * n)
swapped y n = mul_left_comm y 10000 n

pub raised_is : (n d p : ℕ) (r : Ratio) → r.exponent ≡ pos p → IsReduced (10000 * n) (254 * d * 10 ^ p) r.numerator r.denominator → IsPerInch n d r
raised_is n d p r e is =
    record {
      numerator = is.some;
      denominator = is.finite;
      same = inl (p, record { exponent = e; same = sym (turned r.numerator d (10 ^ p)) ∙ is.same ∙ swapped r.denominator n });
    }

pub raised_back : (n d p : ℕ) (r : Ratio) → 0 < r.numerator → 0 < r.denominator → IsRaised n d r p → IsReduced (10000 * n) (254 * d * 10 ^ p) r.numerator r.denominator
raised_back n d p r some finite is =
    record { some = some; finite = finite; same = turned r.numerator d (10 ^ p) ∙ is.same ∙ sym (swapped r.denominator n) }

-- 10000 * n times a number, and what is multiplied with it
lifted : (y n s : ℕ) → y * (10000 * n * s) ≡ 10000 * (y * n) * s
lifted y n s =
    mul_left_comm y (10000 * n) s ∙ mul_assoc 10000 n (y * s) ∙ ap (λ k. 10000 * k) (mul_left_comm n y s ∙ sym (mul_assoc y n s))
    ∙ sym (mul_assoc 10000 (y * n) s)

pub lowered_is : (n d p : ℕ) (r : Ratio) → r.exponent ≡ negsuc p → IsReduced (10000 * n * 10 ^ (p + 1)) (254 * d) r.numerator r.denominator → IsPerInch n d r
lowered_is n d p r e is =
    record {
      numerator = is.some;
      denominator = is.finite;
      same = inr (p, record { exponent = e; same = sym (mul_left_comm r.numerator 254 d) ∙ is.same ∙ lifted r.denominator n (10 ^ (p + 1)) });
    }

pub lowered_back : (n d p : ℕ) (r : Ratio) → 0 < r.numerator → 0 < r.denominator → IsLowered n d r p → IsReduced (10000 * n * 10 ^ (p + 1)) (254 * d) r.numerator r.denominator
lowered_back n d p r some finite is =
    record { some = some; finite = finite; same = mul_left_comm r.numerator 254 d ∙ is.same ∙ sym (lifted r.denominator n (10 ^ (p + 1))) }

times_le : (a b c d : ℕ) → a ≤ b → c ≤ d → a * c ≤ b * d
times_le a b c d p q = mul-le-mul p q

powers_le : (i j : ℕ) → i ≤ j → 10 ^ i ≤ 10 ^ j
powers_le i j le = pow-le-pow_right (lit< tt) le

-- No exponent past these: numbers of 32 bits, and a ratio of 16.
power_by_size : (n d p : ℕ) (r : Ratio) → n < 2 ^ 32 → 0 < d → 0 < r.numerator → r.denominator < 2 ^ 16
    → 254 * (r.numerator * d) * 10 ^ p ≡ 10000 * (r.denominator * n) → 17 ≤ p → ⊥
power_by_size n d p r less some more small same le =
    let power = powers_le 17 p le in
    let one = times_le 1 r.numerator 1 d more some in
    let above = times_le (254 * 1) (254 * (r.numerator * d)) (10 ^ 17) (10 ^ p) (omega arith) power in
    let below = times_le r.denominator 65535 n 4294967295 (omega arith) (omega arith) in
    omega arith

pub powers_end : (n d p : ℕ) (r : Ratio) → n < 2 ^ 32 → 0 < d → 0 < r.numerator → r.denominator < 2 ^ 16 → IsRaised n d r p → p < 17
powers_end n d p r less some more small is = by_cases (cases_lt p 17) where
  by_cases : (p < 17) ⊎ (17 ≤ p) → p < 17
  by_cases (inl lt) = lt
  by_cases (inr le) = absurd (power_by_size n d p r less some more small is.same le)

part_by_size : (n d p : ℕ) (r : Ratio) → d < 2 ^ 32 → 0 < n → 0 < r.denominator → r.numerator < 2 ^ 16
    → 254 * (r.numerator * d) ≡ 10000 * (r.denominator * n) * 10 ^ (p + 1) → 12 ≤ p → ⊥
part_by_size n d p r less some more small same le =
    let power = powers_le 13 (p + 1) (omega arith) in
    let one = times_le 1 r.denominator 1 n more some in
    let below = times_le (10000 * 1) (10000 * (r.denominator * n)) (10 ^ 13) (10 ^ (p + 1)) (omega arith) power in
    let above = times_le r.numerator 65535 d 4294967295 (omega arith) (omega arith) in
    omega arith

pub parts_end : (n d p : ℕ) (r : Ratio) → d < 2 ^ 32 → 0 < n → 0 < r.denominator → r.numerator < 2 ^ 16 → IsLowered n d r p → p < 12
parts_end n d p r less some more small is = by_cases (cases_lt p 12) where
  by_cases : (p < 12) ⊎ (12 ≤ p) → p < 12
  by_cases (inl lt) = lt
  by_cases (inr le) = absurd (part_by_size n d p r less some more small is.same le)

-- a product that isn't zero
pub some_product : (k m s p : ℕ) → 0 < k → 0 < m → s ≡ 10 ^ p → 0 < k * m * s
some_product k m s p some more is =
    let power = one-le-pow p 10 (lit< tt) in
    let product = times_le 1 k 1 m some more in
    let all = times_le 1 (k * m) 1 (10 ^ p) (omega arith) power in
    subst (λ x. 0 < k * m * x) (sym is) (omega arith)

-- each whole number of 16 bits has a ratio
pub whole_is : (n : ℕ) → 0 < n → IsPerInch n 1 (record { numerator = n; denominator = 254; exponent = pos 4 })
whole_is n some = record { numerator = some; denominator = lit< tt; same = inl (4, record { exponent = refl; same = omega arith }) }

-- No ratio of 16 bits has this exponent.
abbrev pub NoneRaised : (n d p : ℕ) → Type 0
NoneRaised n d p = (r : Ratio) → HasSixteenBits r → 0 < r.numerator → 0 < r.denominator → IsRaised n d r p → ⊥

abbrev pub NoneLowered : (n d p : ℕ) → Type 0
NoneLowered n d p = (r : Ratio) → HasSixteenBits r → 0 < r.numerator → 0 < r.denominator → IsLowered n d r p → ⊥

at_last : (p k : ℕ) → p < k + 1 → (p < k) ⊎ (p ≡ k)
at_last p k lt = by_cases (cases_lt p k) where
  by_cases : (p < k) ⊎ (k ≤ p) → (p < k) ⊎ (p ≡ k)
  by_cases (inl less) = inl less
  by_cases (inr le) = inr (omega arith)

pub none_raised : (n d k s : ℕ) → s ≡ 10 ^ k
    → ((x y : ℕ) → x < 2 ^ 16 → y < 2 ^ 16 → IsReduced (10000 * n) (254 * d * s) x y → ⊥) → NoneRaised n d k
none_raised n d k s is none r small some finite raised =
    none r.numerator r.denominator small.0 small.1
    (subst (λ t. IsReduced (10000 * n) (254 * d * t) r.numerator r.denominator) (sym is) (raised_back n d k r some finite raised))

pub more_raised : (n d from k : ℕ) → ((r : Ratio) (p : ℕ) → from ≤ p → p < k → HasSixteenBits r → 0 < r.numerator → 0 < r.denominator → IsRaised n d r p → ⊥)
    → NoneRaised n d k → (r : Ratio) (p : ℕ) → from ≤ p → p < k + 1 → HasSixteenBits r → 0 < r.numerator → 0 < r.denominator → IsRaised n d r p → ⊥
more_raised n d from k none last r p least lt small some finite is = by_cases (at_last p k lt) where
  by_cases : (p < k) ⊎ (p ≡ k) → ⊥
  by_cases (inl less) = none r p least less small some finite is
  by_cases (inr same) = last r small some finite (subst (λ q. IsRaised n d r q) same is)

pub none_lowered : (n d k a : ℕ) → a ≡ 10000 * n * 10 ^ (k + 1)
    → ((x y : ℕ) → x < 2 ^ 16 → y < 2 ^ 16 → IsReduced a (254 * d) x y → ⊥) → NoneLowered n d k
none_lowered n d k a is none r small some finite lowered =
    none r.numerator r.denominator small.0 small.1
    (subst (λ t. IsReduced t (254 * d) r.numerator r.denominator) (sym is) (lowered_back n d k r some finite lowered))

pub more_lowered : (n d k : ℕ) → ((r : Ratio) (p : ℕ) → p < k → HasSixteenBits r → 0 < r.numerator → 0 < r.denominator → IsLowered n d r p → ⊥)
    → NoneLowered n d k → (r : Ratio) (p : ℕ) → p < k + 1 → HasSixteenBits r → 0 < r.numerator → 0 < r.denominator → IsLowered n d r p → ⊥
more_lowered n d k none last r p lt small some finite is = by_cases (at_last p k lt) where
  by_cases : (p < k) ⊎ (p ≡ k) → ⊥
  by_cases (inl less) = none r p less small some finite is
  by_cases (inr same) = last r small some finite (subst (λ q. IsLowered n d r q) same is)

-- ten times as much
pub next_power : (k : ℕ) → 10 ^ (k + 1) ≡ 10 ^ k * 10
next_power k = subst (λ m. 10 ^ m ≡ 10 ^ k * 10) (omega arith) (pow-suc 10 k)

pub next_part : (a n k : ℕ) → a ≡ 10000 * n * 10 ^ k → a * 10 ≡ 10000 * n * 10 ^ (k + 1)
next_part a n k is = ap (λ x. x * 10) is ∙ mul_assoc (10000 * n) (10 ^ k) 10 ∙ ap (λ x. 10000 * n * x) (sym (next_power k))

-- no ratio at all
pub none_is : (n d : ℕ) → n < 2 ^ 32 → d < 2 ^ 32 → 0 < n → 0 < d
    → ((r : Ratio) (p : ℕ) → 2 ≤ p → p < 17 → HasSixteenBits r → 0 < r.numerator → 0 < r.denominator → IsRaised n d r p → ⊥)
    → ((r : Ratio) (p : ℕ) → 0 ≤ p → p < 2 → HasSixteenBits r → 0 < r.numerator → 0 < r.denominator → IsRaised n d r p → ⊥)
    → ((r : Ratio) (p : ℕ) → p < 12 → HasSixteenBits r → 0 < r.numerator → 0 < r.denominator → IsLowered n d r p → ⊥)
    → (r : Ratio) → HasSixteenBits r → 0 < d → IsPerInch n d r → ⊥
none_is n d fits finite some more high low less r small there is = by_sign is.same where
  by_power : (p : ℕ) → IsRaised n d r p → (p < 2) ⊎ (2 ≤ p) → ⊥
  by_power p raised (inl lt) = low r p (omega arith) lt small is.numerator is.denominator raised
  by_power p raised (inr le) = high r p le (powers_end n d p r fits more is.numerator small.1 raised) small is.numerator is.denominator raised

  by_sign : ((p : ℕ) × IsRaised n d r p) ⊎ ((p : ℕ) × IsLowered n d r p) → ⊥
  by_sign (inl (p, raised)) = by_power p raised (cases_lt p 2)
  by_sign (inr (p, lowered)) = less r p (parts_end n d p r finite some is.denominator small.0 lowered) small is.numerator is.denominator lowered

-- where there are no samples, or no inch
pub none_of_none : (n d : ℕ) (r : Ratio) → n ≡ 0 → 0 < d → IsPerInch n d r → ⊥
none_of_none n d r none some is = by_sign is.same where
  zero_right : (x y : ℕ) → n ≡ 0 → x * (y * n) ≡ 0
  zero_right x y none = ap (λ k. x * (y * k)) none ∙ omega arith

  by_sign : ((p : ℕ) × IsRaised n d r p) ⊎ ((p : ℕ) × IsLowered n d r p) → ⊥
  by_sign (inl (p, raised)) =
      let much = some_product 254 (r.numerator * d) (10 ^ p) p (lit< tt) (times_le 1 r.numerator 1 d is.numerator some) refl in
      let same = raised.same in
      let nothing = zero_right 10000 r.denominator none in
      omega arith
  by_sign (inr (p, lowered)) =
      let much = times_le 1 254 1 (r.numerator * d) (lit< tt) (times_le 1 r.numerator 1 d is.numerator some) in
      let same = lowered.same in
      let nothing = ap (λ k. k * 10 ^ (p + 1)) (zero_right 10000 r.denominator none) in
      omega arith

pub none_weaker : {T P Q : Type 0} (o : Option T) → (P → Q) → IfNone o P → IfNone o Q
none_weaker None f p = f p
none_weaker (Some x) f p = tt

pub some_unless : {T : Type 0} (o : Option T) → IfNone o ⊥ → IsSome o
some_unless None p = absurd p
some_unless (Some x) p = refl
