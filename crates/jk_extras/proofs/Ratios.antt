-- Ratios of numbers divided by what divides both, and that no other is smaller.
use Rattle.std.proofs.Common.{◌≡◌, ℕ, zero, suc, ◌+◌, ◌-◌, ◌*◌, ◌/◌, ◌<◌, ◌≤◌, ◌^◌, ◌⊎◌, inl, inr, refl, sym, ap, subst, ◌∙◌, arith}
use Rattle.std.proofs.Math.Nat.{mul_comm, mul_assoc, mul_left_comm, mul-sub, mul-one, one-mul, dvd-mul_left, div-mul_cancel, mul-div_cancel}
use Rattle.std.proofs.lemmas.Nat.Gcd.{IsGcd-from_zero, IsGcd-from_sub, IsGcd-swap, same_from_IsGcd, le_of_dvd}
use Rattle.std.proofs.lemmas.Bool.{cases_lt}
use Rattle.std.specs.Int.{IsGcd, ◌∣◌}
use Rattle.jk_extras.specs.Inches.{IsReduced}

pub some_divisor : (a b g : ℕ) → 0 < a → IsGcd a b g → 0 < g
some_divisor a b zero some is = absurd (let e = div-mul_cancel 0 is.0 in omega arith)
some_divisor a b (suc g) some is = omega arith

-- a / g * b and b / g * a are the same
pub divided : (a b g : ℕ) → IsGcd a b g → (a / g) * b ≡ (b / g) * a
divided a b g is =
    let x = div-mul_cancel g is.0 in
    let y = div-mul_cancel g is.1 in
    ap (λ k. (a / g) * k) (sym y) ∙ mul_left_comm (a / g) (b / g) g ∙ ap (λ k. (b / g) * k) x

some_factor : (q a g : ℕ) → 0 < a → q * g ≡ a → 0 < q
some_factor zero a g some e = absurd (omega arith)
some_factor (suc q) a g some e = omega arith

pub reduced_is : (a b g : ℕ) → 0 < a → 0 < b → IsGcd a b g → IsReduced a b (a / g) (b / g)
reduced_is a b g some finite is =
    record { some = some_factor (a / g) a g some (div-mul_cancel g is.0); finite = some_factor (b / g) b g finite (div-mul_cancel g is.1); same = divided a b g is }

-- a greatest common divisor of two numbers that grows with both
record Scaled (a b : ℕ) : Type 0 where
  divisor : ℕ
  is : IsGcd a b divisor
  scaled : (k : ℕ) → IsGcd (k * a) (k * b) (k * divisor)

scaled_zero : (a : ℕ) → Scaled a 0
scaled_zero a = record { divisor = a; is = IsGcd-from_zero a 0 refl; scaled = λ k. IsGcd-from_zero (k * a) (k * 0) (omega arith) }

scaled_swap : (a b : ℕ) → Scaled a b → Scaled b a
scaled_swap a b s =
    record { divisor = s.divisor; is = IsGcd-swap a b s.divisor s.is; scaled = λ k. IsGcd-swap (k * a) (k * b) (k * s.divisor) (s.scaled k) }

more : (k a b : ℕ) → b ≤ a → k * b ≤ k * a
more zero a b le = omega arith
more (suc k) a b le = let e = more k a b le in omega arith

scaled_less : (a b : ℕ) → b ≤ a → Scaled (a - b) b → Scaled a b
scaled_less a b le s =
    record {
      divisor = s.divisor;
      is = IsGcd-from_sub a b s.divisor le s.is;
      scaled = λ k. IsGcd-from_sub (k * a) (k * b) (k * s.divisor) (more k a b le)
          (subst (λ m. IsGcd m (k * b) (k * s.divisor)) (mul-sub k a b) (s.scaled k));
    }

scaled_step : (a b : ℕ) → (a < b → Scaled (suc b - suc a) (suc a)) → (b ≤ a → Scaled (suc a - suc b) (suc b)) → (a < b) ⊎ (b ≤ a) → Scaled (suc a) (suc b)
scaled_step a b swapped straight (inl less) = scaled_swap (suc b) (suc a) (scaled_less (suc b) (suc a) (omega arith) (swapped less))
scaled_step a b swapped straight (inr le) = scaled_less (suc a) (suc b) (omega arith) (straight le)

-- by as many steps as the numbers have ones
scaled_by : (f a b : ℕ) → a + b < f → Scaled a b
scaled_by zero a b lt = absurd (omega arith)
scaled_by (suc f) a zero lt = scaled_zero a
scaled_by (suc f) zero (suc b) lt = scaled_swap (suc b) 0 (scaled_zero (suc b))
scaled_by (suc f) (suc a) (suc b) lt =
    scaled_step a b (λ less. scaled_by f (suc b - suc a) (suc a) (omega arith)) (λ le. scaled_by f (suc a - suc b) (suc b) (omega arith)) (cases_lt a b)

scaled_of : (a b : ℕ) → Scaled a b
scaled_of a b = scaled_by (suc (a + b)) a b (omega arith)

-- what divides a multiple, and has no divisor with the number that it is a multiple of, divides the factor
gauss : (a b x : ℕ) → IsGcd a b 1 → a ∣ x * b → a ∣ x
gauss a b x one divides =
    let s = scaled_of a b in
    let same = same_from_IsGcd a b s.divisor 1 s.is one in
    let is = subst (λ g. IsGcd (x * a) (x * b) g) (ap (λ g. x * g) same ∙ mul-one x) (s.scaled x) in
    is.2 a (dvd-mul_left a x) divides

cancelled : (g x y : ℕ) → 0 < g → x * g ≡ y * g → x ≡ y
cancelled g x y some e = sym (mul-div_cancel x some) ∙ ap (λ k. k / g) e ∙ mul-div_cancel y some

coprime : (a b g : ℕ) → 0 < g → IsGcd a b g → IsGcd (a / g) (b / g) 1
coprime a b g some is =
    let s = scaled_of (a / g) (b / g) in
    let above = mul_comm g (a / g) ∙ div-mul_cancel g is.0 in
    let below = mul_comm g (b / g) ∙ div-mul_cancel g is.1 in
    let whole = subst (λ m. IsGcd a m (g * s.divisor)) below (subst (λ m. IsGcd m (g * (b / g)) (g * s.divisor)) above (s.scaled g)) in
    let same = same_from_IsGcd a b (g * s.divisor) g whole is in
    let one = cancelled g s.divisor 1 some (mul_comm s.divisor g ∙ same ∙ sym (one-mul g)) in
    subst (λ d. IsGcd (a / g) (b / g) d) one s.is

-- no ratio of the two has a smaller numerator
least : (a b g x y : ℕ) → 0 < a → 0 < x → IsGcd a b g → x * b ≡ y * a → a / g ≤ x
least a b g x y some more is same =
    let divisor = some_divisor a b g some is in
    let above = div-mul_cancel g is.0 in
    let below = div-mul_cancel g is.1 in
    let both = mul_assoc x (b / g) g ∙ ap (λ m. x * m) below ∙ same ∙ ap (λ m. y * m) (sym above) ∙ sym (mul_assoc y (a / g) g) in
    let parts = cancelled g (x * (b / g)) (y * (a / g)) divisor both in
    let divides = gauss (a / g) (b / g) x (coprime a b g divisor is) (subst (λ m. (a / g) ∣ m) (sym parts) (dvd-mul_left (a / g) y)) in
    le_of_dvd more divides

pub none_fits : (a b g x y : ℕ) → 0 < a → 0 < b → IsGcd a b g → (65535 < a / g) ⊎ ((a / g ≤ 65535) × (65535 < b / g)) → x < 2 ^ 16 → y < 2 ^ 16 → IsReduced a b x y → ⊥
none_fits a b g x y some finite is (inl above) small low r =
    let e = least a b g x y some r.some is r.same in omega arith
none_fits a b g x y some finite is (inr (above, below)) small low r =
    let e = least b a g y x finite r.finite (IsGcd-swap a b g is) (sym r.same) in omega arith
