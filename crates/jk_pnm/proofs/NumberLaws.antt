-- Numbers: digits and depths.
use Rattle.std.proofs.Common.{◌≡◌, ℕ, zero, suc, ◌+◌, ◌-◌, ◌*◌, ◌/◌, ◌%◌, ◌^◌, ◌<◌, ◌≤◌, Bool, true, false, cond, ◌⊎◌, eqb, leb, ltb, ◌&&◌, ◌||◌, inl, inr, List, [], ◌∷◌, ◌++◌, length, Option, Some, None, Ok, refl, sym, ap, ◌∙◌, length-append, arith}
use Rattle.std.specs.List.{AllByRecursion, find, range_with_len}
use Rattle.std.specs.Char.{is_ascii_digit}
use Rattle.std.specs.Fmt.{decimal}
use Rattle.std.proofs.Math.Nat.{pow-suc, one-le-pow, mul-le-mul_left}
use Rattle.std.proofs.lemmas.Bool.{eqb-false, ne_eqb, eqb-true, eq-eqb, le-ltb, le-leb, and_parts, and_from, and_left, cases_Bool, cases_order}
use Rattle.std.proofs.lemmas.Fmt.{decimal_by_steps}
use Rattle.std.proofs.lemmas.Nat.{pow_below}
use Rattle.jk_math.specs.Steps.{refuse_then, chosen, ok_is}
use Rattle.jk_math.specs.declared.fault.Fault.TheVariants.{BadPnm}
use Rattle.jk_pnm.specs.Pnm.{number_of, IsNumber}
use Rattle.jk_pnm.specs.Reading.{digits_at, number_at, or_bad, depth_at}

abbrev AreDigits : List ℕ → Type 0
AreDigits ds = AllByRecursion (λ d. is_ascii_digit d ≡ true) ds

number_more : (d : ℕ) (ds : List ℕ) → number_of (d ∷ ds) ≡ (d - 48) * 10 ^ length ds + number_of ds
unfolding number_of
number_more d ds = refl

number_none : number_of [] ≡ 0
unfolding number_of
number_none = refl

-- digits behind those of m
value_step : (m d : ℕ) (ds : List ℕ) → (10 * m + (d - 48)) * 10 ^ length ds + number_of ds ≡ m * 10 ^ length (d ∷ ds) + number_of (d ∷ ds)
value_step m d ds =
    let power : 10 ^ suc (length ds) ≡ 10 ^ length ds * 10 = pow-suc 10 (length ds) in
    let p : ℕ = 10 ^ length ds in
    let last = number_more d ds in
    let times : m * 10 ^ suc (length ds) ≡ m * (p * 10) = ap (λ (k : ℕ). m * k) power in
    omega (arith, last, times)

-- digits and the rest
record DigitsTold (m : ℕ) (bytes : List ℕ) (n : ℕ) (rest : List ℕ) : Type 0 where
  digits : List ℕ
  text : bytes ≡ digits ++ rest
  plain : AreDigits digits
  value : n ≡ m * 10 ^ length digits + number_of digits

digits_none : (m n : ℕ) (bytes rest : List ℕ) → (let p : ℕ × List ℕ = (m, bytes) in p) ≡ (n, rest) → DigitsTold m bytes n rest
digits_none m n bytes rest e =
    let n-is : m ≡ n = ap (λ (p : ℕ × List ℕ). p.0) e in
    let rest-is : bytes ≡ rest = ap (λ (p : ℕ × List ℕ). p.1) e in
    record { digits = []; text = rest-is; plain = tt; value = omega (arith, n-is, number_none) }

digits_told : (bytes : List ℕ) (m n : ℕ) (rest : List ℕ) → digits_at m bytes ≡ (n, rest) → DigitsTold m bytes n rest
unfolding digits_at
digits_told [] m n rest e = digits_none m n [] rest e
digits_told (c ∷ cs) m n rest e =
    let stop : ℕ × List ℕ = (m, c ∷ cs) in
    let aim : ℕ × List ℕ = (n, rest) in
    elim (chosen (is_ascii_digit c && leb m (2 ^ 28)) (digits_at (10 * m + (c - 48)) cs) stop aim e) [
      | inl w ↦
          let both = and_parts (is_ascii_digit c) (leb m (2 ^ 28)) w.0 in
          let o = digits_told cs (10 * m + (c - 48)) n rest w.1 in
          record { digits = c ∷ o.digits; text = ap (λ (ys : List ℕ). c ∷ ys) o.text; plain = (both.0, o.plain); value = o.value ∙ value_step m c o.digits }
      | inr w ↦ digits_none m n (c ∷ cs) rest w.1
    ]

-- a number and the rest
pub record NumberTold (bytes : List ℕ) (x : ℕ × List ℕ) : Type 0 where
  pub digits : List ℕ
  pub text : bytes ≡ digits ++ x.1
  pub number : IsNumber digits
  pub value : number_of digits ≡ x.0

pub or_parts : (x y : Bool) → (x || y) ≡ false → (x ≡ false) × (y ≡ false)
or_parts true y e = absurd cc
or_parts false y e = (refl, e)

pub number_found : (bytes : List ℕ) (x : ℕ × List ℕ) → number_at bytes ≡ Ok x → NumberTold bytes x
unfolding number_at
number_found bytes x e =
    refuse_then (eqb (digits_at 0 bytes).0 0 || ltb (2 ^ 28) (digits_at 0 bytes).0) BadPnm _ x e (λ within e.
    let x-is : digits_at 0 bytes ≡ x = ok_is (digits_at 0 bytes) x e in
    let both = or_parts (eqb (digits_at 0 bytes).0 0) (ltb (2 ^ 28) (digits_at 0 bytes).0) within in
    let no-zero : (digits_at 0 bytes).0 ≡ 0 → ⊥ = eqb-false (digits_at 0 bytes).0 0 both.0 in
    let first : (digits_at 0 bytes).0 ≡ x.0 = ap (λ (p : ℕ × List ℕ). p.0) x-is in
    let o = digits_told bytes 0 x.0 x.1 x-is in
    let value : number_of o.digits ≡ x.0 = omega (arith, o.value) in
    record { digits = o.digits; text = o.text; number = record { plain = o.plain; some = omega (arith, no-zero, first, value) }; value = value }
    )

digits_step : (m c : ℕ) (cs : List ℕ) → is_ascii_digit c ≡ true → m ≤ 2 ^ 28 → digits_at m (c ∷ cs) ≡ digits_at (10 * m + (c - 48)) cs
unfolding digits_at
digits_step m c cs digit few =
    let goes : is_ascii_digit c && leb m (2 ^ 28) ≡ true = and_from _ _ digit (le-leb m (2 ^ 28) few) in
    rw goes refl

digits_rest : (m c : ℕ) (cs : List ℕ) → is_ascii_digit c ≡ false → digits_at m (c ∷ cs) ≡ (m, c ∷ cs)
unfolding digits_at
digits_rest m c cs other = let stops : is_ascii_digit c && leb m (2 ^ 28) ≡ false = and_left _ _ other in rw stops refl

small_front : (m d p n : ℕ) → 1 ≤ p → (10 * m + d) * p + n ≤ 2 ^ 28 → m ≤ 2 ^ 28
small_front m d p n some few = omega (arith, mul-le-mul_left (10 * m + d) some)

digits_again : (ds : List ℕ) (m c : ℕ) (rest : List ℕ) → AreDigits ds → is_ascii_digit c ≡ false → m * 10 ^ length ds + number_of ds ≤ 2 ^ 28 → digits_at m (ds ++ (c ∷ rest)) ≡ (m * 10 ^ length ds + number_of ds, c ∷ rest)
digits_again [] m c rest digits other few =
    let value : m ≡ m * 10 ^ 0 + number_of [] = omega (arith, number_none) in
    digits_rest m c rest other ∙ ap (λ (k : ℕ). let p : ℕ × List ℕ = (k, c ∷ rest) in p) value
digits_again (d ∷ ds) m c rest digits other few =
    let value = value_step m d ds in
    let p : ℕ = 10 ^ length ds in
    let some : 1 ≤ p = one-le-pow (length ds) 10 (omega arith) in
    let within : (10 * m + (d - 48)) * p + number_of ds ≤ 2 ^ 28 = omega (arith, value, few) in
    let small : m ≤ 2 ^ 28 = small_front m (d - 48) p (number_of ds) some within in
    digits_step m d (ds ++ (c ∷ rest)) digits.0 small
    ∙ digits_again ds (10 * m + (d - 48)) c rest digits.1 other within
    ∙ ap (λ (k : ℕ). let q : ℕ × List ℕ = (k, c ∷ rest) in q) value

pub number_again : (ds : List ℕ) (c : ℕ) (rest : List ℕ) → IsNumber ds → is_ascii_digit c ≡ false → number_of ds ≤ 2 ^ 28 → number_at (ds ++ (c ∷ rest)) ≡ Ok (number_of ds, c ∷ rest)
unfolding number_at
number_again ds c rest is other few =
    let value : 0 * 10 ^ length ds + number_of ds ≡ number_of ds = omega arith in
    let read : digits_at 0 (ds ++ (c ∷ rest)) ≡ (number_of ds, c ∷ rest) = digits_again ds 0 c rest is.plain other (omega (arith, value, few)) ∙ ap (λ (k : ℕ). let q : ℕ × List ℕ = (k, c ∷ rest) in q) value in
    let some : eqb (number_of ds) 0 ≡ false = ne_eqb (number_of ds) 0 (omega (arith, is.some)) in
    let within : ltb (2 ^ 28) (number_of ds) ≡ false = le-ltb (2 ^ 28) (number_of ds) few in
    rw (read, some, within) refl

-- the digit with which a number begins
pub record DigitFirst (bytes : List ℕ) : Type 0 where
  pub first : ℕ
  pub others : List ℕ
  pub text : bytes ≡ first ∷ others
  pub digit : is_ascii_digit first ≡ true

pub number_begins : (ds rest : List ℕ) → IsNumber ds → DigitFirst (ds ++ rest)
number_begins [] rest is = absurd (omega (arith, is.some, number_none))
number_begins (d ∷ ds) rest is = record { first = d; others = ds ++ rest; text = refl; digit = is.plain.0 }

-- decimal numbers are such digits
number_last : (ds : List ℕ) (c : ℕ) → number_of (ds ++ (c ∷ [])) ≡ 10 * number_of ds + (c - 48)
number_last [] c = number_more c [] ∙ omega (arith, number_none)
number_last (d ∷ ds) c =
    let one : length (ds ++ (c ∷ [])) ≡ suc (length ds) = omega (arith, length-append ds (c ∷ [])) in
    let power : 10 ^ suc (length ds) ≡ 10 ^ length ds * 10 = pow-suc 10 (length ds) in
    let p : ℕ = 10 ^ length ds in
    let times : (d - 48) * 10 ^ length (ds ++ (c ∷ [])) ≡ (d - 48) * (p * 10) = ap (λ (k : ℕ). (d - 48) * 10 ^ k) one ∙ ap (λ (k : ℕ). (d - 48) * k) power in
    omega (arith, number_more d (ds ++ (c ∷ [])), number_more d ds, number_last ds c, times)

digit_from : (c : ℕ) → 48 ≤ c → c ≤ 57 → is_ascii_digit c ≡ true
digit_from c low high = and_from (leb 48 c) (leb c 57) (le-leb 48 c low) (le-leb c 57 high)

digits_joined : (ds : List ℕ) (c : ℕ) → AreDigits ds → is_ascii_digit c ≡ true → AreDigits (ds ++ (c ∷ []))
digits_joined [] c digits digit = (digit, tt)
digits_joined (d ∷ ds) c digits digit = (digits.0, digits_joined ds c digits.1 digit)

abbrev Writes : ℕ → List ℕ → Type 0
Writes n ds = AreDigits ds × (number_of ds ≡ n)

writes_one : (n : ℕ) → n < 10 → Writes n ((48 + n) ∷ [])
writes_one n lt = ((digit_from (48 + n) (omega arith) (omega arith), tt), omega (arith, number_last [] (48 + n), number_none))

writes_more : (n : ℕ) (ds : List ℕ) → 10 ≤ n → Writes (n / 10) ds → Writes n (ds ++ ((48 + n % 10) ∷ []))
writes_more n ds some before =
    let c : ℕ = 48 + n % 10 in
    let few : n % 10 < 10 = omega arith in
    (digits_joined ds c before.0 (digit_from c (omega arith) (omega arith)), omega (arith, number_last ds c, before.1))

decimal_writes : (n : ℕ) → n < 2 ^ 64 → Writes n (decimal n)
decimal_writes n lt = decimal_by_steps Writes writes_one writes_more n lt

pub decimal_value : (n : ℕ) → n < 2 ^ 64 → number_of (decimal n) ≡ n
decimal_value n lt = (decimal_writes n lt).1

pub decimal_number : (n : ℕ) → 0 < n → n < 2 ^ 64 → IsNumber (decimal n)
decimal_number n some lt = record { plain = (decimal_writes n lt).0; some = omega (arith, decimal_value n lt, some) }

-- the depth
found_first : (b : Bool) (a d : ℕ) (more : Option ℕ) → cond b (Some a) more ≡ Some d → ((b ≡ true) × (a ≡ d)) ⊎ ((b ≡ false) × (more ≡ Some d))
found_first true a d more e = inl (refl, cc)
found_first false a d more e = inr (refl, e)

differs : (b : Bool) → b ≡ false → b ≡ true → ⊥
differs b f t = absurd cc

find_told : (p : ℕ → Bool) (n a d : ℕ) → find p (range_with_len a n) ≡ Some d → (p d ≡ true) × (a ≤ d) × (d < a + n)
find_told p zero a d e = absurd cc
find_told p (suc n) a d e =
    elim (found_first (p a) a d (find p (range_with_len (a + 1) n)) e) [
      | inl w ↦ (ap p (sym w.1) ∙ w.0, omega (arith, w.1), omega (arith, w.1))
      | inr w ↦ let o = find_told p n (a + 1) d w.1 in (o.0, omega (arith, o.1), omega (arith, o.2))
    ]

find_again : (p : ℕ → Bool) (n a d : ℕ) → p d ≡ true → ((k : ℕ) → p k ≡ true → k ≡ d) → a ≤ d → d < a + n → find p (range_with_len a n) ≡ Some d
find_again p zero a d here only low high = absurd (omega arith)
find_again p (suc n) a d here only low high =
    elim (cases_Bool (p a)) [
      | inl met ↦ rw met (ap (λ (k : ℕ). Some k) (only a met))
      | inr other ↦
          let apart : a ≡ d → ⊥ = λ e. differs (p a) other (ap p e ∙ here) in
          rw other (find_again p n (a + 1) d here only (omega (arith, apart)) (omega arith))
    ]

or_bad_is : (o : Option ℕ) (d : ℕ) → or_bad o ≡ Ok d → o ≡ Some d
or_bad_is (Some n) d e = cc
or_bad_is None d e = absurd cc

pub depth_found : (maxval d : ℕ) → depth_at maxval ≡ Ok d → (2 ^ d ≡ maxval + 1) × (1 ≤ d) × (d ≤ 16)
unfolding depth_at
depth_found maxval d e =
    let p : ℕ → Bool = λ depth. eqb (2 ^ depth) (maxval + 1) in
    let o = find_told p 16 1 d (or_bad_is (find p (range_with_len 1 16)) d e) in
    (eqb-true (2 ^ d) (maxval + 1) o.0, o.1, omega (arith, o.2))

same_power : (k d : ℕ) → 2 ^ k ≡ 2 ^ d → k ≡ d
same_power k d e = elim (cases_order k d) [
  | inl same ↦ same
  | inr w ↦ elim w [
    | inl below ↦ absurd (omega (arith, e, pow_below k d below))
    | inr above ↦ absurd (omega (arith, e, pow_below d k above))
  ]
]

pub depth_again : (maxval d : ℕ) → 2 ^ d ≡ maxval + 1 → 1 ≤ d → d ≤ 16 → depth_at maxval ≡ Ok d
unfolding depth_at
depth_again maxval d bits some few =
    let p : ℕ → Bool = λ depth. eqb (2 ^ depth) (maxval + 1) in
    let only : (k : ℕ) → p k ≡ true → k ≡ d = λ k e. same_power k d (eqb-true (2 ^ k) (maxval + 1) e ∙ sym bits) in
    ap or_bad (find_again p 16 1 d (eq-eqb (2 ^ d) (maxval + 1) bits) only some (omega (arith, few)))
