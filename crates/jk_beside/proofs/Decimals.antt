-- Texts of decimal numbers, and of two of them with an `x` between.
use Rattle.std.proofs.Common.{◌≡◌, ◌≢◌, ℕ, ◌+◌, ◌*◌, ◌<◌, ◌≤◌, ◌^◌, inl, inr, true, false, Bool, ◌||◌, ◌&&◌, nat_eq, List, [], ◌∷◌, ◌++◌, length, get_or, Bor, Option, Some, None, IfNone, IfSome, IsSome, refl, sym, ap, subst, ◌∙◌, arith, true≢false, lit<, pos}
use Rattle.std.proofs.Math.Nat.{one-le-pow, pow-le-pow_right}
use Rattle.std.proofs.Math.Seq.{get_or-append_seam}
use Rattle.std.proofs.lemmas.List.{length-append}
use Rattle.std.proofs.lemmas.List.Folds.{list_all-append}
use Rattle.std.proofs.lemmas.List.Sums.{AllPass-from_list_all, list_all-from_AllPass}
use Rattle.std.proofs.lemmas.Str.Pattern.{IsSplitOnceResult, split_after, split_parts}
use Rattle.std.specs.List.{list_all}
use Rattle.std.specs.Char.{is_ascii_digit}
use Rattle.jk_extras.specs.declared.grids.Ratio.{Ratio}
use Rattle.jk_extras.specs.declared.grids.Grid.{Grid}
use Rattle.jk_extras.specs.Inches.{IsPerInch, HasSixteenBits}
use Rattle.jk_extras.proofs.PerInch.{next_power, whole_is}
use Rattle.jk_beside.specs.Words.{IsWhole, IsQuotient, IsDecimal, IsHeldInches, IsHeldResolution}
use Rattle.jk_beside.proofs.Digits.{free_of, not_cut}

-- the greatest power of ten of 32 bits
pub power_fits : (power k exponent : ℕ) → power ≡ 10 ^ k → k < exponent → 10 ^ exponent < 2 ^ 32 → power * 10 < 2 ^ 32
power_fits power k exponent is lt small =
    let next : 10 ^ (k + 1) ≡ 10 ^ k * 10 = next_power k in
    let below : 10 ^ (k + 1) ≤ 10 ^ exponent = pow-le-pow_right (lit< tt) (omega arith) in
    omega arith

-- a byte of a decimal number
is_decimal_byte : ℕ → Bool
is_decimal_byte b = is_ascii_digit b || nat_eq b 46

unit_right : (b : Bool) → (b || true) ≡ true
unit_right true = refl
unit_right false = refl

all_decimal : (ds : List ℕ) → list_all is_ascii_digit ds ≡ true → list_all is_decimal_byte ds ≡ true
unfolding is_decimal_byte
all_decimal ds digits =
    list_all-from_AllPass is_decimal_byte ds
    (λ i d inside. ap (λ b. b || nat_eq (get_or ds i d) 46) (AllPass-from_list_all is_ascii_digit ds digits i d inside))

decimal_bytes : (text : List ℕ) (n d : ℕ) → IsDecimal text n d → list_all is_decimal_byte text ≡ true
unfolding is_decimal_byte
decimal_bytes text n d (inl q) = all_decimal text q.digits
decimal_bytes text n d (inr (whole, fraction, is, q)) =
    ap (list_all is_decimal_byte) is ∙ list_all-append is_decimal_byte whole (46 ∷ fraction)
    ∙ ap (λ b. b && list_all is_decimal_byte fraction) (all_decimal whole q.digits) ∙ all_decimal fraction q.others

free_of_x : (text : List ℕ) (n d : ℕ) → IsDecimal text n d → (i : ℕ) → i < length text → get_or text i 0 ≢ 120
unfolding is_decimal_byte
free_of_x text n d is i inside same =
    true≢false (sym (AllPass-from_list_all is_decimal_byte text (decimal_bytes text n d is) i 0 inside) ∙ ap is_decimal_byte same)

-- Digits are one number.
pub is_pair : (whole fraction : List ℕ) (n d : ℕ) (o : Option (ℕ × ℕ)) → IfSome o (λ r. IsQuotient whole fraction r.0 r.1) → IsSome o
    → IsQuotient whole fraction n d → o ≡ Some (n, d)
is_pair whole fraction n d None are some q = absurd (true≢false (sym some))
is_pair whole fraction n d (Some (a, b)) are some q =
    let above : a ≡ n = are.numerator ∙ sym q.numerator in
    let below : b ≡ d = are.denominator ∙ sym q.denominator in
    ap (λ k. Some (k, b)) above ∙ ap (λ k. Some (n, k)) below

pub same_pair : (a b x y : ℕ) → ◌≡◌ {A = Option (ℕ × ℕ)} (Some (a, b)) (Some (x, y)) → (x ≡ a) × (y ≡ b)
same_pair a b x y h =
    let both : ◌≡◌ {A = ℕ × ℕ} (a, b) (x, y) = cc in
    (sym (ap (λ (p : ℕ × ℕ). p.0) both), sym (ap (λ (p : ℕ × ℕ). p.1) both))

pub some_denominator : (text : List ℕ) (n d : ℕ) → IsDecimal text n d → 0 < d
some_denominator text n d (inl q) = let one = one-le-pow 0 10 (lit< tt) in let is = q.denominator in omega arith
some_denominator text n d (inr (whole, fraction, is, q)) =
    let one = one-le-pow (length fraction) 10 (lit< tt) in let same = q.denominator in omega arith

-- a text with a point where digits are, and without one where there is none
pub decimal_whole : (text : List ℕ) (n d : ℕ) (r : Option (Bor (List ℕ) × Bor (List ℕ))) → r ≡ None → IsSplitOnceResult 46 text r
    → IsDecimal text n d → IsQuotient text [] n d
decimal_whole text n d r none h (inl q) = q
decimal_whole text n d r none h (inr (whole, fraction, is, q)) =
    let cut = split_after 46 text whole fraction r h (omega arith) is (free_of 46 refl whole q.digits) in
    absurd (rw none at cut)

pub decimal_parts : (text : List ℕ) (n d : ℕ) (x : Bor (List ℕ) × Bor (List ℕ)) (r : Option (Bor (List ℕ) × Bor (List ℕ))) → r ≡ Some x
    → IsSplitOnceResult 46 text r → IsDecimal text n d → IsQuotient x.0.now x.1.now n d
decimal_parts text n d x r some h (inl q) =
    let none : r ≡ None = not_cut 46 (omega arith) refl text q.digits r h in
    absurd (let clash : None ≡ Some x = sym none ∙ some in cc)
decimal_parts text n d x r some h (inr (whole, fraction, is, q)) =
    let cut = split_after 46 text whole fraction r h (omega arith) is (free_of 46 refl whole q.digits) in
    let parts : (x.0.now ≡ whole) × (x.1.now ≡ fraction) = rw some at cut in
    subst (λ t. IsQuotient t x.1.now n d) (sym parts.0) (subst (λ t. IsQuotient whole t n d) (sym parts.1) q)

-- a resolution without an `x`, and one with it
pub one_number : (text : List ℕ) (g : Grid) (r : Option (Bor (List ℕ) × Bor (List ℕ))) → r ≡ None → IsSplitOnceResult 120 text r
    → IsHeldResolution text g → IsHeldInches text g.across
one_number text g r none h (inl held) = held.0
one_number text g r none h (inr (across, down, is, first, second)) =
    let cut = split_after 120 text across down r h (omega arith) is (free_of_x across first.inches.n first.inches.d first.inches.decimal) in
    absurd (rw none at cut)

pub two_numbers : (text : List ℕ) (g : Grid) (x : Bor (List ℕ) × Bor (List ℕ)) (r : Option (Bor (List ℕ) × Bor (List ℕ))) → r ≡ Some x
    → IsSplitOnceResult 120 text r → IsHeldResolution text g → IsHeldInches x.0.now g.across × IsHeldInches x.1.now g.down
two_numbers text g x r some h (inl held) =
    let cut = split_parts 120 text r h (omega arith) in
    let parts : (text ≡ x.0.now ++ (120 ∷ x.1.now)) × ((i : ℕ) → i < length x.0.now → get_or x.0.now i 0 ≢ 120) = rw some at cut in
    let before = length x.0.now in
    let inside : before < length text = omega (arith, ap (λ (l : List ℕ). length l) parts.0, length-append x.0.now (120 ∷ x.1.now)) in
    absurd (free_of_x text held.0.inches.n held.0.inches.d held.0.inches.decimal before inside
    (ap (λ (l : List ℕ). get_or l before 0) parts.0 ∙ get_or-append_seam x.0.now 120 x.1.now 0))
two_numbers text g x r some h (inr (across, down, is, first, second)) =
    let cut = split_after 120 text across down r h (omega arith) is (free_of_x across first.inches.n first.inches.d first.inches.decimal) in
    let parts : (x.0.now ≡ across) × (x.1.now ≡ down) = rw some at cut in
    (subst (λ t. IsHeldInches t g.across) (sym parts.0) first, subst (λ t. IsHeldInches t g.down) (sym parts.1) second)

pub not_none : {A : Type 0} (o : Option A) → IsSome o → o ≡ None → ⊥
not_none None some none = true≢false (sym some)
not_none (Some x) some none = cc

-- what isn't none for any ratio is one
pub held_some : (n d m e : ℕ) (o : Option Ratio) → IfNone o ((r : Ratio) → HasSixteenBits r → 0 < d → IsPerInch n d r → ⊥) → m ≡ n → e ≡ d
    → (r : Ratio) → HasSixteenBits r → 0 < e → IsPerInch m e r → IsSome o
held_some n d m e None only above below r small some is =
    absurd (only r small (omega arith) (subst (λ k. IsPerInch k d r) above (subst (λ k. IsPerInch m k r) below is)))
held_some n d m e (Some x) only above below r small some is = refl

-- each whole number of 16 bits
pub whole_held : (text : List ℕ) (n : ℕ) → IsWhole text n → 1 ≤ n → n < 2 ^ 16
    → IsHeldResolution text (record { down = record { numerator = n; denominator = 254; exponent = pos 4 }; across = record { numerator = n; denominator = 254; exponent = pos 4 } })
whole_held text n is some small =
    let quotient : IsQuotient text [] n 1 = record { some = is.some; digits = is.digits; others = refl; numerator = is.number; denominator = refl } in
    inl (record { inches = record { n = n; d = 1; decimal = inl quotient; ratio = whole_is n some }; above = omega arith; below = lit< tt; small = (small, lit< tt) }, refl)
