-- Numbers that a few digits write.
use Rattle.std.proofs.Common.{◌≡◌, ℕ, ◌^◌, ◌<◌, ◌≤◌, Bool, true, false, cond, ◌&&◌, List, length, Some, None, Result, Ok, Err, ltb, leb, refl, sym, ap, ◌∙◌, arith, rules}
use Rattle.std.specs.List.{list_all}
use Rattle.std.specs.Result.{OkIff, result_ok}
use Rattle.std.specs.Char.{is_ascii_digit}
use Rattle.std.specs.Str.Parse.{ParsesUnsigned, digits_value}
use Rattle.std.proofs.lemmas.Str.Parse.{IsNumeralModel, numerals_by_value, parse_digits}
use Rattle.std.proofs.lemmas.Bool.Decides.{nat_tests}
use Rattle.jk_web.specs.Queries.{is_number, number_of}

own : IsNumeralModel (λ ds. list_all is_ascii_digit ds ≡ true) (digits_value 10)
own = numerals_by_value (λ ds. list_all is_ascii_digit ds ≡ true) (search rules)

-- the tests of a number, where all bytes are digits and there aren't too many
tested : (text : List ℕ) → length text ≤ 10 → list_all is_ascii_digit text ≡ true
    → is_number text ≡ (ltb 0 (length text) && ltb (digits_value 10 text) (2 ^ 32))
unfolding is_number
tested text short digits =
    let few : leb (length text) 10 ≡ true = grind (arith, nat_tests) in
    λ i. ltb 0 (length text) && (few i && (digits i && ltb (digits_value 10 text) (2 ^ 32)))

from_parts : {E : Type 0} (text : List ℕ) (r : Result ℕ E) → OkIff r ((0 < length text) × (digits_value 10 text < 2 ^ 32)) (digits_value 10 text)
    → result_ok r ≡ cond (ltb 0 (length text) && ltb (digits_value 10 text) (2 ^ 32)) (Some (digits_value 10 text)) None
from_parts text (Ok n) h =
    let some : ltb 0 (length text) ≡ true = grind (arith, nat_tests, h.0.0) in
    let low : ltb (digits_value 10 text) (2 ^ 32) ≡ true = grind (arith, nat_tests, h.0.1) in
    ap (λ k. Some k) h.1 ∙ sym (λ i. cond (some i && low i) (Some (digits_value 10 text)) None)
from_parts text (Err e) h = sym (none (ltb 0 (length text)) (ltb (digits_value 10 text) (2 ^ 32)) refl refl)
  where
    none : (a b : Bool) → ltb 0 (length text) ≡ a → ltb (digits_value 10 text) (2 ^ 32) ≡ b
        → cond (a && b) (Some (digits_value 10 text)) None ≡ None
    none false b p q = refl
    none true false p q = refl
    none true true p q =
        let some : 0 < length text = grind (arith, nat_tests) in
        let low : digits_value 10 text < 2 ^ 32 = grind (arith, nat_tests) in
        absurd (h (some, low))

-- What is parsed is the number.
pub number_parsed : {E : Type 0} (text : List ℕ) (r : Result ℕ E) → length text ≤ 10 → list_all is_ascii_digit text ≡ true
    → ParsesUnsigned 32 10 text r → result_ok r ≡ number_of text
unfolding number_of
number_parsed text r short digits parses =
    from_parts text r (parse_digits own 32 text r parses digits)
    ∙ sym (ap (λ b. cond b (Some (digits_value 10 text)) None) (tested text short digits))
