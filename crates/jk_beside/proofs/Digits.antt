-- Digits, one at a time.
use Rattle.std.proofs.Common.{◌≡◌, ◌≢◌, ℕ, suc, ◌+◌, ◌*◌, ◌-◌, ◌<◌, ◌≤◌, true, false, List, [], ◌∷◌, ◌++◌, length, take, drop, get_or, Bor, Option, Some, None, refl, sym, ap, ◌∙◌, arith, true≢false}
use Rattle.std.proofs.Math.Seq.{take-suc, get_or-append_seam}
use Rattle.std.proofs.lemmas.List.{take-append-drop, length-append}
use Rattle.std.proofs.lemmas.List.Sums.{AllPass-from_list_all}
use Rattle.std.proofs.lemmas.Str.Pattern.{IsSplitOnceResult, split_parts}
use Rattle.std.specs.List.{list_all}
use Rattle.std.specs.Char.{is_ascii_digit, digit_value}
use Rattle.std.proofs.lemmas.Bool.Decides.{nat_tests}
use Rattle.std.specs.Str.Parse.{digits_value_after}

value_push : (n : ℕ) (ds : List ℕ) (d : ℕ) → digits_value_after 10 n (ds ++ d ∷ []) ≡ digits_value_after 10 n ds * 10 + digit_value d
value_push n [] d = refl
value_push n (c ∷ ds) d = value_push (n * 10 + digit_value c) ds d

pub value_more : (n : ℕ) (ds : List ℕ) (i : ℕ) → i < length ds → digits_value_after 10 n (take (i + 1) ds) ≡ digits_value_after 10 n (take i ds) * 10 + digit_value (get_or ds i 0)
value_more n ds i inside =
    let one : i + 1 ≡ suc i = omega arith in
    ap (λ k. digits_value_after 10 n (take k ds)) one ∙ ap (digits_value_after 10 n) (take-suc ds i 0 inside) ∙ value_push n (take i ds) (get_or ds i 0)

pub digit_is : (c : ℕ) → is_ascii_digit c ≡ true → digit_value c ≡ c - 48
digit_is c h = grind (arith, nat_tests, h)

-- more digits make no less of a number
pub no_less : (n : ℕ) (ds : List ℕ) → n ≤ digits_value_after 10 n ds
no_less n [] = omega arith
no_less n (d ∷ ds) = omega (arith, no_less (n * 10 + digit_value d) ds)

after_both : (n : ℕ) (ds es : List ℕ) → digits_value_after 10 n (ds ++ es) ≡ digits_value_after 10 (digits_value_after 10 n ds) es
after_both n [] es = refl
after_both n (d ∷ ds) es = after_both (n * 10 + digit_value d) ds es

pub value_front : (n : ℕ) (ds : List ℕ) (i : ℕ) → digits_value_after 10 n (take i ds) ≤ digits_value_after 10 n ds
value_front n ds i =
    let whole : digits_value_after 10 n ds ≡ digits_value_after 10 (digits_value_after 10 n (take i ds)) (drop i ds) =
    ap (digits_value_after 10 n) (sym (take-append-drop i ds)) ∙ after_both n (take i ds) (drop i ds) in
    omega (arith, whole, no_less (digits_value_after 10 n (take i ds)) (drop i ds))

-- each of digits is one
pub digit_there : (ds : List ℕ) → list_all is_ascii_digit ds ≡ true → (i : ℕ) → i < length ds → is_ascii_digit (get_or ds i 0) ≡ true
digit_there ds h i inside = AllPass-from_list_all is_ascii_digit ds h i 0 inside

-- no digit is a point or an `x`
pub free_of : (c : ℕ) → is_ascii_digit c ≡ false → (ds : List ℕ) → list_all is_ascii_digit ds ≡ true → (i : ℕ) → i < length ds → get_or ds i 0 ≢ c
free_of c none ds h i inside is = true≢false (sym (digit_there ds h i inside) ∙ ap is_ascii_digit is ∙ none)

-- a text of digits isn't split there
pub not_cut : (c : ℕ) → c < 128 → is_ascii_digit c ≡ false → (text : List ℕ) → list_all is_ascii_digit text ≡ true
    → (r : Option (Bor (List ℕ) × Bor (List ℕ))) → IsSplitOnceResult c text r → r ≡ None
not_cut c low none text digits None h = refl
not_cut c low none text digits (Some x) h =
    let parts = split_parts c text (Some x) h low in
    let before = length x.0.now in
    let inside : before < length text = omega (arith, ap (λ (l : List ℕ). length l) parts.0, length-append x.0.now (c ∷ x.1.now)) in
    absurd (free_of c none text digits before inside (ap (λ (l : List ℕ). get_or l before 0) parts.0 ∙ get_or-append_seam x.0.now c x.1.now 0))
