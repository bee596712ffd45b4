-- Texts that name a UUID and a file.
use Rattle.std.proofs.Common.{◌≡◌, ◌≢◌, ℕ, ◌<◌, true, List, length, get_or, Bor, Option, Some, None, IfNone, Result, Ok, Err, is_ok, sym, ap, ◌∙◌, arith, true≢false}
use Rattle.std.specs.List.{AllPass}
use Rattle.hex.specs.Hex.{decode_sized, is_hex_digit}
use Rattle.hex.specs.declared.error.FromHexError.{FromHexError}
use Rattle.hex.proofs.HexLemmas.{IsOk-decode_sized}
use Rattle.std.specs.Result.{result_ok}
use Rattle.std.proofs.lemmas.Str.Pattern.{IsSplitOnceResult, split_after}
use Rattle.jk_beside.specs.Words.{IsNamed}

free_of_colon : (digits bytes : List ℕ) → decode_sized digits 16 ≡ Ok bytes → (i : ℕ) → i < length digits → get_or digits i 0 ≢ 58
free_of_colon digits bytes e i lt is =
    let pass : AllPass is_hex_digit digits = ((IsOk-decode_sized digits 16).0 (ap (λ r. is_ok r) e)).1 in
    let here : is_hex_digit (get_or digits i 0) ≡ true = pass i 0 lt in
    true≢false (sym here ∙ ap is_hex_digit is)

pub if_none : {A P : Type 0} (r : Option A) → P → IfNone r P
if_none None p = p
if_none (Some x) p = tt

pub not_split : (text : List ℕ) (r : Option (Bor (List ℕ) × Bor (List ℕ))) → r ≡ None → IsSplitOnceResult 58 text r
    → (id file : List ℕ) → IsNamed text id file → ⊥
not_split text r none h id file says =
    let cut = split_after 58 text says.digits file r h (omega arith) says.text_is (free_of_colon says.digits id says.bytes) in
    rw none at cut

-- the two sides of the first colon are the digits and the name
pub split_says : (text : List ℕ) (x : Bor (List ℕ) × Bor (List ℕ)) (r : Option (Bor (List ℕ) × Bor (List ℕ))) → r ≡ Some x → IsSplitOnceResult 58 text r
    → (id file : List ℕ) (says : IsNamed text id file) → (x.0.now ≡ says.digits) × (x.1.now ≡ file)
split_says text x r some h id file says =
    let cut = split_after 58 text says.digits file r h (omega arith) says.text_is (free_of_colon says.digits id says.bytes) in
    rw some at cut

pub not_decoded : (digits : List ℕ) (r : Result (List ℕ) FromHexError) (text id file : List ℕ) (says : IsNamed text id file)
    → digits ≡ says.digits → r ≡ decode_sized digits 16 → result_ok r ≡ None → ⊥
not_decoded digits r text id file says same is none =
    let ok : r ≡ Ok id = is ∙ (ap (λ t. decode_sized t 16) same ∙ says.bytes) in
    let some : result_ok r ≡ Some id = ap (λ (q : Result (List ℕ) FromHexError). result_ok q) ok in
    let clash : None ≡ Some id = sym none ∙ some in
    cc

pub ok_some : {A E : Type 0} (r : Result A E) (x : A) → result_ok r ≡ Some x → r ≡ Ok x
ok_some (Ok y) x h = ap Ok (let same : y ≡ x = cc in same)
ok_some (Err e) x h = absurd (let clash = h in cc)
