-- Names of files.
use Rattle.std.proofs.Common.{◌≡◌, ◌≢◌, ℕ, Bool, true, false, cond, ◌&&◌, ◌||◌, List, ◌++◌, codes, inl, inr, refl, sym, ap, ◌∙◌, subst}
use Rattle.std.specs.Str.{bytes_eq}
use Rattle.std.proofs.lemmas.Bool.{cases_Bool}
use Rattle.std.proofs.lemmas.Slice.Eq.{bytes_eq-Decides}
use Rattle.std.proofs.lemmas.List.{append_cancel_right}
use Rattle.std.specs.Str.Pattern.{FindsTextSuffix, StripsSuffix}
use Rattle.jk_store.specs.Names.{is_good_name, is_file_of, file_name}

-- a list that ends in another has one front
cut_end : (xs ys zs : List ℕ) → xs ++ zs ≡ ys ++ zs → xs ≡ ys
cut_end xs ys zs e = append_cancel_right xs ys zs e

stripped : (s x : List ℕ) → StripsSuffix (FindsTextSuffix (codes ".jp2")) s x → s ≡ file_name x
stripped s x h = h.1.1 ∙ ap (λ l. l ++ codes ".jp2") (sym h.2)

no_and : (b : Bool) → (b && false) ≡ false
no_and true = refl
no_and false = refl

-- with a good name in front of the ending, the file is of that name alone
pub named_file : (s x : List ℕ) → StripsSuffix (FindsTextSuffix (codes ".jp2")) s x → is_good_name x ≡ true → (n : List ℕ) → is_file_of n s ≡ bytes_eq x n
named_file s x h good n =
    elim (cases_Bool (bytes_eq x n)) [
      | inl same ↦
          (let is : x ≡ n = (bytes_eq-Decides x n).0 same in
          let named : is_good_name n ≡ true = subst (λ m. is_good_name m ≡ true) is good in
          let ends : bytes_eq (file_name n) s ≡ true = (bytes_eq-Decides (file_name n) s).1 (sym (stripped s x h ∙ ap file_name is)) in
          rw (named, ends, same) refl)
      | inr other ↦
          (let differ : bytes_eq (file_name n) s ≡ false = elim (cases_Bool (bytes_eq (file_name n) s)) [
            | inl ends ↦ absurd (let clash : true ≡ false = sym ((bytes_eq-Decides x n).1 (cut_end x n (codes ".jp2") (sym (stripped s x h) ∙ sym ((bytes_eq-Decides (file_name n) s).0 ends)))) ∙ other in cc)
            | inr other ↦ other
          ] in
          rw (differ, other) (no_and (is_good_name n)))
    ]

-- without the ending it is of no name
pub no_ending : (s : List ℕ) → ((front : List ℕ) → s ≢ front ++ codes ".jp2") → (n : List ℕ) → is_file_of n s ≡ false
no_ending s none n =
    let differ : bytes_eq (file_name n) s ≡ false = elim (cases_Bool (bytes_eq (file_name n) s)) [
      | inl ends ↦ absurd (none n (sym ((bytes_eq-Decides (file_name n) s).0 ends)))
      | inr other ↦ other
    ] in
    rw differ (no_and (is_good_name n))

-- with another name in front of the ending it is of no name
pub bad_name : (s x : List ℕ) → StripsSuffix (FindsTextSuffix (codes ".jp2")) s x → is_good_name x ≡ false → (n : List ℕ) → is_file_of n s ≡ false
bad_name s x h bad n =
    elim (cases_Bool (bytes_eq (file_name n) s)) [
      | inl ends ↦
          (let is : x ≡ n = cut_end x n (codes ".jp2") (sym (stripped s x h) ∙ sym ((bytes_eq-Decides (file_name n) s).0 ends)) in
          let bad_too : is_good_name n ≡ false = subst (λ m. is_good_name m ≡ false) is bad in
          rw bad_too refl)
      | inr other ↦ rw other (no_and (is_good_name n))
    ]

-- with a name or without one
pub cond_or : (b c : Bool) → cond b true c ≡ (b || c)
cond_or true c = refl
cond_or false c = refl

-- the next file is counted on either side
pub or_next : (old f rest now all : Bool) → now ≡ (f || old) → (old || (f || rest)) ≡ all → (now || rest) ≡ all
or_next true true rest now all e h = rw e h
or_next true false rest now all e h = rw e h
or_next false true rest now all e h = rw e h
or_next false false rest now all e h = rw e h
