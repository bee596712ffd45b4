-- What storing an image answers by what is due of it.
use Rattle.std.proofs.Common.{◌≡◌, ◌⊎◌, inl, inr, ℕ, Bool, true, false, List, length, Result, Ok, Err, IfErr, OnOk, is_ok, refl, sym, ap, ◌∙◌, subst}
use Rattle.std.specs.Prelude.{not, nat_le}
use Rattle.std.specs.Result.{IsErrAnd}
use Rattle.jk_math.specs.Answer.{◌>>=◌, refuse}
use Rattle.jk_math.specs.Memory.{IsMemory}
use Rattle.jk_math.specs.Steps.{bind_then, refuse_then, ok_is}
use Rattle.jk_math.specs.declared.fault.Fault.{Fault}
use Rattle.jk_math.specs.declared.fault.Fault.TheVariants.{Shelf, BadName, NameTaken, Limit, BadParameters}
use Rattle.jk_math.specs.Picture.{Picture}
use Rattle.jk_math.proofs.Laws.{AreBytes}
use Rattle.jk_boxes.specs.Reading.{boxes_at}
use Rattle.jk_params.specs.declared.parameters.Parameters.{Parameters}
use Rattle.jk_params.specs.Profile.{is_profile}
use Rattle.jk_extras.specs.declared.values.Extras.{Extras}
use Rattle.jk_extras.specs.Extras.{is_extras}
use Rattle.jk_code.specs.Written.{written}
use Rattle.jk_window.specs.Indexing.{IndexFields, IsIndexOf, index_at}
use Rattle.jk_window.proofs.IndexLaws.{index_found}
use Rattle.jk_store.specs.Names.{is_good_name}
use Rattle.jk_store.specs.Counting.{Counts}
use Rattle.jk_store.specs.Catalogue.{is_listed, most_entries, image_at, StandsFor, IsEntryOf, stored, Passes}
use Rattle.jk_store.specs.Adding.{judged, judged_with, judged_name, judged_image, is_raw, written_with, file_due, file_due_with, added_due, added_at_once, added_at_once_with}
use Rattle.jk_store.specs.declared.entry.Entry.{Entry}

-- ---- which fault is due

pub added_judged : (entries : List Entry) (name : List ℕ) (file : Result (List ℕ) Fault) → judged_name entries name ≡ Ok tt → added_due entries name file ≡ file
unfolding added_due
added_judged entries name file is = rw is refl

pub added_refused : (entries : List Entry) (name : List ℕ) (file : Result (List ℕ) Fault) (e : Fault) → judged_name entries name ≡ Err e → added_due entries name file ≡ Err e
unfolding added_due
added_refused entries name file e is = rw is refl

-- ---- judged by its name first, an image is judged as it is at once

then_again : {A B C : Type 0} (r : Result A Fault) (f : A → Result B Fault) (g : B → Result C Fault) → ((r >>= f) >>= g) ≡ (r >>= λ x. f x >>= g)
then_again (Ok x) f g = refl
then_again (Err e) f g = refl

pub judged_in_two : (entries : List Entry) (name : List ℕ) (p : Picture) (q : Parameters) → judged entries name p q ≡ (judged_name entries name >>= λ _. judged_image p q)
unfolding judged judged_name judged_image
judged_in_two entries name p q = by_name (is_good_name name) (is_listed entries name) (nat_le most_entries (length entries)) (refuse (not (is_profile q p)) BadParameters >>= λ _. refuse (is_raw q.container) BadParameters)
  where
    by_name : (good listed full : Bool) (rest : Result (Unit {0}) Fault)
        → (refuse (not good) BadName >>= λ _. refuse listed NameTaken >>= λ _. refuse full Limit >>= λ _. rest)
        ≡ ((refuse (not good) BadName >>= λ _. refuse listed NameTaken >>= λ _. refuse full Limit) >>= λ _. rest)
    by_name true true full rest = refl
    by_name true false true rest = refl
    by_name true false false rest = refl
    by_name false listed full rest = refl

pub same_due : (entries : List Entry) (name : List ℕ) (p : Picture) (q : Parameters) → added_due entries name (file_due p q) ≡ added_at_once entries name p q
unfolding added_due file_due added_at_once
same_due entries name p q =
    sym (ap (λ (r : Result (Unit {0}) Fault). r >>= λ _. written p q) (judged_in_two entries name p q) ∙ then_again (judged_name entries name) (λ _. judged_image p q) (λ _. written p q))

pub same_due_with : (entries : List Entry) (name : List ℕ) (p : Picture) (q : Parameters) (e : Extras)
    → added_due entries name (file_due_with p q e) ≡ added_at_once_with entries name p q e
unfolding added_due file_due_with judged_with added_at_once_with
same_due_with entries name p q e =
    let kept : Result (Unit {0}) Fault = refuse (not (is_extras (length p.planes) e)) BadParameters in
    sym (ap (λ (r : Result (Unit {0}) Fault). (r >>= λ _. kept) >>= λ _. written_with p q e) (judged_in_two entries name p q)
    ∙ then_again (judged_name entries name >>= λ _. judged_image p q) (λ _. kept) (λ _. written_with p q e)
    ∙ then_again (judged_name entries name) (λ _. judged_image p q) (λ _. kept >>= λ _. written_with p q e))

-- ---- the index of a file that is one of an image

pub indexed_found : (r : Result IndexFields Fault) → is_ok r ≡ true → (i : IndexFields) × (r ≡ Ok i)
indexed_found (Ok i) is = (i, refl)
indexed_found (Err e) is = absurd (let clash : false ≡ true = is in cc)

pub image_found : (bytes : List ℕ) (i : IndexFields) → AreBytes bytes → image_at bytes ≡ Ok i → IsIndexOf bytes i
unfolding image_at
image_found bytes i fits is =
    bind_then (index_at bytes) _ i is (λ j indexed e.
    bind_then (boxes_at bytes) _ i e (λ place opened e.
    refuse_then (not place.jp2) _ _ i e (λ jp2 e.
    subst (IsIndexOf bytes) (ok_is j i e) (index_found bytes j fits indexed))))

pub entry_stands : (e : Entry) (name file : List ℕ) → AreBytes file → IsEntryOf e name file → StandsFor e (stored name file)
entry_stands e name file fits is = record { name = is.0; digest = is.1; parts = is.2; index = is.3; indexes = image_found file e.index fits is.3 }

-- ---- what is answered

pub passes_counted : {A : Type 0} (r : Result A Fault) (before after : ℕ) → Counts r before after → Passes IsMemory r before after
passes_counted (Ok x) before after h = h.0
passes_counted (Err e) before after (inl memory) = inl (memory.0, memory.1.0)
passes_counted (Err e) before after (inr failed) = inr failed

pub caused : {A : Type 0} (U : Type 0) (r : Result A Fault) (before after : ℕ) → Counts r before after → IfErr r (λ e. e ≡ Shelf → U) → IfErr r (λ e. IsMemory e ⊎ ((e ≡ Shelf) × U))
caused U (Ok x) before after h why = tt
caused U (Err e) before after (inl memory) why = inl memory.0
caused U (Err e) before after (inr failed) why = inr (failed.0, why failed.0)

-- why a file that is due isn't stored
pub cause_placed : {A : Type 0} (due : Result (List ℕ) Fault) (file : List ℕ) → due ≡ Ok file → (W : Fault → Type 0) (r : Result A Fault) → IfErr r (λ e. IsMemory e ⊎ W e)
    → IfErr r (λ e. IsMemory e ⊎ ((due ≡ Err e) ⊎ (((f : List ℕ) × (due ≡ Ok f)) × W e)))
cause_placed due file is W (Ok x) h = tt
cause_placed due file is W (Err e) (inl memory) = inl memory
cause_placed due file is W (Err e) (inr why) = inr (inr ((file, is), why))

-- where a file is due, no fault is
pub not_due : {A : Type 0} (P : Type 0) (due : Result A Fault) (x : A) (e : Fault) → due ≡ Ok x → due ≡ Err e → P
not_due P due x e is other = absurd (let clash = sym is ∙ other in cc)

-- what passes on the fault that is due answers it
pub passed_on : {A B : Type 0} (r : Result A Fault) (x e : Fault) (due : Result B Fault) → IsErrAnd r (λ y. y ≡ x) → due ≡ Err x → due ≡ Err e → r ≡ Err e
passed_on (Err y) x e due h is other = let same : y ≡ x = h in let both = sym is ∙ other in cc
passed_on (Ok a) x e due h is other = absurd h

-- what holds anyway holds of an Ok
pub on_any : {A : Type 0} (r : Result A Fault) (X : Type 0) → X → OnOk r X
on_any (Ok x) X h = h
on_any (Err e) X h = tt
