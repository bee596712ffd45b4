-- A window that is cut of parts: what is known where it is given, and where it is refused.
use Rattle.std.proofs.Common.{◌≡◌, ℕ, ◌⊎◌, inl, inr, List, length, Some, Result, Ok, Err, IfOk, IfErr, OnOk, refl, sym, ap, ◌∙◌, subst}
use Rattle.std.specs.Global.{Vec}
use Rattle.std.specs.Result.{IsErrAnd}
use Rattle.jk_math.specs.declared.fault.Fault.{Fault}
use Rattle.jk_math.specs.declared.fault.Fault.TheVariants.{BadWindow, Changed}
use Rattle.jk_math.specs.Memory.{IsMemory}
use Rattle.jk_window.specs.declared.view.View.{View}
use Rattle.jk_window.specs.Indexing.{IndexFields, IsIndexOf}
use Rattle.jk_window.specs.Cutting.{cut_file}
use Rattle.jk_code.proofs.Laws.{window_meant}
use Rattle.jk_store.specs.Files.{Files}
use Rattle.jk_store.specs.Parts.{part_digests}
use Rattle.jk_store.specs.Catalogue.{IsCutFrom, IsWindowGiven, Passes}
use Rattle.jk_store.specs.PartsGiven.{file_of, size_of, GivenPart, HasParts, IsOtherPart, IsCutOfParts, ReadsParts, PartsRead, PartsRefused}
use Rattle.jk_store.specs.declared.entry.Entry.{Entry}

-- how long a file is that has the index
pub index_size : (bytes : List ℕ) (i : IndexFields) → IsIndexOf bytes i → length bytes ≡ i.frame.size
index_size bytes i is = sym is.frame.size

-- what is cut of a file that has the index means what it is to
pub cut_from : (i : IndexFields) (v : View) (file reply : List ℕ) → ((is : IsIndexOf file i) → cut_file is v ≡ Ok reply) → IsCutFrom i v file reply
cut_from i v file reply cut = record { cut = cut; means = λ is p m. window_meant file i is v reply (cut is) p m }

refused_with : {A : Type 0} (r : Result A Fault) (x : Fault) (P : Fault → Type 0) → r ≡ Err x → IfErr r P → P x
refused_with (Ok a) x P is h = absurd (let clash = is in cc)
refused_with (Err y) x P is h = subst P (let same : y ≡ x = cc in same) h

-- where no plan was made, it is said why
pub refused_given : (r : Result (Vec ℕ) Fault) (x : Fault) (due : Result (List ℕ) Fault) → IsErrAnd r (λ y. y ≡ x) → IsMemory x ⊎ (due ≡ Err x) → IsWindowGiven due r
refused_given (Ok w) x due is cause = absurd is
refused_given (Err y) x due is (inl memory) = λ bad. absurd (subst IsMemory (sym is ∙ bad) memory)
refused_given (Err y) x due is (inr due_is) = λ bad. due_is ∙ ap (λ z. Err z) (sym is ∙ bad)

pub not_changed : (r : Result (Vec ℕ) Fault) (x : Fault) → IsErrAnd r (λ y. y ≡ x) → IsMemory x ⊎ (x ≡ BadWindow) → r ≡ Err Changed → ⊥
not_changed (Ok w) x is cause changed = absurd is
not_changed (Err y) x is (inl memory) changed = subst IsMemory (sym is ∙ (let same : y ≡ Changed = cc in same)) memory
not_changed (Err y) x is (inr bad) changed = let clash : y ≡ Changed = cc in let other = sym clash ∙ is ∙ bad in cc

pub seen_there : {A : Type 0} (r : Result A Fault) (P : Type 0) → P → OnOk r P
seen_there (Ok a) P h = h
seen_there (Err x) P h = tt

-- `text` is what is made of a file
module _ {S : Type 0} (keeps : S → Files → Type 0) (gave_at : S → List ℕ → ℕ → ℕ → List ℕ → S → Type 0) (failed : S → ℕ) (e : Entry) (old new : S) (text : List ℕ → List ℕ) where
  -- It is made of the parts that were read.
  abbrev pub IsMadeOfParts : List ℕ → Type 0
  IsMadeOfParts b = (given : List GivenPart) × PartsRead keeps gave_at failed e old given new × ((f : List ℕ) → HasParts given f → b ≡ text f)

  pub given_parts : (v : View) (r : Result (Vec ℕ) Fault) → IfOk r (λ w. IsMadeOfParts w.items)
      → ((f : List ℕ) (is : IsIndexOf f e.index) → cut_file is v ≡ Ok (text f))
      → IfOk r (λ w. (given : List GivenPart) × ReadsParts gave_at e old given new × IsCutOfParts e.index v given w.items)
  given_parts v (Err x) made exact = tt
  given_parts v (Ok w) made exact =
      (made.0, made.1.reads, λ f has. cut_from e.index v f w.items (λ is. exact f is ∙ ap Ok (sym (made.2 f has))))

  not_bad : (x : Fault) → PartsRefused keeps gave_at failed e old x new → x ≡ BadWindow → ⊥
  not_bad x h bad = elim h.why [
    | inl memory ↦ subst IsMemory bad memory.0
    | inr other ↦ elim other [
      | inl changed ↦ let clash = sym bad ∙ changed.0 in cc
      | inr failure ↦ let clash = sym bad ∙ failure.0 in cc
    ]
  ]

  module _ (r : Result (Vec ℕ) Fault) (made : IfOk r (λ w. IsMadeOfParts w.items)) (refused : IfErr r (λ x. PartsRefused keeps gave_at failed e old x new)) where
    pub never_bad : r ≡ Err BadWindow → ⊥
    never_bad is = not_bad BadWindow (refused_with r BadWindow (λ x. PartsRefused keeps gave_at failed e old x new) is refused) refl

    pub changed_parts : r ≡ Err Changed → IsOtherPart gave_at e old new
    changed_parts is = elim (refused_with r Changed (λ x. PartsRefused keeps gave_at failed e old x new) is refused).why [
      | inl memory ↦ absurd memory.0
      | inr other ↦ elim other [
        | inl changed ↦ changed.1
        | inr failure ↦ absurd (let clash = failure.0 in cc)
      ]
    ]

    pub steady_parts : (files : Files) (b : List ℕ) → keeps old files → files (file_of e) ≡ Some b → length b ≡ size_of e → e.parts.items ≡ part_digests b → r ≡ Err Changed → ⊥
    steady_parts files b k is long digests changed =
        (refused_with r Changed (λ x. PartsRefused keeps gave_at failed e old x new) changed refused).steady files b k is long digests refl

  pub kept_parts : (r : Result (Vec ℕ) Fault) → IfOk r (λ w. IsMadeOfParts w.items) → IfErr r (λ x. PartsRefused keeps gave_at failed e old x new)
      → (files : Files) → keeps old files → keeps new files
  kept_parts (Ok w) made refused = made.1.kept
  kept_parts (Err x) made refused = refused.kept

  pub counts_parts : (r : Result (Vec ℕ) Fault) → IfOk r (λ w. IsMadeOfParts w.items) → IfErr r (λ x. PartsRefused keeps gave_at failed e old x new)
      → Passes (λ x. IsMemory x ⊎ (x ≡ BadWindow) ⊎ (x ≡ Changed)) r (failed old) (failed new)
  counts_parts (Ok w) made refused = made.1.counts
  counts_parts (Err x) made refused = elim refused.why [
    | inl memory ↦ inl (inl memory.0, memory.1)
    | inr other ↦ elim other [
      | inl changed ↦ inl (inr (inr changed.0), changed.2)
      | inr failure ↦ inr failure
    ]
  ]

  -- of a file that the shelf keeps
  pub same_parts : (r : Result (Vec ℕ) Fault) → IfOk r (λ w. IsMadeOfParts w.items) → IfErr r (λ x. PartsRefused keeps gave_at failed e old x new)
      → (files : Files) (b : List ℕ) (due : Result (List ℕ) Fault) → keeps old files → files (file_of e) ≡ Some b → length b ≡ size_of e → due ≡ Ok (text b) → IsWindowGiven due r
  same_parts (Ok w) made refused files b due k is long exact = exact ∙ ap Ok (sym (made.2 b (made.1.same files b k is long)))
  same_parts (Err x) made refused files b due k is long exact = λ bad. absurd (not_bad x refused bad)
