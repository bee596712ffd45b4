-- What an addition answers by the file that is due, where it put that file.
use Rattle.std.proofs.Common.{◌≡◌, ◌⊎◌, ℕ, List, Result, Ok, Err, IfOk, IfErr, OnOk, inl, inr, sym, ap, ◌∙◌, subst}
use Rattle.jk_math.specs.Memory.{IsMemory}
use Rattle.jk_math.specs.declared.fault.Fault.{Fault}
use Rattle.jk_math.specs.declared.fault.Fault.TheVariants.{Shelf}
use Rattle.jk_math.specs.Steps.{ok_is}
use Rattle.jk_catalogue.specs.Images.{Image}
use Rattle.jk_store.specs.Files.{Files, with_file, without}
use Rattle.jk_store.specs.Adding.{IsLeftByAdd}
use Rattle.jk_store.specs.Catalogue.{StandsFor, stored, Passes}
use Rattle.jk_store.specs.declared.entry.Entry.{Entry}

module _ (due : Result (List ℕ) Fault) (file : List ℕ) (is : due ≡ Ok file) where
  pub stands_due : {A : Type 0} (value : A → Entry) (name : List ℕ) (r : Result A Fault) → IfOk r (λ e. StandsFor (value e) (stored name file))
      → IfOk r (λ e. (f : List ℕ) × (due ≡ Ok f) × StandsFor (value e) (stored name f))
  stands_due value name (Ok e) stands = (file, is, stands)
  stands_due value name (Err e) stands = tt

  pub holds_due : {A S : Type 0} (keeps : S → Files → Type 0) (new : S) (own temporary : List ℕ) (files : Files) (r : Result A Fault)
      → OnOk r (keeps new (with_file own file (without temporary files))) → (f : List ℕ) → due ≡ Ok f → OnOk r (keeps new (with_file own f (without temporary files)))
  holds_due keeps new own temporary files r held f again =
      subst (λ b. OnOk r (keeps new (with_file own b (without temporary files)))) (ok_is file f (sym is ∙ again)) held

  pub image_due : {A : Type 0} (name : List ℕ) (Q : Image → Type 0) (r : Result A Fault) → IfOk r (λ e. (i : Image) × Q i × (i.name ≡ name) × (i.file ≡ file))
      → IfOk r (λ e. (i : Image) × Q i × (i.name ≡ name) × (due ≡ Ok i.file))
  image_due name Q (Ok e) h = (h.0, h.1, h.2, is ∙ ap Ok (sym h.3))
  image_due name Q (Err e) h = tt

  pub left_due : {A S : Type 0} (keeps : S → Files → Type 0) (new : S) (own temporary : List ℕ) (files : Files) (r : Result A Fault)
      → IfErr r (λ e. (left : Files) × keeps new left × IsLeftByAdd temporary own (Ok file) e files left) → IfErr r (λ e. (left : Files) × keeps new left × IsLeftByAdd temporary own due e files left)
  left_due keeps new own temporary files r left = subst (λ d. IfErr r (λ e. (left : Files) × keeps new left × IsLeftByAdd temporary own d e files left)) (sym is) left

  pub cause_due : {A : Type 0} (J : Fault → Type 0) (U : Type 0) (r : Result A Fault) → IfErr r (λ e. IsMemory e ⊎ ((e ≡ Shelf) × U))
      → IfErr r (λ e. IsMemory e ⊎ (J e ⊎ ((due ≡ Err e) ⊎ ((e ≡ Shelf) × ((f : List ℕ) × (due ≡ Ok f)) × U))))
  cause_due J U (Ok x) h = tt
  cause_due J U (Err e) (inl memory) = inl memory
  cause_due J U (Err e) (inr failed) = inr (inr (inr (failed.0, (file, is), failed.1)))

  pub cause_placed_due : {A : Type 0} (J : Fault → Type 0) (W : Fault → Type 0) (r : Result A Fault) → IfErr r (λ e. IsMemory e ⊎ W e)
      → IfErr r (λ e. IsMemory e ⊎ (J e ⊎ ((due ≡ Err e) ⊎ (((f : List ℕ) × (due ≡ Ok f)) × W e))))
  cause_placed_due J W (Ok x) h = tt
  cause_placed_due J W (Err e) (inl memory) = inl memory
  cause_placed_due J W (Err e) (inr why) = inr (inr (inr ((file, is), why)))

pub passes_too : {A : Type 0} (May More : Fault → Type 0) (r : Result A Fault) (before after : ℕ) → Passes May r before after → Passes (λ e. May e ⊎ More e) r before after
passes_too May More (Ok x) before after h = h
passes_too May More (Err e) before after (inl may) = inl (inl may.0, may.1)
passes_too May More (Err e) before after (inr failed) = inr failed
