-- What an archive shows where a file that stands on its shelf already is listed.
use Rattle.std.proofs.Common.{◌≡◌, ◌⊎◌, inl, inr, ℕ, List, [], ◌∷◌, ◌++◌, Some, Result, Ok, Err, IfOk, IfErr, refl, ap, sym, ◌∙◌, subst}
use Rattle.std.specs.List.{AllByRecursion}
use Rattle.jk_math.specs.Memory.{IsMemory}
use Rattle.jk_math.specs.declared.fault.Fault.{Fault}
use Rattle.jk_catalogue.specs.Images.{Image}
use Rattle.jk_store.specs.Files.{Files}
use Rattle.jk_store.specs.Names.{file_name}
use Rattle.jk_store.specs.Showing.{AreKept}

each_more : (files : Files) (images : List Image) (i : Image) → AllByRecursion (λ (j : Image). files (file_name j.name) ≡ Some j.file) images → files (file_name i.name) ≡ Some i.file
    → AllByRecursion (λ (j : Image). files (file_name j.name) ≡ Some j.file) (images ++ i ∷ [])
each_more files [] i each here = (here, tt)
each_more files (j ∷ images) i each here = (each.0, each_more files images i each.1 here)

pub kept_beside : {S : Type 0} (keeps : S → Files → Type 0) (old new : S) (images : List Image) (name file : List ℕ) → new ≡ old → (kept : AreKept keeps old images)
    → kept.files (file_name name) ≡ Some file → (i : Image) → i.name ≡ name → i.file ≡ file → AreKept keeps new (images ++ i ∷ [])
kept_beside keeps old new images name file same kept here i named filed = record {
  files = kept.files;
  keeps_files = subst (λ s. keeps s kept.files) (sym same) kept.keeps_files;
  each = each_more kept.files images i kept.each (ap (λ n. kept.files (file_name n)) named ∙ here ∙ ap Some (sym filed));
}

pub cause_listed : {A : Type 0} (D : Fault → Type 0) (r : Result A Fault) → IfErr r IsMemory → IfErr r (λ e. IsMemory e ⊎ D e)
cause_listed D (Ok x) h = tt
cause_listed D (Err e) memory = inl memory
