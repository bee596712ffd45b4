-- What the entries of an archive show after one more, and what its shelf keeps.
use Rattle.std.proofs.Common.{◌≡◌, ℕ, ◌∷◌, ◌++◌, [], Bool, false, cond, List, map, Some, refl, sym, ap, ◌∙◌, subst}
use Rattle.std.specs.Str.{bytes_eq}
use Rattle.std.specs.String.{string_bytes}
use Rattle.std.specs.List.{AllByRecursion}
use Rattle.jk_catalogue.specs.Images.{Image}
use Rattle.jk_store.specs.declared.entry.Entry.{Entry}
use Rattle.jk_store.specs.Files.{Files, with_file, without}
use Rattle.jk_store.specs.Names.{file_name, temporary_name}
use Rattle.jk_store.specs.Catalogue.{is_listed, StandsFor, stored}
use Rattle.jk_store.specs.Showing.{ShowsImage, ShowImages, AreKept}
use Rattle.jk_store.proofs.AddLaws.{map_more, neither, differs, at_front, names_apart, files_apart}
use Rattle.jk_store.proofs.ShowingLaws.{image_for}

show_more : (entries : List Entry) (images : List Image) (e : Entry) (i : Image) → ShowImages entries images → ShowsImage e i → ShowImages (entries ++ e ∷ []) (images ++ i ∷ [])
show_more [] [] e i shows here = (here, tt)
show_more [] (j ∷ images) e i shows here = absurd shows
show_more (x ∷ entries) [] e i shows here = absurd shows
show_more (x ∷ entries) (j ∷ images) e i shows here = (shows.0, show_more entries images e i shows.1 here)

-- the image that is added
abbrev pub added : (e : Entry) (name file : List ℕ) → StandsFor e (stored name file) → Image
added e name file is = image_for e file is.indexes

shows_added : (e : Entry) (name file : List ℕ) → (is : StandsFor e (stored name file)) → ShowsImage e (added e name file is)
shows_added e name file is = record { name = refl; line = refl; digest = is.digest; parts = is.parts; index = is.indexes; cut = λ asked. refl }

pub archive_shows : {X : Type 0} (value : X → Entry) (old mid new : List X) (x : X) (y : Entry) (name file : List ℕ) (images : List Image) → new ≡ mid ++ x ∷ [] → mid ≡ old → value x ≡ y
    → (is : StandsFor y (stored name file)) → ShowImages (map value old) images → ShowImages (map value new) (images ++ added y name file is ∷ [])
archive_shows value old mid new x y name file images pushed same own is shows =
    let all : map value new ≡ map value old ++ y ∷ [] = ap (map value) (pushed ∙ ap (λ l. l ++ x ∷ []) same) ∙ map_more value old x ∙ ap (λ e. map value old ++ e ∷ []) own in
    subst (λ es. ShowImages es (images ++ added y name file is ∷ [])) (sym all) (show_more (map value old) images y (added y name file is) shows (shows_added y name file is))

-- a name that isn't listed is no image's
fresh_images : (entries : List Entry) (images : List Image) (name : List ℕ) → ShowImages entries images → is_listed entries name ≡ false → AllByRecursion (λ (j : Image). bytes_eq name j.name ≡ false) images
fresh_images [] [] name shows none = tt
fresh_images [] (j ∷ images) name shows none = absurd shows
fresh_images (x ∷ entries) [] name shows none = absurd shows
fresh_images (x ∷ entries) (j ∷ images) name shows none =
    let parts = neither (bytes_eq (string_bytes x.name) name) (is_listed entries name) none in
    (ap (bytes_eq name) shows.0.name ∙ differs (string_bytes x.name) name parts.0, fresh_images entries images name shows.1 parts.1)

apart_from : {A : Type 0} (b : Bool) (u v : A) → b ≡ false → cond b u v ≡ v
apart_from b u v other = ap (λ x. cond x u v) other

kept_more : (name file : List ℕ) (files : Files) (images : List Image) → AllByRecursion (λ (j : Image). bytes_eq name j.name ≡ false) images
    → AllByRecursion (λ (j : Image). files (file_name j.name) ≡ Some j.file) images
    → (i : Image) → i.name ≡ name → i.file ≡ file
    → AllByRecursion (λ (j : Image). with_file (file_name name) file (without (temporary_name name) files) (file_name j.name) ≡ Some j.file) (images ++ i ∷ [])
kept_more name file files [] fresh each i named filed =
    (ap (λ n. with_file (file_name name) file (without (temporary_name name) files) (file_name n)) named ∙ at_front (file_name name) file (without (temporary_name name) files) ∙ ap Some (sym filed), tt)
kept_more name file files (j ∷ images) fresh each i named filed = (
  apart_from (bytes_eq (file_name name) (file_name j.name)) _ _ (files_apart name j.name fresh.0)
      ∙ apart_from (bytes_eq (temporary_name name) (file_name j.name)) _ _ (names_apart name j.name)
      ∙ each.0,
  kept_more name file files images fresh.1 each.1 i named filed,
)

pub archive_keeps : {S : Type 0} (keeps : S → Files → Type 0) (old new : S) (entries : List Entry) (images : List Image) (name file : List ℕ) → ShowImages entries images → is_listed entries name ≡ false
    → (kept : AreKept keeps old images) → keeps new (with_file (file_name name) file (without (temporary_name name) kept.files)) → (i : Image) → i.name ≡ name → i.file ≡ file → AreKept keeps new (images ++ i ∷ [])
archive_keeps keeps old new entries images name file shows none kept now i named filed = record {
  files = with_file (file_name name) file (without (temporary_name name) kept.files);
  keeps_files = now;
  each = kept_more name file kept.files images (fresh_images entries images name shows none) kept.each i named filed;
}
