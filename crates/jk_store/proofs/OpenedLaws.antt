-- What holds where a shelf listed its files, and those of its images were read.
use Rattle.std.proofs.Common.{◌≡◌, ◌⊎◌, ℕ, ◌+◌, min, true, List, All, Some, Result, Ok, IfErr, inl, inr, sym, ◌∙◌}
use Rattle.std.specs.Result.{IsErrAnd}
use Rattle.jk_math.specs.Memory.{IsMemory}
use Rattle.jk_math.specs.declared.fault.Fault.{Fault}
use Rattle.jk_math.specs.declared.fault.Fault.TheVariants.{Limit, Shelf}
use Rattle.jk_window.specs.Indexing.{IndexFields}
use Rattle.jk_catalogue.specs.Images.{Image, names_of}
use Rattle.jk_catalogue.specs.Images.{IsPathSegment}
use Rattle.jk_store.specs.declared.entry.Entry.{Entry}
use Rattle.jk_store.specs.declared.skipped.Skipped.{Skipped}
use Rattle.jk_store.specs.Counting.{last_count}
use Rattle.jk_store.specs.Files.{Files, AreIn, is_among}
use Rattle.jk_store.specs.Names.{file_name, is_good_name}
use Rattle.jk_store.specs.Catalogue.{StandsFor, StandIn, stored, image_at, are_named, entry_of}
use Rattle.jk_store.specs.Showing.{ShowImages, StandForImages}
use Rattle.jk_store.specs.Opening.{GivesFile, Opened, AreNamesIn, ReadsPast, ReadsUpTo, OpensAs, OpensPast, OpensUpTo}
use Rattle.jk_store.proofs.OpenLaws.{opened_as, past_as, named, good_image, image_listed, found, opened_stands, opened_each, up_to_as, fault_is}
use Rattle.jk_store.proofs.ShowingLaws.{stands_shown, each_shown}

module _ {S : Type 0} (keeps : S → Files → Type 0) (gave : S → List ℕ → List ℕ → S → Type 0) (lists : S → List (List ℕ) → S → Type 0) (files names : List (List ℕ)) (old mid : S)
    (listed : lists old files mid) (are : AreNamesIn files names) where
  module _ (entries : List Entry) (skipped : List Skipped) (new : S) (opened : Opened (GivesFile keeps gave) names mid entries skipped new) where
    pub are_so_named : are_named entries ≡ true
    are_so_named = named (GivesFile keeps gave) names mid entries skipped new opened are.ordered (λ m among. good_image m files (sym (are.all m) ∙ among))

    pub opens_as : OpensAs lists gave old entries skipped new
    opens_as = (files, names, mid, listed, are, opened_as (GivesFile keeps gave) gave (λ s n b t h. h.given) names mid entries skipped new opened)

    pub is_found : (all : Files) (n b : List ℕ) (i : IndexFields) → keeps mid all → is_good_name n ≡ true → all (file_name n) ≡ Some b → image_at b ≡ Ok i → is_among (file_name n) files ≡ true
        → (e : Entry) × (entry_of entries n ≡ Some e) × StandsFor e (stored n b)
    is_found all n b i kept good there image among =
        found keeps gave all n b i there image names mid entries skipped new opened kept (are.all n ∙ (image_listed n files good ∙ among))

    pub stand : (all : Files) → keeps mid all → (more : Files) × keeps new more × AreIn all more × StandIn more entries
    stand all kept = opened_stands keeps gave names all mid entries skipped new opened kept

    pub show : (images : List Image) × ShowImages entries images × All IsPathSegment (names_of images)
    show = each_shown entries (opened_each (GivesFile keeps gave) names mid entries skipped new opened) are_so_named

    pub stand_shown : (all : Files) → keeps mid all → (images : List Image) × StandForImages keeps entries new images × All IsPathSegment (names_of images)
    stand_shown all kept =
        let stands = stand all kept in
        stands_shown keeps new stands.0 entries stands.1 stands.3 are_so_named

  -- why they weren't read
  pub unopened : {B : Type 0} (unlisted : S → S → Type 0) (unread : S → List ℕ → S → Type 0) (e : Fault) (before after : ℕ) (r : Result B Fault) → IsErrAnd r (λ d. d ≡ e)
      → ((IsMemory e ⊎ (e ≡ Limit)) × (after ≡ before)) ⊎ ((e ≡ Shelf) × (after ≡ min (before + 1) last_count)) → (e ≡ Limit → ReadsPast (GivesFile keeps gave) names mid)
      → (e ≡ Shelf → ReadsUpTo (GivesFile keeps gave) unread names mid)
      → IfErr r (λ d. IsMemory d ⊎ ((d ≡ Shelf) × OpensUpTo lists unlisted gave unread old) ⊎ ((d ≡ Limit) × OpensPast lists gave old))
  unopened unlisted unread e before after r is counts full cause = fault_is r e is _ (elim counts [
    | inl stays ↦ elim stays.0 [
      | inl memory ↦ inl memory
      | inr limit ↦ inr (inr (limit, (files, names, mid, listed, are, past_as (GivesFile keeps gave) gave (λ s n b t h. h.given) names mid (full limit))))
    ]
    | inr failed ↦ inr (inl (failed.0, inr (files, names, mid, listed, are, up_to_as (GivesFile keeps gave) gave unread (λ s n b t h. h.given) names mid (cause failed.0))))
  ])
