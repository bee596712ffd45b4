-- Images as a server shows them: those of an archive.
use Rattle.std.specs.Prelude.{◌≡◌, ℕ, ◌+◌, ◌-◌, ◌⊎◌, min, List, [], ◌∷◌, ◌++◌, Option, Some, None, Result, Ok, Err}
use Rattle.std.specs.List.{AllByRecursion, AllZip}
use Rattle.std.specs.Fmt.{decimal}
use Rattle.std.specs.String.{string_bytes}
use Rattle.jk_math.specs.declared.fault.Fault.{Fault}
use Rattle.jk_marks.specs.Siz.{tile_count}
use Rattle.sha2.specs.Sha256.{sha256}
use Rattle.jk_window.specs.declared.view.View.{View}
use Rattle.jk_window.specs.Indexing.{IsIndexOf}
use Rattle.jk_params.specs.Levels.{least_levels}
use Rattle.jk_window.specs.Cutting.{cut_file}
use Rattle.jk_catalogue.specs.Images.{Image}
use Rattle.jk_store.specs.Files.{Files}
use Rattle.jk_store.specs.Names.{file_name}
use Rattle.jk_store.specs.Parts.{part_digests}
use Rattle.jk_store.specs.Counting.{last_count}
use Rattle.jk_store.specs.Catalogue.{entry_of, IsFileOf, IsOtherFile}
use Rattle.jk_store.specs.PartsGiven.{GivenPart, ArePartsOf, ReadsParts, IsOtherPart, IsCutOfParts}
use Rattle.jk_store.specs.declared.entry.Entry.{Entry}

-- a space and a number
abbrev pub number_text : ℕ → List ℕ
number_text n = 32 ∷ decimal n

-- the line of an image: its name, its width and height, its components, its depth, and how often it
-- can be halved
abbrev pub line_of : Entry → List ℕ
line_of e =
    let h = e.index.headers in
    string_bytes e.name
    ++ (number_text (h.siz.x1 - h.siz.x0)
    ++ (number_text (h.siz.y1 - h.siz.y0)
    ++ (number_text h.siz.components
    ++ (number_text h.siz.depth ++ (number_text (least_levels h.tiles (tile_count h.siz)) ++ (10 ∷ []))))))

-- what is given, if it isn't refused
abbrev pub given_of : {A : Type 0} → Result A Fault → Option A
given_of (Ok v) = Some v
given_of (Err e) = None

-- An entry shows the image of which it was made.
pub record ShowsImage (e : Entry) (i : Image) : Type 0 where
  pub name : i.name ≡ string_bytes e.name
  pub line : i.line ≡ line_of e
  pub digest : e.digest ≡ sha256 i.file
  pub parts : e.parts.items ≡ part_digests i.file
  pub index : IsIndexOf i.file e.index
  pub cut : (asked : View) → i.cut asked ≡ given_of (cut_file index asked)

-- Entries show images, each its own, in order.
abbrev pub ShowImages : List Entry → List Image → Type 0
ShowImages entries images = AllZip ShowsImage entries images

-- The shelf keeps the files of images.
pub record AreKept {S : Type 0} (keeps : S → Files → Type 0) (shelf : S) (images : List Image) : Type 0 where
  pub files : Files
  pub keeps_files : keeps shelf files
  pub each : AllByRecursion (λ i. files (file_name i.name) ≡ Some i.file) images

-- Entries over a shelf stand for images: each shows its image, and the shelf keeps their files.
pub record StandForImages {S : Type 0} (keeps : S → Files → Type 0) (entries : List Entry) (shelf : S)
    (images : List Image) : Type 0 where
  pub shows : ShowImages entries images
  pub kept : AreKept keeps shelf images

-- Between two states a failure of the shelf was counted; or the shelf gave under the name of the
-- entry a file that has another digest, or parts, of which the last has another digest or length.
abbrev pub Broke : {S : Type 0} → (S → ℕ) → (gave : S → List ℕ → List ℕ → S → Type 0)
    → (gave_at : S → List ℕ → ℕ → ℕ → List ℕ → S → Type 0)
    → List Entry → S → List ℕ → S → Type 0
Broke failed gave gave_at entries old n new =
    (failed new ≡ min (failed old + 1) last_count)
    ⊎ ((e : Entry) × (entry_of entries n ≡ Some e) × (IsOtherFile gave e old new ⊎ IsOtherPart gave_at e old new))

-- Between two states the shelf gave this file under the name of the entry, and it has the entry's
-- digest.
abbrev pub ReadsFile : {S : Type 0} → (S → List ℕ → List ℕ → S → Type 0) → List Entry → S → List ℕ → List ℕ → S → Type 0
ReadsFile gave entries old n file new = (e : Entry) × (entry_of entries n ≡ Some e) × IsFileOf gave e old file new

-- Between two states the shelf gave parts of the file of the entry of a name, each with its digest,
-- and the window is cut of them.
abbrev pub Cuts : {S : Type 0} → (gave_at : S → List ℕ → ℕ → ℕ → List ℕ → S → Type 0) → List Entry → S → List ℕ → View
    → S → List ℕ → Type 0
Cuts gave_at entries old n asked new cut =
    (e : Entry) × (given : List GivenPart) × (entry_of entries n ≡ Some e) × ReadsParts gave_at e old given new
    × IsCutOfParts e.index asked given cut

-- Such a cut may have been made for the entry of a name: of some parts with the digests of the
-- entry's.
abbrev pub MayBeMade : List Entry → List ℕ → View → List ℕ → Type 0
MayBeMade entries n asked cut =
    (e : Entry) × (given : List GivenPart) × (entry_of entries n ≡ Some e) × ArePartsOf e given
    × IsCutOfParts e.index asked given cut
