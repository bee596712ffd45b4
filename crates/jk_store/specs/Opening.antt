-- What opening an archive makes of the files of a shelf.
use Rattle.std.specs.Prelude.{◌≡◌, ℕ, ◌<◌, ◌⊎◌, List, [], ◌∷◌, ◌++◌, length, Some, Ok, Err}
use Rattle.std.specs.List.Sorted.{IsStrictlySortedBy}
use Rattle.std.specs.Ordering.{nat_cmp}
use Rattle.std.specs.Cmp.Lexicographic.{slice_cmp}
use Rattle.std.specs.String.{string_bytes}
use Rattle.jk_store.specs.Files.{Files, with_file, is_among}
use Rattle.jk_store.specs.Names.{file_name, is_image}
use Rattle.jk_window.specs.Indexing.{IsIndexOf}
use Rattle.jk_store.specs.Parts.{part_digests}
use Rattle.jk_store.specs.Catalogue.{StandsFor, Stored, stored, image_at, most_entries}
use Rattle.jk_store.specs.Digesting.{entry_due}
use Rattle.jk_store.specs.declared.entry.Entry.{Entry}
use Rattle.jk_store.specs.declared.skipped.Skipped.{Skipped}
use Rattle.jk_store.specs.declared.opening.NamedFile.{NamedFile}
use Rattle.jk_store.specs.declared.opening.Seen.{Seen}
use Rattle.jk_store.specs.declared.opening.Seen.TheVariants.{ImageFile, OtherFile}
use Rattle.jk_store.specs.declared.opening.Looked.{Looked}
use Rattle.jk_store.specs.declared.opening.Looked.TheVariants.{Due, Passed}

-- The bytes under a name were skipped.
pub record IsSkippedOf (n bytes : List ℕ) (k : Skipped) : Type 0 where
  pub name : string_bytes k.name ≡ n
  pub fault : image_at bytes ≡ Err k.fault

abbrev pub IsLookedOf : List ℕ → List ℕ → Looked → Type 0
IsLookedOf name bytes (Due f) = StandsFor (entry_due f) (stored name bytes)
IsLookedOf name bytes (Passed k) = IsSkippedOf name bytes k

-- What bytes are: the file of an image, with this index and these digests of its parts; or another.
abbrev pub IsSeenOf : List ℕ → Seen → Type 0
IsSeenOf bytes (ImageFile index parts) = (image_at bytes ≡ Ok index) × IsIndexOf bytes index
    × (parts.items ≡ part_digests bytes)
IsSeenOf bytes (OtherFile fault) = image_at bytes ≡ Err fault

-- a file as it was read
abbrev pub stored_file : NamedFile → Stored
stored_file f = stored (string_bytes f.name) f.bytes.items

-- There is an entry that stands for a file, or it is skipped.
abbrev pub CanBeMade : Stored → Type 0
CanBeMade f = ((e : Entry) × StandsFor e f) ⊎ ((k : Skipped) × IsSkippedOf f.name f.file k)

-- The shelf gave these bytes under a name. A file that it keeps is what it gives; and it keeps what
-- it kept and what it gave.
pub record GivesFile {S : Type 0} (keeps : S → Files → Type 0) (gave : S → List ℕ → List ℕ → S → Type 0) (old : S)
    (n bytes : List ℕ) (new : S) : Type 0 where
  pub given : gave old n bytes new
  pub same : (files : Files) (b : List ℕ) → keeps old files → files n ≡ Some b → bytes ≡ b
  pub kept : (files : Files) → keeps old files → keeps new files
  pub held : (files : Files) → keeps old files → keeps new (with_file n bytes files)

-- From one state of the shelf to another the files of these names were read in turn; of each there
-- is an entry, or it was skipped.
abbrev pub Opened : {S : Type 0} → (S → List ℕ → List ℕ → S → Type 0) → List (List ℕ) → S → List Entry → List Skipped
    → S → Type 0
Opened gave [] old entries skipped new = (entries ≡ []) × (skipped ≡ []) × (new ≡ old)
Opened {S} gave (n ∷ names) old entries skipped new = (bytes : List ℕ) × (mid : S) × gave old (file_name n) bytes mid
    × (((e : Entry) × (more : List Entry) × StandsFor e (stored n bytes) × (entries ≡ e ∷ more)
    × Opened gave names mid more skipped new)
    ⊎ ((k : Skipped) × (more : List Skipped) × IsSkippedOf n bytes k × (skipped ≡ k ∷ more)
    × Opened gave names mid entries more new))

-- One file more: it is listed, or skipped.
abbrev pub Enters : List ℕ → List ℕ → List Entry → List Entry → List Skipped → List Skipped → Type 0
Enters n bytes old new passed skipped =
    ((e : Entry) × StandsFor e (stored n bytes) × (new ≡ old ++ e ∷ []) × (skipped ≡ passed))
    ⊎ ((k : Skipped) × IsSkippedOf n bytes k × (skipped ≡ passed ++ k ∷ []) × (new ≡ old))

-- The names of the images among files, each once, in the order of their bytes.
pub record AreNamesIn (files names : List (List ℕ)) : Type 0 where
  pub ordered : IsStrictlySortedBy (slice_cmp nat_cmp) names
  pub all : (n : List ℕ) → is_among n names ≡ is_image n files

-- The files of a beginning of these names have more images than an archive may have.
abbrev pub ReadsPast : {S : Type 0} → (S → List ℕ → List ℕ → S → Type 0) → List (List ℕ) → S → Type 0
ReadsPast {S} gave names old = (front rest : List (List ℕ)) × (entries : List Entry) × (skipped : List Skipped)
    × (new : S)
    × (names ≡ front ++ rest) × Opened gave front old entries skipped new × (most_entries < length entries)

-- After the files of a beginning of these names were read, the next can't be read.
abbrev pub ReadsUpTo : {S : Type 0} → (S → List ℕ → List ℕ → S → Type 0) → (S → List ℕ → S → Type 0) → List (List ℕ) → S
    → Type 0
ReadsUpTo {S} gave unread names old = (front : List (List ℕ)) × (n : List ℕ) × (rest : List (List ℕ))
    × (entries : List Entry) × (skipped : List Skipped) × (mid new : S)
    × (names ≡ front ++ n ∷ rest) × Opened gave front old entries skipped mid × unread mid (file_name n) new

-- The shelf listed its files, and then those of its images were read.
abbrev pub OpensAs : {S : Type 0} → (S → List (List ℕ) → S → Type 0) → (S → List ℕ → List ℕ → S → Type 0) → S
    → List Entry → List Skipped → S → Type 0
OpensAs {S} lists gave old entries skipped new = (files : List (List ℕ)) × (names : List (List ℕ)) × (mid : S)
    × lists old files mid × AreNamesIn files names × Opened gave names mid entries skipped new

-- The shelf listed its files, and the images of a beginning of them are more than an archive may
-- have.
abbrev pub OpensPast : {S : Type 0} → (S → List (List ℕ) → S → Type 0) → (S → List ℕ → List ℕ → S → Type 0) → S → Type 0
OpensPast {S} lists gave old = (files : List (List ℕ)) × (names : List (List ℕ)) × (mid : S)
    × lists old files mid × AreNamesIn files names × ReadsPast gave names mid

-- The shelf can't list its files, or one of the images among them can't be read.
abbrev pub OpensUpTo : {S : Type 0} → (S → List (List ℕ) → S → Type 0) → (S → S → Type 0)
    → (S → List ℕ → List ℕ → S → Type 0) → (S → List ℕ → S → Type 0) → S → Type 0
OpensUpTo {S} lists unlisted gave unread old = ((new : S) × unlisted old new)
    ⊎ ((files : List (List ℕ)) × (names : List (List ℕ)) × (mid : S) × lists old files mid × AreNamesIn files names
    × ReadsUpTo gave unread names mid)
