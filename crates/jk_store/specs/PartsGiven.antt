-- Parts of the file of an entry, as a shelf gives them.
use Rattle.std.specs.Prelude.{◌≡◌, ℕ, ◌+◌, ◌*◌, ◌<◌, min, ◌⊎◌, List, [], ◌∷◌, length, slice_get, Some}
use Rattle.std.specs.List.{AllByRecursion}
use Rattle.std.specs.String.{string_bytes}
use Rattle.jk_math.specs.declared.fault.Fault.{Fault}
use Rattle.jk_math.specs.declared.fault.Fault.TheVariants.{Changed, Shelf}
use Rattle.jk_math.specs.Memory.{IsMemory}
use Rattle.sha2.specs.Sha256.{sha256}
use Rattle.jk_window.specs.declared.view.View.{View}
use Rattle.jk_window.specs.Indexing.{IndexFields}
use Rattle.jk_store.specs.Files.{Files}
use Rattle.jk_store.specs.Names.{file_name}
use Rattle.jk_store.specs.Counting.{last_count}
use Rattle.jk_store.specs.Parts.{part_size, file_part, part_length, part_count, part_digests}
use Rattle.jk_store.specs.Catalogue.{IsCutFrom}
use Rattle.jk_store.specs.declared.entry.Entry.{Entry}

-- the name of an entry's file, and how long the file is
abbrev pub file_of : Entry → List ℕ
file_of e = file_name (string_bytes e.name)

abbrev pub size_of : Entry → ℕ
size_of e = e.index.frame.size

-- a part that was given: its number and its bytes
abbrev pub GivenPart : Type 0
GivenPart = ℕ × List ℕ

-- Bytes pass for part i of an entry's file: they are as long as it, and have its digest.
abbrev pub IsPartOfFile : Entry → ℕ → List ℕ → Type 0
IsPartOfFile e i b = (length b ≡ part_length (size_of e) i) × (slice_get e.parts.items i ≡ Some (sha256 b))

-- A file has these parts.
abbrev pub HasParts : List GivenPart → List ℕ → Type 0
HasParts given file = AllByRecursion (λ g. file_part g.0 file ≡ g.1) given

-- Each of these parts is the file's, if it has the digest of the file's.
abbrev pub AreKnownByDigest : List ℕ → List GivenPart → Type 0
AreKnownByDigest file given = AllByRecursion (λ g. sha256 g.1 ≡ sha256 (file_part g.0 file) → g.1 ≡ file_part g.0 file) given

-- These are the parts of an entry's file.
abbrev pub ArePartsOf : Entry → List GivenPart → Type 0
ArePartsOf e given = AllByRecursion (λ g. IsPartOfFile e g.0 g.1) given

-- The shelf was asked for part i of an entry's file, gave these bytes and left the second state.
abbrev pub GavePart : {S : Type 0} → (gave_at : S → List ℕ → ℕ → ℕ → List ℕ → S → Type 0) → Entry → S → ℕ → List ℕ → S
    → Type 0
GavePart gave_at e old i b new = gave_at old (file_of e) (i * part_size) (part_length (size_of e) i) b new

-- From one state to another the shelf gave these parts of an entry's file in turn, each of which
-- passes for the part.
abbrev pub ReadsParts : {S : Type 0} → (gave_at : S → List ℕ → ℕ → ℕ → List ℕ → S → Type 0) → Entry → S → List GivenPart
    → S → Type 0
ReadsParts gave_at e old [] new = new ≡ old
ReadsParts {S} gave_at e old (g ∷ given) new = (mid : S) × GavePart gave_at e old g.0 g.1 mid × IsPartOfFile e g.0 g.1
    × ReadsParts gave_at e mid given new

-- From one state to another the shelf gave parts of an entry's file, and at last bytes that don't
-- pass for the part that was asked for.
pub record IsOtherPart {S : Type 0} (gave_at : S → List ℕ → ℕ → ℕ → List ℕ → S → Type 0) (e : Entry)
    (old new : S) : Type 0 where
  pub before : List GivenPart
  pub mid : S
  pub reads : ReadsParts gave_at e old before mid
  pub number : ℕ
  pub bytes : List ℕ
  pub there : number < part_count (size_of e)
  pub gave : GavePart gave_at e mid number bytes new
  pub other : IsPartOfFile e number bytes → ⊥

-- Bytes are the file of a window, cut of these parts: of each file that has them, and of which the
-- index is, they are its window.
abbrev pub IsCutOfParts : IndexFields → View → List GivenPart → List ℕ → Type 0
IsCutOfParts i v given reply = (file : List ℕ) → HasParts given file → IsCutFrom i v file reply

-- What is known of a shelf that gave parts of an entry's file, and of one that didn't give a part.
module _ {S : Type 0} (keeps : S → Files → Type 0) (gave_at : S → List ℕ → ℕ → ℕ → List ℕ → S → Type 0) (failed : S → ℕ)
    (e : Entry) where
  -- These parts were read: a file that the shelf keeps under the name, and that is as long as the
  -- entry's, has them.
  pub record PartsRead (old : S) (given : List GivenPart) (new : S) : Type 0 where
    pub reads : ReadsParts gave_at e old given new
    pub kept : (files : Files) → keeps old files → keeps new files
    pub same : (files : Files) (b : List ℕ) → keeps old files → files (file_of e) ≡ Some b → length b ≡ size_of e
        → HasParts given b
    pub counts : failed new ≡ failed old

  -- Why parts were not read: memory was refused; what was given isn't the entry's; or the shelf
  -- failed. It isn't the second, where the shelf keeps the file of which the entry was made.
  pub record PartsRefused (old : S) (x : Fault) (new : S) : Type 0 where
    pub kept : (files : Files) → keeps old files → keeps new files
    pub why : (IsMemory x × (failed new ≡ failed old))
        ⊎ (((x ≡ Changed) × IsOtherPart gave_at e old new × (failed new ≡ failed old))
        ⊎ ((x ≡ Shelf) × (failed new ≡ min (failed old + 1) last_count)))
    pub steady : (files : Files) (b : List ℕ) → keeps old files → files (file_of e) ≡ Some b → length b ≡ size_of e
        → e.parts.items ≡ part_digests b → x ≡ Changed → ⊥
