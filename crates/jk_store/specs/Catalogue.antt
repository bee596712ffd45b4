-- What the entries of an archive stand for.
use Rattle.std.specs.Prelude.{◌≡◌, ℕ, ◌+◌, ◌≤◌, Bool, true, false, not, ◌&&◌, ◌||◌, cond, min, ◌⊎◌, List, [], ◌∷◌}
use Rattle.std.specs.Prelude.{length, Option, Some, None, Result, Ok, Err}
use Rattle.std.specs.Global.{Vec}
use Rattle.std.specs.List.{AllByRecursion}
use Rattle.std.specs.Str.{bytes_eq}
use Rattle.std.specs.String.{string_bytes}
use Rattle.jk_math.specs.Answer.{◌>>=◌, refuse}
use Rattle.jk_math.specs.declared.fault.Fault.{Fault}
use Rattle.jk_math.specs.declared.fault.Fault.TheVariants.{BadWindow, Shelf, BadBox}
use Rattle.jk_math.specs.Picture.{Picture}
use Rattle.sha2.specs.Sha256.{sha256}
use Rattle.jk_boxes.specs.Reading.{boxes_at}
use Rattle.jk_window.specs.declared.view.View.{View}
use Rattle.jk_window.specs.Indexing.{IndexFields, IsIndexOf, index_at}
use Rattle.jk_window.specs.Cutting.{cut_file}
use Rattle.jk_code.specs.Meaning.{MeansLayers}
use Rattle.jk_code.specs.Windows.{IsWindowOf}
use Rattle.jk_store.specs.Files.{Files}
use Rattle.jk_store.specs.Names.{is_good_name, file_name}
use Rattle.jk_store.specs.Parts.{part_count, part_digests}
use Rattle.jk_store.specs.Counting.{last_count}
use Rattle.jk_store.specs.declared.entry.Entry.{Entry}

-- whether an entry has that name
abbrev pub is_listed : List Entry → List ℕ → Bool
is_listed [] n = false
is_listed (e ∷ entries) n = bytes_eq (string_bytes e.name) n || is_listed entries n

-- Names are good, and none stands twice.
abbrev pub are_named : List Entry → Bool
are_named [] = true
are_named (e ∷ entries) = is_good_name (string_bytes e.name) && not (is_listed entries (string_bytes e.name))
    && are_named entries

-- how many images an archive has at most
abbrev pub most_entries : ℕ
most_entries = 4096

-- Entries of an archive.
pub record AreEntries (entries : List Entry) : Type 0 where
  pub named : are_named entries ≡ true
  pub few : length entries ≤ most_entries

-- an image's name and its file
pub record Stored : Type 0 where
  pub name : List ℕ
  pub file : List ℕ

abbrev pub stored : List ℕ → List ℕ → Stored
stored name file = record { name = name; file = file }

-- the index of a JP2 file, or the first fault; of a bare codestream it is BadBox
unfoldable pub image_at : List ℕ → Result IndexFields Fault
image_at bytes = do
  i ← index_at bytes
  place ← boxes_at bytes
  _ ← refuse (not place.jp2) BadBox
  Ok i

-- An entry was made of this JP2 file.
pub record StandsFor (e : Entry) (s : Stored) : Type 0 where
  pub name : string_bytes e.name ≡ s.name
  pub digest : e.digest ≡ sha256 s.file
  pub parts : e.parts.items ≡ part_digests s.file
  pub index : image_at s.file ≡ Ok e.index
  pub indexes : IsIndexOf s.file e.index

-- An entry has this name, and of this JP2 file the digest, those of its parts, and the index.
abbrev pub IsEntryOf : Entry → List ℕ → List ℕ → Type 0
IsEntryOf e name file = (string_bytes e.name ≡ name) × (e.digest ≡ sha256 file)
    × (e.parts.items ≡ part_digests file) × (image_at file ≡ Ok e.index)

-- Each entry stands for the file that has its name among these.
abbrev pub StandIn : Files → List Entry → Type 0
StandIn files entries =
    AllByRecursion
    (λ e. (file : List ℕ) × (files (file_name (string_bytes e.name)) ≡ Some file)
    × StandsFor e (stored (string_bytes e.name) file)) entries

-- the entry of a name, if there is one
abbrev pub entry_of : List Entry → List ℕ → Option Entry
entry_of [] n = None
entry_of (e ∷ entries) n = cond (bytes_eq (string_bytes e.name) n) (Some e) (entry_of entries n)

-- The shelf gave a file under the name of the entry, and the file has its digest.
abbrev pub IsFileOf : {S : Type 0} → (S → List ℕ → List ℕ → S → Type 0) → Entry → S → List ℕ → S → Type 0
IsFileOf gave e old file new = gave old (file_name (string_bytes e.name)) file new × (sha256 file ≡ e.digest)

-- The shelf gave a file under the name of the entry, or told its length, that has another digest or
-- another number of parts.
abbrev pub IsOtherFile : {S : Type 0} → (S → List ℕ → List ℕ → S → Type 0) → Entry → S → S → Type 0
IsOtherFile gave e old new = (file : List ℕ) × gave old (file_name (string_bytes e.name)) file new
    × ((sha256 file ≡ e.digest) × (part_count (length file) ≡ length e.parts.items) → ⊥)

-- Bytes are the file of a window of a file, where the index is that of the file; and they mean what
-- it means there.
pub record IsCutFrom (i : IndexFields) (v : View) (file reply : List ℕ) : Type 0 where
  pub cut : (is : IsIndexOf file i) → cut_file is v ≡ Ok reply
  pub means : IsIndexOf file i → (p : Picture) → MeansLayers file v.reduce v.layers p → IsWindowOf v p reply

-- What is given is the window that is due, and BadWindow is answered only where that is due.
abbrev pub IsWindowGiven : Result (List ℕ) Fault → Result (Vec ℕ) Fault → Type 0
IsWindowGiven due (Ok w) = due ≡ Ok w.items
IsWindowGiven due (Err e) = e ≡ BadWindow → due ≡ Err BadWindow

-- The faults that a call may answer beside Shelf, and the count of failures before and after it.
abbrev pub Passes : {A : Type 0} → (Fault → Type 0) → Result A Fault → ℕ → ℕ → Type 0
Passes May (Ok _) before after = after ≡ before
Passes May (Err e) before after = (May e × (after ≡ before)) ⊎ ((e ≡ Shelf) × (after ≡ min (before + 1) last_count))

-- The shelf gave a file that has the digest of the entry, and of which the index isn't.
abbrev pub WasForeign : {S : Type 0} → (S → List ℕ → List ℕ → S → Type 0) → Entry → S → S → Type 0
WasForeign gave e old new = (file : List ℕ) × IsFileOf gave e old file new × (IsIndexOf file e.index → ⊥)
