-- What is judged before an image is added.
use Rattle.std.specs.Prelude.{◌≡◌, ℕ, Bool, true, false, not, nat_le, ◌⊎◌, List, length, Some, Result, Ok}
use Rattle.std.specs.Str.{bytes_eq}
use Rattle.jk_math.specs.Answer.{◌>>=◌, refuse}
use Rattle.jk_math.specs.declared.fault.Fault.{Fault}
use Rattle.jk_math.specs.declared.fault.Fault.TheVariants.{BadName, NameTaken, Limit, BadParameters, Shelf}
use Rattle.jk_math.specs.Memory.{IsMemory}
use Rattle.jk_math.specs.Picture.{Picture}
use Rattle.jk_extras.specs.declared.values.Extras.{Extras}
use Rattle.jk_extras.specs.Extras.{is_extras}
use Rattle.jk_extras.specs.Placing.{with_extras_at}
use Rattle.jk_code.specs.Written.{written}
use Rattle.jk_params.specs.declared.parameters.Parameters.{Parameters}
use Rattle.jk_params.specs.declared.parameters.Container.{Container}
use Rattle.jk_params.specs.declared.parameters.Container.TheVariants.{Raw, Jp2}
use Rattle.jk_params.specs.Profile.{is_profile}
use Rattle.jk_store.specs.Files.{Files}
use Rattle.jk_store.specs.Names.{is_good_name}
use Rattle.jk_store.specs.Catalogue.{is_listed, most_entries}
use Rattle.jk_store.specs.declared.entry.Entry.{Entry}
use Rattle.jk_store.specs.declared.naming.Naming.{Naming}
use Rattle.jk_store.specs.declared.naming.Naming.TheVariants.{Replacing, New}

abbrev pub is_raw : Container → Bool
is_raw Raw = true
is_raw Jp2 = false

-- the first fault of a name, an image and its parameters beside the entries that are there
unfoldable pub judged : List Entry → List ℕ → Picture → Parameters → Result (Unit {0}) Fault
judged entries name p q = do
  _ ← refuse (not (is_good_name name)) BadName
  _ ← refuse (is_listed entries name) NameTaken
  _ ← refuse (nat_le most_entries (length entries)) Limit
  _ ← refuse (not (is_profile q p)) BadParameters
  refuse (is_raw q.container) BadParameters

-- the same where its file is to keep something beside the samples, which is judged by the components
unfoldable pub judged_with : List Entry → List ℕ → Picture → Parameters → Extras → Result (Unit {0}) Fault
judged_with entries name p q e = do
  _ ← judged entries name p q
  refuse (not (is_extras (length p.planes) e)) BadParameters

-- the file of an image with what it is to keep
unfoldable pub written_with : Picture → Parameters → Extras → Result (List ℕ) Fault
written_with p q e = do
  file ← written p q
  with_extras_at e file

-- the first fault of a name beside the entries that are there
unfoldable pub judged_name : List Entry → List ℕ → Result (Unit {0}) Fault
judged_name entries name = do
  _ ← refuse (not (is_good_name name)) BadName
  _ ← refuse (is_listed entries name) NameTaken
  refuse (nat_le most_entries (length entries)) Limit

-- the first fault of an image and its parameters
unfoldable pub judged_image : Picture → Parameters → Result (Unit {0}) Fault
judged_image p q = do
  _ ← refuse (not (is_profile q p)) BadParameters
  refuse (is_raw q.container) BadParameters

-- the file that is due of an image, or its first fault, whatever its name
unfoldable pub file_due : Picture → Parameters → Result (List ℕ) Fault
file_due p q = do
  _ ← judged_image p q
  written p q

-- the same with what it is to keep
unfoldable pub file_due_with : Picture → Parameters → Extras → Result (List ℕ) Fault
file_due_with p q e = do
  _ ← judged_image p q
  _ ← refuse (not (is_extras (length p.planes) e)) BadParameters
  written_with p q e

-- the file of an image that is judged with its name and then encoded, or the first fault
unfoldable pub added_at_once : List Entry → List ℕ → Picture → Parameters → Result (List ℕ) Fault
added_at_once entries name p q = do
  _ ← judged entries name p q
  written p q

-- the same with what it is to keep
unfoldable pub added_at_once_with : List Entry → List ℕ → Picture → Parameters → Extras → Result (List ℕ) Fault
added_at_once_with entries name p q e = do
  _ ← judged_with entries name p q e
  written_with p q e

-- the file of a good name, or the first fault: of the name, or what kept the file from being made
unfoldable pub stored_due : List ℕ → Result (List ℕ) Fault → Result (List ℕ) Fault
stored_due name file = do
  _ ← refuse (not (is_good_name name)) BadName
  file

-- the file of a name that may be added beside the entries, or the first fault
unfoldable pub added_due : List Entry → List ℕ → Result (List ℕ) Fault → Result (List ℕ) Fault
added_due entries name file = do
  _ ← judged_name entries name
  file

-- What is left of files after a refusal, where a file that was made is written under a temporary
-- name and gets its own: all others, and under its own name what was there before; or, after Shelf,
-- the file that was made.
pub record IsLeftByAdd (temporary own : List ℕ) (made : Result (List ℕ) Fault) (e : Fault)
    (files left : Files) : Type 0 where
  pub others : (n : List ℕ) → bytes_eq temporary n ≡ false → bytes_eq own n ≡ false → left n ≡ files n
  pub here : (left own ≡ files own) ⊎ ((file : List ℕ) × (e ≡ Shelf) × (made ≡ Ok file) × (left own ≡ Some file))

-- All files but one are as they were.
abbrev pub IsAllBut : List ℕ → Files → Files → Type 0
IsAllBut name files left = (n : List ℕ) → bytes_eq name n ≡ false → left n ≡ files n

-- The shelf keeps all files that it kept, but for one.
abbrev pub KeepsAllBut : {S : Type 0} → (S → Files → Type 0) → List ℕ → Files → S → Type 0
KeepsAllBut keeps name files new = (left : Files) × keeps new left × IsAllBut name files left

-- The file couldn't be written under its temporary name, or that couldn't become its own.
abbrev pub IsUnstored : {S : Type 0} → (unwritten : S → List ℕ → S → Type 0)
    → (unrenamed : S → List ℕ → List ℕ → S → Type 0) → (temporary own : List ℕ) → S → S → Type 0
IsUnstored {S} unwritten unrenamed temporary own old new = unwritten old temporary new
    ⊎ ((mid : S) × unrenamed mid temporary own new)

-- Something had the own name, or the file couldn't be written under its temporary name, or that
-- couldn't become its own.
abbrev pub IsUnplaced : {S : Type 0} → (unwritten : S → List ℕ → S → Type 0)
    → (unplaced : S → List ℕ → List ℕ → S → Type 0) → (taken : S → List ℕ → S → Type 0)
    → (temporary own : List ℕ) → S → S → Fault → Type 0
IsUnplaced {S} unwritten unplaced taken temporary own old new e = ((e ≡ NameTaken) × ((mid : S) × taken mid own new))
    ⊎ ((e ≡ Shelf) × IsUnstored unwritten unplaced temporary own old new)

-- what may stop the storing of a file beside a shelf that fails
abbrev pub Stops : Naming → Fault → Type 0
Stops Replacing e = IsMemory e
Stops New e = IsMemory e ⊎ (e ≡ NameTaken)

-- why a file isn't stored
abbrev pub WhyUnstored : {S : Type 0} → Naming → (unwritten : S → List ℕ → S → Type 0)
    → (unrenamed unplaced : S → List ℕ → List ℕ → S → Type 0) → (taken : S → List ℕ → S → Type 0)
    → (temporary own : List ℕ) → S → S → Fault → Type 0
WhyUnstored Replacing unwritten unrenamed unplaced taken temporary own old new e = IsMemory e
    ⊎ ((e ≡ Shelf) × IsUnstored unwritten unrenamed temporary own old new)
WhyUnstored New unwritten unrenamed unplaced taken temporary own old new e = IsMemory e
    ⊎ IsUnplaced unwritten unplaced taken temporary own old new e
