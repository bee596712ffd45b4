-- What several workers make of the files of a shelf.
use Rattle.std.specs.Prelude.{◌≡◌, ℕ, ◌<◌, ◌⊎◌, List, [], ◌∷◌, ◌++◌, map, length, Result, MatchResult}
use Rattle.std.specs.Arc.{arc_value}
use Rattle.std.specs.List.{flat_map}
use Rattle.sha2.specs.Sha256.{sha256}
use Rattle.jk_math.specs.Memory.{IsMemory}
use Rattle.jk_math.specs.declared.fault.Fault.{Fault}
use Rattle.jk_store.specs.Names.{file_name}
use Rattle.jk_store.specs.Catalogue.{Stored, stored, StandsFor, most_entries}
use Rattle.jk_store.specs.Opening.{IsSkippedOf, CanBeMade, stored_file}
use Rattle.jk_store.specs.declared.entry.Entry.{Entry}
use Rattle.jk_store.specs.declared.skipped.Skipped.{Skipped}
use Rattle.jk_store.specs.declared.opening.NamedFile.{NamedFile}
use Rattle.jk_store.specs.declared.opening.Made.{Made}
use Rattle.jk_store.specs.declared.opening_with.Few.{Few}
use Rattle.jk_store.specs.declared.opening_with.Opening.{Opening}

abbrev pub file_digest : NamedFile → List ℕ
file_digest f = sha256 f.bytes.items

abbrev pub made_entries : Made → List Entry
made_entries m = map arc_value m.entries.items

-- Of each of these files there is an entry, or it is skipped, in their order.
abbrev pub AreMade : List Stored → List Entry → List Skipped → Type 0
AreMade [] entries skipped = (entries ≡ []) × (skipped ≡ [])
AreMade (f ∷ files) entries skipped =
    ((e : Entry) × (more : List Entry) × StandsFor e f × (entries ≡ e ∷ more) × AreMade files more skipped)
    ⊎ ((k : Skipped) × (more : List Skipped) × IsSkippedOf f.name f.file k × (skipped ≡ k ∷ more)
    × AreMade files entries more)

abbrev pub IsMadeOf : List Stored → Made → Type 0
IsMadeOf files m = AreMade files (made_entries m) m.skipped.items

-- From one state of the shelf to another the files of these names were read in turn.
abbrev pub ReadInTurn : {S : Type 0} → (S → List ℕ → List ℕ → S → Type 0) → List (List ℕ) → S → List Stored → S → Type 0
ReadInTurn gave [] old files new = (files ≡ []) × (new ≡ old)
ReadInTurn {S} gave (n ∷ names) old files new = (bytes : List ℕ) × (more : List Stored) × (mid : S)
    × (files ≡ stored n bytes ∷ more) × gave old (file_name n) bytes mid × CanBeMade (stored n bytes)
    × ReadInTurn gave names mid more new

-- Of these files there are more entries than an archive may have.
abbrev pub MakePast : List Stored → Type 0
MakePast files = (entries : List Entry) × (skipped : List Skipped) × AreMade files entries skipped
    × (most_entries < length entries)

-- ---- while an archive is opened

-- what the job of a few files gives
abbrev pub IsMadeOfFew : Few → Result Made Fault → Type 0
IsMadeOfFew few r = MatchResult r (IsMadeOf (map stored_file few.files.items)) IsMemory

abbrev pub few_files : Few → List Stored
few_files few = map stored_file few.files.items

-- the files that wait to be judged, in the order in which they were read
abbrev pub waiting_files : Opening → List Stored
waiting_files o = flat_map few_files o.jobs.items ++ map stored_file o.last.items

-- Of these files something was made, or they wait to be judged.
abbrev pub IsOpeningOf : List Stored → Opening → Type 0
IsOpeningOf given o = (front : List Stored) × (given ≡ front ++ waiting_files o) × IsMadeOf front o.made

-- Of these files something was made, and none waits.
abbrev pub AreAllMade : List Stored → Opening → Type 0
AreAllMade given o = IsMadeOf given o.made × (waiting_files o ≡ [])
