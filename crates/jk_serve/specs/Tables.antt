-- What is listed of images that were prepared, in an archive and in what is published of it.
use Rattle.std.specs.Prelude.{◌≡◌, ◌⊎◌, ◌≤◌, ◌<◌, ℕ, true, List, [], ◌∷◌, ◌++◌, Ok, Err, length}
use Rattle.std.specs.String.{string_bytes}
use Rattle.jk_math.specs.Memory.{IsMemory}
use Rattle.jk_math.specs.declared.fault.Fault.{Fault}
use Rattle.jk_math.specs.declared.fault.Fault.TheVariants.{Limit}
use Rattle.jk_store.specs.Adding.{judged_name}
use Rattle.jk_store.specs.Catalogue.{is_listed, most_entries, StandsFor, stored}
use Rattle.jk_store.specs.Preparing.{due_beside, ready_bytes}
use Rattle.jk_store.specs.declared.archive.Archive.{Archive}
use Rattle.jk_store.specs.declared.entry.Entry.{Entry}
use Rattle.jk_store.specs.declared.prepared.Prepared.{Prepared}
use Rattle.jk_hall.specs.declared.writer.Writer.{Writer}
use Rattle.jk_hall.specs.Writing.{list, waits}
use Rattle.jk_serve.specs.Operating.{entries_of}
use Rattle.jk_serve.specs.declared.unlisted.Unlisted.{Unlisted}
use Rattle.jk_serve.specs.declared.unlisted.Unlisted.TheVariants.{Beyond, Refused}

-- Each name of the first entries is one of the second.
abbrev pub AreWithin : List Entry → List Entry → Type 0
AreWithin some all = (n : List ℕ) → is_listed some n ≡ true → is_listed all n ≡ true

-- An image that is prepared may be listed beside these entries, and the entry stands for its file.
abbrev pub IsListedBeside : List Entry → Prepared → Entry → Type 0
IsListedBeside there p e = (judged_name there (string_bytes p.name) ≡ Ok tt)
    × ((file : List ℕ) × (ready_bytes p.made ≡ Ok file) × StandsFor e (stored (string_bytes p.name) file))

-- For an image of this name an archive of so many images answered a fault: Limit where it is full, or
-- one of the image.
abbrev pub IsUnlisted : List ℕ → Fault → ℕ → Unlisted → Type 0
IsUnlisted name fault images (Beyond n) = (string_bytes n ≡ name) × (fault ≡ Limit) × (most_entries ≤ images)
IsUnlisted name fault images (Refused k) = (string_bytes k.name ≡ name) × (k.fault ≡ fault) × (fault ≡ Limit → images < most_entries)

-- It isn't listed beside these entries: they are as many as may be, or it is refused for this fault,
-- and Limit is told of a file alone where there is room for more entries.
abbrev pub IsPassedBeside : List Entry → Prepared → Unlisted → Type 0
IsPassedBeside there p (Beyond name) = (string_bytes name ≡ string_bytes p.name)
    × (most_entries ≤ length there) × (due_beside there p ≡ Err Limit)
IsPassedBeside there p (Refused k) = (string_bytes k.name ≡ string_bytes p.name)
    × (IsMemory k.fault ⊎ (due_beside there p ≡ Err k.fault)) × (k.fault ≡ Limit → length there < most_entries)

-- Beside these entries, images that are prepared are judged one after another: of each there is an
-- entry, or it is passed over.
abbrev pub ListEach : List Entry → List Prepared → List Entry → List Unlisted → Type 0
ListEach there [] more passed = (more ≡ []) × (passed ≡ [])
ListEach there (p ∷ images) more passed =
    ((e : Entry) × (rest : List Entry) × IsListedBeside there p e × (more ≡ e ∷ rest)
    × ListEach (there ++ e ∷ []) images rest passed)
    ⊎ ((k : Unlisted) × (rest : List Unlisted) × IsPassedBeside there p k × (passed ≡ k ∷ rest)
    × ListEach there images more rest)

-- Of images that are prepared each was listed behind the others in the archive and then published,
-- in one step, behind those that waited; or it was passed over.
pub record AreListed {S : Type 0} (images : List Prepared) (passed : List Unlisted) (before after : Archive S)
    (old new : Writer) : Type 0 where
  pub more : List Entry
  pub each : ListEach (entries_of before) images more passed
  pub added : entries_of after ≡ entries_of before ++ more
  pub published : list new ≡ list old ++ (waits old ++ more)
  pub none_waits : waits new ≡ []
