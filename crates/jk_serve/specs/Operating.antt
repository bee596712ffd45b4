-- What an operator does to an archive and to what is published.
use Rattle.std.specs.Prelude.{◌≡◌, ◌⊎◌, ℕ, List, [], ◌∷◌, ◌++◌, map}
use Rattle.std.specs.Arc.{arc_value}
use Rattle.std.specs.String.{string_bytes}
use mathlib.Core.List.{IsPrefix}
use Rattle.jk_store.specs.declared.archive.Archive.{Archive}
use Rattle.jk_store.specs.declared.entry.Entry.{Entry}
use Rattle.jk_hall.specs.declared.writer.Writer.{Writer}
use Rattle.jk_hall.specs.Writing.{list, waits, hall_of}

-- the entries of an archive
abbrev pub entries_of : {S : Type 0} → Archive S → List Entry
entries_of a = map arc_value a.entries.items

-- The entry was listed in the archive, behind the others, and then published, behind those that
-- waited.
pub record IsAdded {S : Type 0} (name : List ℕ) (before after : Archive S) (old new : Writer) : Type 0 where
  pub entry : Entry
  pub named : string_bytes entry.name ≡ name
  pub added : entries_of after ≡ entries_of before ++ entry ∷ []
  pub published : list new ≡ list old ++ (waits old ++ entry ∷ [])
  pub none_waits : waits new ≡ []

-- Nothing was published. An entry may have been listed, and may wait.
pub record IsRefused {S : Type 0} (before after : Archive S) (old new : Writer) : Type 0 where
  pub published : list new ≡ list old
  pub added : (entries_of after ≡ entries_of before) ⊎ ((entry : Entry) × (entries_of after ≡ entries_of before ++ entry ∷ []))
  pub waiting : (waits new ≡ waits old) ⊎ ((entry : Entry) × (waits new ≡ waits old ++ entry ∷ []) × (entries_of after ≡ entries_of before ++ entry ∷ []))

-- The archive and what is published have grown at their ends alone, in one hall.
pub record Grows {S : Type 0} (before after : Archive S) (old new : Writer) : Type 0 where
  pub listed : IsPrefix (entries_of before) (entries_of after)
  pub published : IsPrefix (list old) (list new)
  pub same_hall : hall_of new ≡ hall_of old
