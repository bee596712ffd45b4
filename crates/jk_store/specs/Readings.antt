-- What is held of the file of an entry while parts of it are read.
use Rattle.std.specs.Prelude.{◌≡◌, ℕ, ◌<◌, ◌⊎◌, List, [], length}
use Rattle.std.specs.String.{string_bytes}
use Rattle.jk_store.specs.Parts.{file_part, part_length, part_count}
use Rattle.jk_store.specs.PartsGiven.{file_of, size_of}
use Rattle.jk_store.specs.declared.entry.Entry.{Entry}
use Rattle.jk_store.specs.declared.reading.Reading.{Reading}

-- The name and the length are those of the entry's file, and what is held is nothing, or as long as
-- that part.
pub record IsReading (e : Entry) (r : Reading) : Type 0 where
  pub named : string_bytes r.name ≡ file_of e
  pub sized : r.size ≡ size_of e
  pub held : (r.part.items ≡ [])
      ⊎ ((r.number < part_count (size_of e)) × (length r.part.items ≡ part_length (size_of e) r.number))

-- What is held is nothing, or that part of the file.
abbrev pub HoldsOf : Reading → List ℕ → Type 0
HoldsOf r file = (r.part.items ≡ []) ⊎ (r.part.items ≡ file_part r.number file)
