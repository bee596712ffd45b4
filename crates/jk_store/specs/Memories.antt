-- What a shelf in memory holds.
use Rattle.std.specs.Prelude.{◌≡◌, ℕ, List, map, take, drop, Option, Some, None, cond, ◌⊎◌}
use Rattle.std.specs.Option.{option_map}
use Rattle.std.specs.Str.{bytes_eq}
use Rattle.std.specs.String.{string_bytes}
use Rattle.std.specs.BTreeMap.{get_by_text, keys}
use Rattle.jk_store.specs.Files.{Files}
use Rattle.jk_store.specs.Counting.{last_count}
use Rattle.jk_store.specs.declared.memory.MemoryShelf.{MemoryShelf}

-- the file of a name
abbrev pub held : MemoryShelf → Files
held s n = option_map (λ v. v.items) (get_by_text s.files n)

-- the names of all files
abbrev pub names_of : MemoryShelf → List (List ℕ)
names_of s = map string_bytes (keys s.files)

-- These files are on the shelf.
abbrev pub KeepsFiles : MemoryShelf → Files → Type 0
KeepsFiles s files = (n b : List ℕ) → files n ≡ Some b → held s n ≡ Some b

-- The shelf has these bytes under a name, and stays as it is.
abbrev pub Gave : MemoryShelf → List ℕ → List ℕ → MemoryShelf → Type 0
Gave s n b t = (t ≡ s) × (held s n ≡ Some b)

-- The file of a name has these bytes from a place on, so many at most, and the shelf stays as it
-- is.
abbrev pub GaveAt : MemoryShelf → List ℕ → (start most : ℕ) → List ℕ → MemoryShelf → Type 0
GaveAt s n start most b t = (t ≡ s) × (option_map (λ file. take most (drop start file)) (held s n) ≡ Some b)

-- These are its names, and it stays as it is.
abbrev pub Lists : MemoryShelf → List (List ℕ) → MemoryShelf → Type 0
Lists s names t = (t ≡ s) × (names ≡ names_of s)

-- It counts no more.
abbrev pub Unlisted : MemoryShelf → MemoryShelf → Type 0
Unlisted s t = s.failures.count ≡ last_count

-- It has no file of a name, or counts no more.
abbrev pub CannotRead : MemoryShelf → List ℕ → MemoryShelf → Type 0
CannotRead s n t = (held s n ≡ None) ⊎ (s.failures.count ≡ last_count)

-- It counts no more.
abbrev pub Unwritten : MemoryShelf → List ℕ → MemoryShelf → Type 0
Unwritten s n t = s.failures.count ≡ last_count

-- It has no file of the old name, or counts no more.
abbrev pub Unrenamed : MemoryShelf → List ℕ → List ℕ → MemoryShelf → Type 0
Unrenamed s from to t = (held s from ≡ None) ⊎ (s.failures.count ≡ last_count)

-- It has a file of a name.
abbrev pub Taken : MemoryShelf → List ℕ → MemoryShelf → Type 0
Taken s n t = (b : List ℕ) × (held s n ≡ Some b)

-- Two shelves hold the same files.
abbrev pub HoldSame : MemoryShelf → MemoryShelf → Type 0
HoldSame s t = (m : List ℕ) → held t m ≡ held s m

-- The second holds the same but this under a name.
abbrev pub HoldsInstead : MemoryShelf → List ℕ → Option (List ℕ) → MemoryShelf → Type 0
HoldsInstead s n w t = (m : List ℕ) → held t m ≡ cond (bytes_eq n m) w (held s m)
