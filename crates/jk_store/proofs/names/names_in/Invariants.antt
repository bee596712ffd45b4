use Rattle.std.proofs.Common.{◌≡◌, ◌||◌, ℕ, List, map, drop}
use Rattle.std.specs.String.{string_bytes}
use Rattle.std.specs.BTreeSet.{contains_text}
use Rattle.jk_store.specs.Names.{is_image}
use Rattle.jk_store.proofs.names.names_in.Given as goal

-- the names so far and those of the files to come are all
abbrev pub invariant-loop-file : goal.invariant-loop-file
invariant-loop-file l = (n : List ℕ) → (contains_text l.names n || is_image n (map string_bytes (drop l.file-index l.files))) ≡ is_image n (map string_bytes l.files)
