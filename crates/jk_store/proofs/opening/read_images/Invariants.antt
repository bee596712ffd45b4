use Rattle.std.proofs.Common.{◌≡◌, ◌≤◌, ◌++◌, List, ℕ, map, length}
use Rattle.std.specs.BTreeSet.{keys}
use Rattle.std.specs.String.{string_bytes}
use Rattle.jk_store.specs.Files.{Files}
use Rattle.jk_store.specs.Catalogue.{most_entries}
use Rattle.jk_store.specs.Opening.{GivesFile, Opened}
use Rattle.jk_store.specs.Digesting.{all_entries}
use Rattle.jk_store.proofs.opening.read_images.Given as goal

-- the files of the names so far were read, and the others are left
abbrev pub invariant-loop-name : goal.invariant-loop-name
invariant-loop-name g l =
    (goal.iterator-loop-name g).can_next l.name-iterator
    × (goal.iterator-loop-name g).is_finite l.name-iterator
    × ((front : List (List ℕ)) × (map string_bytes (keys l.names) ≡ front ++ map string_bytes l.name-iterator)
    × Opened (GivesFile g.S.Shelf.keeps g.S.Shelf.gave) front l.initial.shelf (all_entries l.listed) l.skipped.items l.shelf)
    × (length (all_entries l.listed) ≤ most_entries)
    × (g.S.Shelf.failed l.shelf ≡ g.S.Shelf.failed l.initial.shelf)
    × ((files : Files) → g.S.Shelf.keeps l.initial.shelf files → g.S.Shelf.keeps l.shelf files)
