use Rattle.std.proofs.Common.{◌≡◌, ◌++◌, List, ℕ, map}
use Rattle.std.specs.BTreeSet.{keys}
use Rattle.std.specs.String.{string_bytes}
use Rattle.jk_store.specs.Files.{Files}
use Rattle.jk_store.specs.Catalogue.{Stored}
use Rattle.jk_store.specs.Opening.{GivesFile}
use Rattle.jk_store.specs.OpeningWith.{ReadInTurn, IsOpeningOf}
use Rattle.jk_store.proofs.opening_with.read_images_with.Given as goal

-- the files of the names so far were read and are taken, and the others are left
abbrev pub invariant-loop-name : goal.invariant-loop-name
invariant-loop-name g l =
    (goal.iterator-loop-name g).can_next l.name-iterator
    × (goal.iterator-loop-name g).is_finite l.name-iterator
    × ((front : List (List ℕ)) × (given : List Stored) × (map string_bytes (keys l.names) ≡ front ++ map string_bytes l.name-iterator)
    × ReadInTurn (GivesFile g.S.Shelf.keeps g.S.Shelf.gave) front l.initial.shelf given l.shelf
    × IsOpeningOf given l.opening)
    × (g.S.Shelf.failed l.shelf ≡ g.S.Shelf.failed l.initial.shelf)
    × ((files : Files) → g.S.Shelf.keeps l.initial.shelf files → g.S.Shelf.keeps l.shelf files)
