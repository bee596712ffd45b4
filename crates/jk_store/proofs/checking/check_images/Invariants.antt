use Rattle.std.proofs.Common.{◌≡◌, ◌++◌, ℕ, List, map}
use Rattle.std.specs.BTreeSet.{keys}
use Rattle.std.specs.String.{string_bytes}
use Rattle.jk_store.specs.Files.{Files}
use Rattle.jk_store.specs.Checking.{GivenFile, AskedInTurn, AreTaken}
use Rattle.jk_store.proofs.checking.check_images.Given as goal

-- the shelf was asked for the files of the names so far, which are taken, and the others are left
abbrev pub invariant-loop-name : goal.invariant-loop-name
invariant-loop-name g l =
    (goal.iterator-loop-name g).can_next l.name-iterator
    × (goal.iterator-loop-name g).is_finite l.name-iterator
    × ((front : List (List ℕ)) × (given : List GivenFile) × (map string_bytes (keys l.names) ≡ front ++ map string_bytes l.name-iterator)
    × AskedInTurn g.S.Shelf.keeps g.S.Shelf.gave g.S.Shelf.unread front l.initial.shelf given l.shelf
    × AreTaken l.blocks given l.checking)
    × ((files : Files) → g.S.Shelf.keeps l.initial.shelf files → g.S.Shelf.keeps l.shelf files)
