-- The steps of entries over a shelf that is borrowed, with parts that were read before.
use Rattle.std.specs.Prelude.{◌≡◌, refl}
use Rattle.jk_store.specs.Files.{Files}
use Rattle.jk_store.specs.declared.shown.ShownWithParts.{ShownWithParts}

-- The entries are the same, the shelf is the same place, and what it keeps it goes on to keep.
abbrev pub Steps : {S : Type 0} → (S → Files → Type 0) → ShownWithParts S → ShownWithParts S → Type 0
Steps keeps s t = (t.entries.now ≡ s.entries.now) × (t.shelf.ghost_name ≡ s.shelf.ghost_name)
    × ((files : Files) → keeps s.shelf.now files → keeps t.shelf.now files)

-- no step
pub stays_here : {S : Type 0} (keeps : S → Files → Type 0) (s : ShownWithParts S) → Steps keeps s s
stays_here keeps s = (refl, refl, λ files k. k)
