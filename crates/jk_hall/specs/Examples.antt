-- Examples: what two readers see while two entries are published, and the words of a history.
use Rattle.std.specs.Prelude.{◌≡◌, true, List, [], ◌∷◌, refl}
use Rattle.jk_store.specs.declared.entry.Entry.{Entry}
use Rattle.jk_hall.specs.Rules.{IsKept}
use Rattle.jk_hall.specs.Runs.{Event, publishes, entered, published, looked_at, looks}

-- Reader 1 looks, a is published, reader 2 looks, b is published, and both look again.
abbrev events : (a b : Entry) → List Event
events a b = entered 1 ∷ publishes a ∷ entered 2 ∷ publishes b ∷ entered 1 ∷ entered 2 ∷ []

in_order : (a b : Entry) → published (events a b) ≡ a ∷ b ∷ []
in_order a b = refl

-- Each sees what was published before it looked.
seen : (a b : Entry) → looks [] (events a b)
    ≡ looked_at 1 [] ∷ looked_at 2 (a ∷ []) ∷ looked_at 1 (a ∷ b ∷ []) ∷ looked_at 2 (a ∷ b ∷ []) ∷ []
seen a b = refl

-- behind the entries that were listed at first
behind_first : (a b : Entry) → looks (a ∷ []) (publishes b ∷ entered 1 ∷ []) ≡ looked_at 1 (a ∷ b ∷ []) ∷ []
behind_first a b = refl

-- A history of two entries: its first word counts them, its second is 0.
two : (a b : Entry) → IsKept ((2, true) ∷ (0, true) ∷ []) (a ∷ b ∷ [])
two a b = record { words = refl }

none : IsKept ((0, true) ∷ (0, true) ∷ []) []
none = record { words = refl }
