-- The events of a hall: entries are published, and readers look at the list as it then is.
use Rattle.std.specs.Prelude.{◌≡◌, ℕ, List, [], ◌∷◌, ◌++◌, map}
use Rattle.jk_store.specs.declared.entry.Entry.{Entry}

pub data Event : Type 0 where
  publishes : Entry → Event
  entered : ℕ → Event

-- A reader, by its number, and the list that it looked at.
pub record LookedAt : Type 0 where
  pub reader : ℕ
  pub list : List Entry

abbrev pub looked_at : ℕ → List Entry → LookedAt
looked_at reader list = record { reader = reader; list = list }

-- the entries that were published, in order
abbrev pub published : List Event → List Entry
published [] = []
published (publishes e ∷ events) = e ∷ published events
published (entered reader ∷ events) = published events

-- what was looked at, in order, where the list was this one at first
abbrev pub looks : List Entry → List Event → List LookedAt
looks list [] = []
looks list (publishes e ∷ events) = looks (list ++ e ∷ []) events
looks list (entered reader ∷ events) = looked_at reader list ∷ looks list events

-- these entries are published, one after another
abbrev pub publishing : List Entry → List Event
publishing entries = map (λ e. publishes e) entries

-- A hall that was opened with a list has published this one after these events.
abbrev pub HasPublished : (opening : List Entry) → List Event → List Entry → Type 0
HasPublished opening events list = list ≡ opening ++ published events

-- By its number a reader looks at a list as it is after these events.
abbrev pub LooksAt : (opening : List Entry) → List Event → (reader : ℕ) → List Entry → Type 0
LooksAt opening events reader list =
    looks opening (events ++ entered reader ∷ []) ≡ looks opening events ++ looked_at reader list ∷ []

-- Where the first list had been published after some events, the second one was after some more that
-- publish, and is what a reader looks at next.
abbrev pub LooksNext : (old new : List Entry) → Type 0
LooksNext old new = (opening : List Entry) (events : List Event) (reader : ℕ) → HasPublished opening events old
    → (more : List Entry) × HasPublished opening (events ++ publishing more) new
    × LooksAt opening (events ++ publishing more) reader new
