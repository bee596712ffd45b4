-- What the writer and the readers know of the published list.
use Rattle.std.specs.Prelude.{◌≡◌, ℕ, true, false, List, [], ◌∷◌, ◌++◌, map, fold}
use Rattle.std.specs.Arc.{arc_value}
use mathlib.Core.Option.{some}
use mathlib.Core.List.{IsPrefix}
use lib.ListN.{get_elem?}
use Rattle.logbook.specs.Pages.{Book}
use Rattle.jk_store.specs.declared.entry.Entry.{Entry}
use Rattle.jk_hall.specs.declared.history.Front.{Front}
use Rattle.jk_hall.specs.declared.shown.Shown.{Shown}
use Rattle.jk_hall.specs.declared.shown.Stamp.{Stamp}
use Rattle.jk_hall.specs.declared.shown.Common.{Common}
use Rattle.jk_hall.specs.declared.shown.Change.{Change}
use Rattle.jk_hall.specs.declared.shown.Change.TheVariants as change
use Rattle.jk_hall.specs.declared.rule.Sight.{Sight}

-- which history it is
abbrev pub stamp_of : Book → Stamp
stamp_of b = record { number = b.number; log_name = b.log_name; cells_name = b.cells_name }

abbrev pub front_stamp : Front → Stamp
front_stamp f = stamp_of f.seen.book

-- the entries that are shown
abbrev pub listed : Shown → List Entry
listed s = map arc_value s.entries.items

abbrev pub common : List Entry → Stamp → List Entry → Common
common entries stamp log = record { entries = entries; stamp = stamp; log = log }

abbrev pub common_of : Shown → Common
common_of s = common (listed s) (front_stamp s.front) s.front.seen.log

-- what a change does
abbrev pub applied : Common → Change → Common
applied s (change.Entry e) = common (s.entries ++ arc_value e ∷ []) s.stamp s.log
applied s (change.Front f) = common s.entries (front_stamp f) f.seen.log

-- what is shown after the changes that wait
abbrev pub coming : Shown → List Change → Common
coming s changes = fold applied (common_of s) changes

abbrev pub sight_of : Stamp → List Entry → Sight
sight_of stamp seen = record { known = true; stamp = stamp; seen = seen }

-- has seen nothing
abbrev pub newcomer : Sight
newcomer = record { known = false; stamp = record { number = 0; log_name = 0; cells_name = 0 }; seen = [] }

-- what is shown is the beginning of the history that stands beside it
abbrev pub IsTied : Shown → Type 0
IsTied x = listed x ≡ x.front.seen.log

-- what is shown begins with all that was seen, and is of the same history
abbrev pub Fits : Shown → Sight → Type 0
Fits x v = IsPrefix v.seen (listed x) × (v.known ≡ true → v.stamp ≡ front_stamp x.front)

abbrev pub Keeps : Shown → List Sight → Type 0
Keeps x sights = IsTied x × ((seat : ℕ) (v : Sight) → get_elem? sights seat ≡ some v → Fits x v)

-- what is seen afterwards is y
abbrev pub Publishes : Sight → Shown → Shown → Sight → Type 0
Publishes v x y w = Fits y v × IsTied y × (w ≡ sight_of (front_stamp y.front) (listed y))
