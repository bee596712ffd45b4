-- What a writer has, and what it tells.
use Rattle.std.specs.Prelude.{Bool, true, not, ◌&&◌, List, [], ◌∷◌, ◌++◌, map}
use Rattle.std.specs.Arc.{arc_value}
use Rattle.std.specs.String.{string_bytes}
use Rattle.logbook.specs.Pages.{Book}
use Rattle.jk_store.specs.Catalogue.{is_listed}
use Rattle.jk_store.specs.declared.entry.Entry.{Entry}
use Rattle.jk_hall.specs.declared.told.Told.{Told}
use Rattle.jk_hall.specs.declared.writer.Writer.{Writer}
use Rattle.jk_hall.specs.Sights.{listed}

-- the list that a writer has published
abbrev pub list : Writer → List Entry
list w = listed w.inner.desk.shown.value

-- the entries that wait, in order
abbrev pub waits : Writer → List Entry
waits w = map arc_value w.waiting.items

-- which hall it is
abbrev pub hall_of : Writer → Book
hall_of w = w.history.front.seen.book

-- the list that is told, and of which hall
abbrev pub note : Told → List Entry
note n = n.front.seen.log

abbrev pub hall_of_note : Told → Book
hall_of_note n = n.front.seen.book

-- whether each of these entries has a name that none of those that are there has, and none before it
abbrev pub are_new : (there entries : List Entry) → Bool
are_new there [] = true
are_new there (e ∷ entries) = not (is_listed there (string_bytes e.name)) && are_new (there ++ e ∷ []) entries
