-- What a reader has.
use Rattle.std.specs.Prelude.{◌≡◌, List, []}
use Rattle.logbook.specs.Pages.{Book}
use Rattle.left_right.specs.Sides.{view}
use Rattle.jk_web.specs.Cuts.{KeptCut}
use Rattle.jk_store.specs.declared.entry.Entry.{Entry}
use Rattle.jk_hall.specs.declared.looks.Looks.{Looks}
use Rattle.jk_hall.specs.declared.reader.Reader.{Reader}

-- the list that a reader has seen, and the longest that it was told
abbrev pub seen : Reader → List Entry
seen r = (view r.place.inner.place).seen

abbrev pub told : Reader → List Entry
told r = r.told.seen.log

-- of which hall it is
abbrev pub hall_of_reader : Reader → Book
hall_of_reader r = r.told.seen.book

-- how often it has looked at the published list, and how often it was refused a look
abbrev pub look_counts : Reader → Looks
look_counts r = r.place.looks

-- the cuts that it keeps
abbrev pub cuts : Reader → List KeptCut
cuts r = r.place.cache

-- A reader has seen and was told the list, which is of this hall, and keeps no cut.
pub record Opens (hall : Book) (entries : List Entry) (r : Reader) : Type 0 where
  pub seen_list : seen r ≡ entries
  pub told_list : told r ≡ entries
  pub of_hall : hall_of_reader r ≡ hall
  pub no_cut : cuts r ≡ []
