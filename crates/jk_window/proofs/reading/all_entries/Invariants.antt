use Rattle.std.proofs.Common.{◌≡◌, Ok}
use Rattle.jk_marks.specs.Siz.{tile_count}
use Rattle.jk_window.specs.Indexing.{entries_upto}
use Rattle.jk_window.proofs.reading.all_entries.Given as goal

abbrev pub invariant-loop-number : goal.invariant-loop-number
invariant-loop-number l = record {
  end_is : l.number-end ≡ tile_count l.headers.siz;
  upto : entries_upto l.bytes l.headers l.number ≡ Ok l.all.items;
}
