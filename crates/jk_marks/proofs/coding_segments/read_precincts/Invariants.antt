use Rattle.std.proofs.Common.{◌≡◌, ◌-◌, [], length}
use Rattle.jk_marks.specs.Reading.{precincts_at}
use Rattle.jk_marks.proofs.coding_segments.read_precincts.Given as goal

abbrev pub invariant-loop-index : goal.invariant-loop-index
invariant-loop-index l = record {
  count : length l.precincts ≡ l.index;
  left : precincts_at (l.fn.count - l.index) l.precincts l.cursor ≡ precincts_at l.fn.count [] l.fn.cursor;
}
