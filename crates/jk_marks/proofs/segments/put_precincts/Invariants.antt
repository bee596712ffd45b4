use Rattle.std.proofs.Common.{◌≡◌, ◌++◌, map, take}
use Rattle.jk_marks.specs.Precincts.{precinct_byte}
use Rattle.jk_marks.proofs.segments.put_precincts.Given as goal

abbrev pub invariant-loop-width : goal.invariant-loop-width
invariant-loop-width l = l.out.items ≡ l.fn.out.items ++ map precinct_byte (take l.width-index l.precincts)
