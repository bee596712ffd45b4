use Rattle.std.proofs.Common.{◌≡◌, ◌-◌, [], length}
use Rattle.jk_marks.specs.Codestream.{head_of}
use Rattle.jk_marks.specs.Place.{outside}
use Rattle.jk_marks.specs.Reading.{segments_at}
use Rattle.jk_marks.proofs.head.read_segments.Given as goal

abbrev pub invariant-loop : goal.invariant-loop
invariant-loop l =
    segments_at (l.end - l.counter) l.heading l.components l.last l.head l.cursor
    ≡ segments_at (length l.fn.cursor.rest) l.heading l.components l.last (head_of []) (outside l.fn.cursor)
