use Rattle.std.proofs.Common.{◌≤◌, ◌-◌}
use Rattle.jk_store.specs.Readings.{IsReading}
use Rattle.jk_store.proofs.ReadingLaws.{ReadUpTo}
use Rattle.jk_store.proofs.reading.put_stretch.Given as goal

-- the stretch was read up to a place
abbrev pub invariant-loop-at : goal.invariant-loop-at
invariant-loop-at g l = record {
  begun : l.start ≤ l.at;
  order : l.at ≤ l.end;
  reading : IsReading l.entry l.reading;
  read : ReadUpTo g.S.Shelf.keeps g.S.Shelf.gave_at g.S.Shelf.failed l.entry l.initial.shelf l.shelf l.initial.reading l.reading l.initial.out.items l.out.items l.start l.at;
}

abbrev pub decreases-loop-at : goal.decreases-loop-at
decreases-loop-at g l = l.end - l.at
