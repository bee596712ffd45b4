use Rattle.std.proofs.Common.{◌≡◌, ◌++◌, List, map}
use Rattle.std.specs.Arc.{arc_value}
use Rattle.jk_store.specs.declared.entry.Entry.{Entry}
use Rattle.jk_hall.specs.Writing.{waits, hall_of}
use Rattle.jk_hall.proofs.writer.Writer.line_up_all.Given as goal

-- those before wait, and the others are left
abbrev pub invariant-loop-entry : goal.invariant-loop-entry
invariant-loop-entry g l = record {
  shown : l.self.inner.desk ≡ l.fn.self.inner.desk;
  lined : (front : List Entry) × (waits l.self ≡ waits l.fn.self ++ front) × (front ++ map arc_value l.entry-iterator.rest.items ≡ map arc_value l.fn.entries.items);
  hall : hall_of l.self ≡ hall_of l.fn.self;
}
