use Rattle.std.proofs.Common.{◌≡◌, map, take}
use Rattle.std.specs.Arc.{arc_value}
use Rattle.jk_serve.proofs.table.entries.Given as goal

-- those before are there
abbrev pub invariant-loop-entry : goal.invariant-loop-entry
invariant-loop-entry g l = record {
  items : l.entry-items ≡ l.fn.archive.entries.items;
  copied : map arc_value l.entries.items ≡ map arc_value (take l.entry-index l.entry-items);
}
