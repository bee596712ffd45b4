use Rattle.std.proofs.Common.{◌≡◌, map, drop}
use Rattle.std.specs.Arc.{arc_value}
use Rattle.jk_store.specs.Catalogue.{entry_of}
use Rattle.jk_store.proofs.archive.find.Given as goal

-- no entry so far has the name
abbrev pub invariant-loop-entry : goal.invariant-loop-entry
invariant-loop-entry l = entry_of (map arc_value (drop l.entry-index l.entries)) l.name ≡ entry_of (map arc_value l.entries) l.name
