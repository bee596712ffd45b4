use Rattle.std.proofs.Common.{◌≡◌, map, drop}
use Rattle.std.specs.Arc.{arc_value}
use Rattle.jk_store.specs.Catalogue.{is_listed}
use Rattle.jk_serve.proofs.table.Table.has.Given as goal

-- what is left has the name where all have it
abbrev pub invariant-loop-entry : goal.invariant-loop-entry
invariant-loop-entry g l = is_listed (map arc_value l.self.archive.entries.items) l.name ≡ is_listed (map arc_value (drop l.entry-index l.self.archive.entries.items)) l.name
