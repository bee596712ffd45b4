use Rattle.std.proofs.Common.{◌≡◌, ◌++◌, map, drop}
use Rattle.std.specs.List.{flat_map}
use Rattle.std.specs.Arc.{arc_value}
use Rattle.jk_store.specs.Showing.{line_of}
use Rattle.jk_store.proofs.showing.lines_of.Given as goal

-- the lines so far, and those that are left
abbrev pub invariant-loop-entry : goal.invariant-loop-entry
invariant-loop-entry l = l.out.items ++ flat_map line_of (map arc_value (drop l.entry-index l.entries)) ≡ flat_map line_of (map arc_value l.entries)
