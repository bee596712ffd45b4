use Rattle.std.proofs.Common.{◌≡◌, map, take}
use Rattle.std.specs.Arc.{arc_value}
use Rattle.jk_hall.proofs.hall.history_of.Given as goal

-- those before are in the history
abbrev pub invariant-loop-entry : goal.invariant-loop-entry
invariant-loop-entry g l = l.history.front.seen.log ≡ map arc_value (take l.entry-index l.entries)
