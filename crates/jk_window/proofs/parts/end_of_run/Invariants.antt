use Rattle.std.proofs.Common.{◌-◌, length}
use Rattle.jk_window.proofs.PartLaws.{IsEnding}
use Rattle.jk_window.proofs.parts.end_of_run.Given as goal

abbrev pub invariant-loop-at : goal.invariant-loop-at
invariant-loop-at l = IsEnding l.entries l.next l.start l.end l.i l.at

abbrev pub decreases-loop-at : goal.decreases-loop-at
decreases-loop-at l = length l.entries - l.i
