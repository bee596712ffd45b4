use Rattle.std.proofs.Common.{◌-◌, length}
use Rattle.std.specs.Prelude.{IfSome}
use Rattle.jk_window.specs.Judging.{IsJudged}
use Rattle.jk_window.proofs.RunPlans.{IsRunning}
use Rattle.jk_window.proofs.contents.plan_run.Given as goal

abbrev pub invariant-loop-at : goal.invariant-loop-at
invariant-loop-at l = IsRunning l.size l.tile l.names l.next l.start l.end l.plan l.i l.at × IfSome l.last (IsJudged l.tile)

abbrev pub decreases-loop-at : goal.decreases-loop-at
decreases-loop-at l = length l.names - l.i
