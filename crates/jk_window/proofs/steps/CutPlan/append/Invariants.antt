use Rattle.jk_window.proofs.PlanLaws.{IsAppending}
use Rattle.jk_window.proofs.steps.CutPlan.append.Given as goal

abbrev pub invariant-loop-step : goal.invariant-loop-step
invariant-loop-step l = IsAppending l.initial.self l.self l.step-items l.other.written l.step-index l.at
