use Rattle.jk_window.proofs.PartPlans.{IsGoing}
use Rattle.jk_window.proofs.planning.plan_parts.Given as goal

abbrev pub invariant-loop-head : goal.invariant-loop-head
invariant-loop-head l = IsGoing l.index l.window l.fn.view l.initial.plan l.plan l.head-items l.head-index l.at
