use Rattle.jk_window.proofs.RunPlans.{AreRunning}
use Rattle.jk_window.proofs.contents.plan_runs.Given as goal

abbrev pub invariant-loop-part : goal.invariant-loop-part
invariant-loop-part l = AreRunning l.size l.tile l.names l.parts l.plans.items l.part-index l.next
