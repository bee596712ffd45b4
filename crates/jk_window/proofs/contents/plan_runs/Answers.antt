use Rattle.std.proofs.Common.{refl}
use Rattle.jk_window.proofs.RunPlans.{runs_more, runs_end}
use Rattle.jk_window.proofs.contents.plan_runs.Goals as goal

pub loop-part-preserved : goal.loop-part-preserved
loop-part-preserved c =
    runs_more c.args.size c.args.tile.now c.args.names.now c.args.parts.now c.loop-part.plans.items c.push.new.self.items c.loop-part.part-index c.loop-part.next c.in_ok-plan.behind _ _ c.in_ok-plan.plan
    c.loop-part.invariant c.loop-part-test.true refl c.in_ok-plan.ensures.plan c.in_ok-plan.ensures.next c.in_ok-push.ensures.items

pub returns-clause-plans : goal.returns-clause-plans
returns-clause-plans c =
    runs_end c.args.size c.args.tile.now c.args.names.now c.args.parts.now c.loop-part.plans.items c.loop-part.part-index c.loop-part.next c.loop-part.invariant c.loop-part-test.false
