use Rattle.std.proofs.Common.{◌≤◌, ◌-◌, List, sym, subst}
use Rattle.jk_walk.specs.TilePackets.{slice_of}
use Rattle.jk_window.specs.declared.steps.CutStep.{CutStep}
use Rattle.jk_window.specs.Planning.{PlanFields, IsBehind}
use Rattle.jk_window.proofs.PlanLaws.{plan_of, copy_plan}
use Rattle.jk_window.proofs.steps.CutPlan.push.Goals as goal

pub returns-clause-ok : goal.returns-clause-ok
returns-clause-ok c =
    let i = c.self.inside in
    let p = plan_of i.steps.items i.written.items i.size in
    let within = c.requires.within in
    let b = copy_plan p c.args.start c.args.end c.self.invariant c.requires.order (subst (λ (q : PlanFields). c.args.end ≤ q.size) (sym c.self.view_is) within) in
    subst (λ (q : PlanFields). IsBehind q (plan_of c.push.new.self.items i.written.items i.size) (λ file. slice_of file (c.args.start, c.args.end)) (c.args.end - c.args.start)) c.self.view_is
    (subst (λ (steps : List CutStep). IsBehind p (plan_of steps i.written.items i.size) (λ file. slice_of file (c.args.start, c.args.end)) (c.args.end - c.args.start)) (sym c.in_ok-push.ensures.items) b.behind)
