use Rattle.std.proofs.Common.{◌≡◌, ◌<◌, ◌≤◌, ◌-◌, ◌∙◌, sym, subst, arith, length, set}
use Rattle.jk_walk.specs.TilePackets.{slice_of}
use Rattle.jk_window.specs.Planning.{PlanFields, IsLast, IsBehind, no_step}
use Rattle.jk_window.proofs.PlanLaws.{plan_of, join_plan, get_same}
use Rattle.jk_window.proofs.steps.CutPlan.lengthen.Goals as goal

pub returns : goal.returns
returns c =
    let i = c.self.inside in
    let n = c.args.last in
    let x = c.index-step.result.now in
    let p = plan_of i.steps.items i.written.items i.size in
    let last : IsLast p n (λ s. (s.written ≡ 0) × (s.end ≡ c.args.start)) =
    subst (λ (q : PlanFields). IsLast q n (λ s. (s.written ≡ 0) × (s.end ≡ c.args.start))) (sym c.self.view_is) c.requires.last in
    let some = last.last in
    let lt : n < length i.steps.items = omega (arith, some) in
    let within = c.requires.within in
    let b = join_plan p n x c.args.start c.args.end c.self.invariant last (c.index-step.ensures ∙ get_same i.steps.items n x no_step lt) c.requires.order
    (subst (λ (q : PlanFields). c.args.end ≤ q.size) (sym c.self.view_is) within) in
    subst (λ (q : PlanFields). IsBehind q (plan_of (set i.steps.items n (record { start = x.start; end = c.args.end; written = x.written })) i.written.items i.size)
    (λ file. slice_of file (c.args.start, c.args.end)) (c.args.end - c.args.start)) c.self.view_is b.behind
