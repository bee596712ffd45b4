use Rattle.std.proofs.Common.{ℕ, List, length, refl, sym, subst, arith}
use Rattle.std.specs.List.{AllZip}
use Rattle.jk_window.specs.PartEnds.{AreEnds, cut_at}
use Rattle.jk_window.specs.Planning.{IsRunPlan}
use Rattle.jk_window.specs.Numbered.{packets_in}
use Rattle.jk_window.proofs.NumberedPlans.{cuts_start, cut_next, cuts_more, cuts_over}
use Rattle.jk_window.proofs.numbered.plan_intervals.Goals as goal

pub loop-end-init : goal.loop-end-init
loop-end-init c = record {
  cuts =
      cuts_start c.args.size c.args.tile.now c.deref-end-items.result.now c.in_ok-plans.plans.items c.in_ok-plans.ensures.items
      (subst (AreEnds 0 (length c.args.tile.now.entries.now)) (sym c.deref-end-items.ensures.value) c.requires.cut.ends);
  within = omega arith;
  before = λ k lt. absurd (omega (arith, lt));
}

pub plan_numbers-requires-clause-order : goal.plan_numbers-requires-clause-order
plan_numbers-requires-clause-order c =
    (cut_next c.args.size c.args.tile.now c.deref-end-items.result.now c.loop-end.plans.items c.loop-end.end-index c.loop-end.first _ _ c.loop-end.invariant.cuts c.loop-end-test.true refl).0

pub plan_numbers-requires-clause-within : goal.plan_numbers-requires-clause-within
plan_numbers-requires-clause-within c =
    (cut_next c.args.size c.args.tile.now c.deref-end-items.result.now c.loop-end.plans.items c.loop-end.end-index c.loop-end.first _ _ c.loop-end.invariant.cuts c.loop-end-test.true refl).1

pub loop-end-preserved : goal.loop-end-preserved
loop-end-preserved c = record {
  cuts =
      cuts_more c.args.size c.args.tile.now c.deref-end-items.result.now c.loop-end.plans.items c.push.new.self.items c.loop-end.end-index c.loop-end.first _ _ c.in_ok-plan.plan
      c.loop-end.invariant.cuts c.loop-end-test.true refl c.in_ok-plan.ensures.plan c.in_ok-push.ensures.items;
  within = c.in_ok-plan.ensures.next;
  before = c.in_ok-plan.ensures.before;
}

pub returns-clause-plans : goal.returns-clause-plans
returns-clause-plans c =
    subst (λ (ends : List ℕ). AllZip (IsRunPlan c.args.size c.args.tile.now) (cut_at (packets_in c.args.tile.now) 0 ends) c.loop-end.plans.items) c.deref-end-items.ensures.value
    (cuts_over c.args.size c.args.tile.now c.deref-end-items.result.now c.loop-end.plans.items c.loop-end.end-index c.loop-end.first c.loop-end.invariant.cuts c.loop-end-test.false)
