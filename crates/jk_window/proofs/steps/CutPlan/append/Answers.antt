use Rattle.std.proofs.Common.{◌≡◌, ◌+◌, ◌-◌, ◌∙◌, List, sym, subst, ap, arith, length, get_or, take, drop}
use Rattle.std.specs.List.{AllByRecursion}
use Rattle.std.specs.Prelude.{sum_by}
use Rattle.jk_window.specs.declared.steps.CutStep.{CutStep}
use Rattle.jk_window.specs.Planning.{PlanFields, planned, plan_text, plan_length, step_length, IsStep, no_step}
use Rattle.jk_window.proofs.PlanLaws.{written_of, appending_starts, appending_more, appending_over, behind_same}
use Rattle.jk_window.proofs.steps.CutPlan.append.Goals as goal

pub loop-step-init : goal.loop-step-init
loop-step-init c =
    let i = c.other.inside in
    let items = c.deref-step-items.result.now in
    let own = c.deref-step-items.ensures.value in
    let v = c.other.view_is in
    let size : i.size ≡ c.args.self.now.size = ap (λ (q : PlanFields). q.size) v ∙ c.requires in
    let sum : sum_by written_of items ≡ length c.args.other.now.written =
    ap (λ (xs : List CutStep). sum_by written_of xs) own ∙ c.other.invariant.written ∙ ap (λ (q : PlanFields). length q.written) v in
    appending_starts c.args.self.now items c.args.other.now.written i.size size (subst (AllByRecursion (IsStep i.size)) (sym own) c.other.invariant.steps) sum

pub loop-step-preserved : goal.loop-step-preserved
loop-step-preserved c =
    let items = c.deref-step-items.result.now in
    let s = get_or items c.loop-step.step-index no_step in
    let written = c.args.other.now.written in
    let own : c.deref.result.now ≡ written = c.deref.ensures.value ∙ ap (λ (q : PlanFields). q.written) c.other.view_is in
    let there = c.loop-step.invariant.there in
    let piece : take (c.loop-step.at + s.written - c.loop-step.at) (drop c.loop-step.at c.deref.result.now) ≡ take s.written (drop c.loop-step.at written) =
    (let n : c.loop-step.at + s.written - c.loop-step.at ≡ s.written = omega arith in λ j. take (n j) (drop c.loop-step.at (own j))) in
    appending_more c.args.self.now c.loop-step.self c.append_step.new.self items written _ c.loop-step.step-index c.loop-step.at c.loop-step.invariant c.loop-step-test.true piece c.in_ok-append_step.ensures.ok

pub returns-clause-ok : goal.returns-clause-ok
returns-clause-ok c =
    let items = c.deref-step-items.result.now in
    let written = c.args.other.now.written in
    let own : items ≡ c.args.other.now.steps = c.deref-step-items.ensures.value ∙ ap (λ (q : PlanFields). q.steps) c.other.view_is in
    let over = appending_over c.args.self.now c.loop-step.self items written c.loop-step.step-index c.loop-step.at c.loop-step.invariant c.loop-step-test.false in
    behind_same c.args.self.now c.loop-step.self (λ file. planned file items written) (λ file. plan_text file c.args.other.now) (sum_by step_length items) (plan_length c.args.other.now) over
    (λ file. ap (λ (xs : List CutStep). planned file xs written) own) (ap (sum_by step_length) own)
