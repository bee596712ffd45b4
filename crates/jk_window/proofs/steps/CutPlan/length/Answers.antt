use Rattle.std.proofs.Common.{ap, arith}
use Rattle.std.specs.Prelude.{sum_by}
use Rattle.std.proofs.lemmas.List.{drop_all}
use Rattle.jk_window.specs.Planning.{step_length}
use Rattle.jk_window.proofs.steps.CutPlan.length.Goals as goal

pub returns : goal.returns
returns c =
    let items = c.deref-step-items.result.now in
    let none = ap (sum_by step_length) (drop_all c.loop-step.step-index items (omega (arith, c.loop-step-test.false))) in
    let inv = c.loop-step.invariant.0 in
    omega (arith, none, inv, c.loop-step.invariant.1)
