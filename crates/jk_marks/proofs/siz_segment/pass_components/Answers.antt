use Rattle.std.proofs.Common.{sym, refl, ◌∙◌}
use Rattle.std.proofs.lemmas.Result.{err_from_is_err_and}
use Rattle.jk_marks.proofs.Loops.{components_more, components_end}
use Rattle.jk_marks.proofs.siz_segment.pass_components.Goals as goal

pub returns-in_err-pass_component : goal.returns-in_err-pass_component
returns-in_err-pass_component c =
    let p = err_from_is_err_and c.from_residual.result c.from_residual.ensures.1 in
    let step = components_more c.args.count c.loop.counter c.args.common c.loop.cursor c.loop-test.true in
    rw (p.1, p.2) (sym c.loop.invariant ∙ step ∙ rw c.in_err-pass_component.ensures refl)

pub loop-preserved : goal.loop-preserved
loop-preserved c =
    let step = components_more c.args.count c.loop.counter c.args.common c.loop.cursor c.loop-test.true in
    sym (sym c.loop.invariant ∙ step ∙ rw c.in_ok-pass_component.ensures refl)

pub returns : goal.returns
returns c = sym c.loop.invariant ∙ components_end c.args.count c.loop.counter c.args.common c.loop.cursor c.loop-test.false
