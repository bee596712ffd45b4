use Rattle.std.proofs.Common.{◌+◌, ◌++◌, List, ℤ, ap, subst, sym, ◌∙◌, arith}
use Rattle.jk_tile.proofs.encoding.Copying.{IsCut, cut_more, cut_all}
use Rattle.jk_tile.proofs.encoding.cutting.cut_out.Goals as goal

pub loop-row-preserved : goal.loop-row-preserved
loop-row-preserved c =
    subst (IsCut c.args.area.now c.args.part.now (c.loop-row.row + 1) c.args.values.now) (sym (c.in_ok-extend_from_slice.ensures.items ∙ ap (λ (l : List ℤ). c.loop-row.list.items ++ l) c.row_of.ensures))
    (cut_more c.args.area.now c.args.part.now c.loop-row.row c.args.values.now c.loop-row.list.items c.requires.part c.requires.whole c.loop-row-test.true c.loop-row.invariant)

pub returns-clause-value : goal.returns-clause-value
returns-clause-value c = cut_all c.args.area.now c.args.part.now c.loop-row.row c.args.values.now c.loop-row.list.items c.requires.part (omega (arith, c.loop-row-test.false, c.loop-row.auto.row-end)) c.loop-row.invariant
