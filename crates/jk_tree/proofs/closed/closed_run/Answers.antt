use Rattle.std.proofs.Common.{inl, inr, arith}
use Rattle.std.proofs.lemmas.Bool.{cases_lt}
use Rattle.jk_tree.specs.TagTree.{Shape}
use Rattle.jk_tree.proofs.Closing.{closed_with}
use Rattle.jk_tree.proofs.closed.closed_run.Goals as goal

pub loop-end-preserved : goal.loop-end-preserved
loop-end-preserved c =
    let s : Shape = record { width = c.args.levels.width; height = c.args.levels.height } in
    let i = c.loop-end.invariant in
    let end = c.loop-end.end in
    let level = c.in-Some.level in
    let end_is = c.min-end.ensures in
    let below_is = c.min-below.ensures in
    let after = c.behind.ensures.after in
    let under = c.behind-in-loop-end.ensures.after in
    let here = c.loop-end-test.true in
    record {
      from = (let f = i.from in omega (arith, f, end_is, after, here));
      within = omega (arith, end_is);
      under = (let u = i.under in omega (arith, u, below_is, under));
      deep = (let d = i.deep in omega (arith, d, below_is));
      closed = λ x y from to down upto. elim (cases_lt x end) [
        | inl before ↦ i.closed x y from before down (omega (arith, upto, below_is))
        | inr behind ↦ (level, closed_with s c.args.nodes.now c.args.threshold level end c.args.row x y c.in-Some.ensures.closed (c.behind.ensures.same x behind (omega (arith, to, end_is))) (c.behind-in-loop-end.ensures.same y down (omega (arith, upto, below_is))))
      ];
    }
