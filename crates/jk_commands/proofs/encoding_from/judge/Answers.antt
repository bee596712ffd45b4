use Rattle.std.proofs.Common.{◌≡◌, ◌≤◌, subst, arith}
use Rattle.std.proofs.lemmas.Result.{err_from_is_err_and}
use Rattle.jk_math.specs.Picture.{IsPicture, IsFrame}
use Rattle.jk_pnm.specs.declared.rasters.RasterFrame.{RasterFrame}
use Rattle.jk_commands.proofs.StreamJudging.{judged_none, judged_more, judged_all, judged_refused}
use Rattle.jk_commands.proofs.encoding_from.judge.Goals as goal

pub loop-y-init : goal.loop-y-init
loop-y-init g c = record {
  judged = judged_none g.S.Read.remaining c.args.head.now c.args.incoming.now;
  height = (let value = c.frame-height.ensures.value in cc);
}

pub loop-y-preserved : goal.loop-y-preserved
loop-y-preserved g c = record {
  judged = judged_more g.S.Read.remaining c.args.head.now c.args.incoming.now c.loop-y.incoming c.next_rows.new.incoming c.loop-y.y c.stripe_end-end.result c.in_ok-next_rows.field-0
      c.loop-y.invariant.judged c.in_ok-next_rows.ensures.read (subst IsPicture c.drop.view_is c.drop.invariant);
  height = c.loop-y.invariant.height;
}

pub returns-clause-ok : goal.returns-clause-ok
returns-clause-ok g c =
    let h = c.args.head.now in
    let value = c.frame-height.ensures.value in
    let high = c.loop-y.invariant.judged.inside in
    let height = c.loop-y.invariant.height in
    let done = c.loop-y-test.false in
    let all : c.loop-y.y ≡ h.height = omega (arith, high, height, done) in
    judged_all g.S.Read.remaining h c.args.incoming.now c.loop-y.incoming c.loop-y.y
    (subst (λ (f : RasterFrame). IsFrame 0 0 f.width f.height) value c.frame-height.ensures.size)
    (subst (λ (f : RasterFrame). (1 ≤ f.depth) × (f.depth ≤ 16)) value c.frame-height.ensures.bits) all c.loop-y.invariant.judged

pub returns-in_err-next_rows-clause-err : goal.returns-in_err-next_rows-clause-err
returns-in_err-next_rows-clause-err g c =
    let same = err_from_is_err_and c.from_residual.result c.from_residual.ensures.1 in
    rw (same.1, same.2)
    (judged_refused g.S.Read.remaining c.args.head.now c.args.incoming.now c.loop-y.incoming c.next_rows.new.incoming c.loop-y.y c.in_err-next_rows.field-0.0 c.loop-y.invariant.judged c.in_err-next_rows.ensures.fault)
