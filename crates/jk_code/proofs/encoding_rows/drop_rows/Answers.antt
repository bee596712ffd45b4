use Rattle.std.proofs.Common.{subst, ◌∙◌, arith}
use Rattle.jk_math.specs.Picture.{IsPicture}
use Rattle.jk_params.specs.declared.picture_frame.PictureFrame.{PictureFrame}
use Rattle.jk_code.specs.RowsWritten.{IsStripe}
use Rattle.jk_code.proofs.PictureRows.{blank, joined, given_none, given_more}
use Rattle.jk_code.proofs.encoding_rows.drop_rows.Goals as goal

pub loop-y-init : goal.loop-y-init
loop-y-init g c = record {
  low = omega arith;
  high = omega arith;
  framed = c.requires.framed;
  next = c.requires.first;
  given = (blank c.args.frame.now, given_none g.S.RowSupply.gave c.args.frame.now c.args.frame.now.y0 c.args.supply.now c.requires.frame);
}

pub loop-y-preserved : goal.loop-y-preserved
loop-y-preserved g c =
    let f = c.args.frame.now in
    let y = c.loop-y.y in
    let z = c.step_end-to.result in
    let p = c.loop-y.invariant.given.0 in
    let v = c.in_ok-give.field-0 in
    let is : IsPicture v = subst IsPicture c.drop.view_is c.drop.invariant in
    let stripe : IsStripe f y z v =
    subst (λ n. IsStripe f n z v) c.loop-y.invariant.next (subst (λ (x : PictureFrame). IsStripe x (g.S.RowSupply.next c.loop-y.supply) z v) c.loop-y.invariant.framed c.in_ok-give.ensures.rows) in
    record {
      low = omega arith;
      high = omega arith;
      framed = c.in_ok-give.ensures.stays ∙ c.loop-y.invariant.framed;
      next = c.in_ok-give.ensures.next;
      given = (
        joined y p v,
        given_more g.S.RowSupply.gave f f.y0 y z c.args.supply.now c.loop-y.supply c.give.new.self p v (omega arith) (omega arith) (omega arith) (omega arith) c.loop-y.invariant.given.1 is stripe c.in_ok-give.ensures.gave,
      );
    }
