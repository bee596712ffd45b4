use Rattle.std.proofs.Common.{◌≡◌, ◌≤◌, subst, arith}
use Rattle.jk_math.specs.Picture.{IsPicture, IsFrame}
use Rattle.jk_pnm.specs.declared.rasters.RasterFrame.{RasterFrame}
use Rattle.jk_commands.proofs.FileRowLaws.{AreBelow, below_more, below_all}
use Rattle.jk_commands.proofs.encoding_rows.judge.Goals as goal

pub loop-y-preserved : goal.loop-y-preserved
loop-y-preserved c =
    let d = c.args.raster.now in
    let y = c.loop-y.y in
    let z = c.stripe_end-end.result in
    let more = c.stripe_end-end.ensures.more in
    let to = c.stripe_end-end.ensures.to in
    let height = c.loop-y.invariant.1 in
    let is : IsPicture c.in_ok-rows.field-0 = subst IsPicture c.drop.view_is c.drop.invariant in
    (to, height, below_more d y z more (omega (arith, to, height)) c.loop-y.invariant.2 (subst IsPicture c.in_ok-rows.ensures.rows is))

pub returns-clause-ok : goal.returns-clause-ok
returns-clause-ok c =
    let d = c.args.raster.now in
    let value = c.frame-height.ensures.value in
    let high = c.loop-y.invariant.0 in
    let height = c.loop-y.invariant.1 in
    let done = c.loop-y-test.false in
    let all : c.loop-y.y ≡ d.header.height = omega (arith, high, height, done) in
    below_all d
    (subst (λ (f : RasterFrame). IsFrame 0 0 f.width f.height) value c.frame-height.ensures.size)
    (subst (λ (f : RasterFrame). (1 ≤ f.depth) × (f.depth ≤ 16)) value c.frame-height.ensures.bits)
    (subst (λ rows. AreBelow d rows) all c.loop-y.invariant.2)
