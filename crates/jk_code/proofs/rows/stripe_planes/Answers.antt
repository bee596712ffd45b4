use Rattle.std.proofs.Common.{subst, arith}
use Rattle.jk_code.specs.Sources.{IsImageSource}
use Rattle.jk_code.proofs.TileRowing.{some_across}
use Rattle.jk_code.proofs.rows.stripe_planes.Goals as goal

pub part_of_stripe-part-requires : goal.part_of_stripe-part-requires
part_of_stripe-part-requires c =
    let is = subst IsImageSource c.coded.view_is c.coded.invariant in
    let some = some_across c.args.coded.now.headers.siz is.sound.siz in
    let whole = c.requires.row.whole in
    omega (arith, some, whole)
