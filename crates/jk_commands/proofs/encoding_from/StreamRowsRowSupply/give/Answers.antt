use Rattle.std.proofs.Common.{◌-◌, refl}
use Rattle.jk_math.specs.Picture.{IsFrame}
use Rattle.jk_math.specs.Steps.{if_ok}
use Rattle.jk_commands.proofs.StreamLaws.{stripe_frame, stripe_fits, placed_or}
use Rattle.jk_commands.proofs.encoding_from.StreamRowsRowSupply.give.Goals as goal

pub returns-clause-rows : goal.returns-clause-rows
returns-clause-rows g c =
    let s = c.args.self.now in
    let read = c.in_ok-stripe.ensures.read in
    if_ok c.place.result (λ v is. stripe_frame s.head s.x0 s.y0 s.given c.args.end c.in_ok-stripe.stripe v is read.frame) c.place.ensures.value

pub returns-clause-met : goal.returns-clause-met
returns-clause-met g c =
    let s = c.args.self.now in
    let read = c.in_ok-stripe.ensures.read in
    placed_or c.place.result _ (IsFrame s.x0 s.y0 s.head.width s.head.height) _ _ refl
    (λ f. c.place.ensures.placed (stripe_fits s.head s.x0 s.y0 s.given (c.args.end - s.y0) c.in_ok-stripe.stripe read.order read.inside read.frame f))
