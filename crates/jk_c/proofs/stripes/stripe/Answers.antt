use Rattle.std.proofs.Common.{map}
use Rattle.jk_math.specs.Lists.{lists_of}
use Rattle.jk_c.proofs.PicturedLaws.{rows_whole, stripe_planes, stripe_made, stripe_refused}
use Rattle.jk_c.proofs.stripes.stripe.Goals as goal

pub planes-requires : goal.planes-requires
planes-requires g c =
    let f = c.args.frame.now in
    rows_whole f.width f.height f.components c.args.from c.args.to c.args.pixels.now c.requires.order c.requires.inside c.requires.whole

pub returns-clause-rows : goal.returns-clause-rows
returns-clause-rows g c =
    let f = c.args.frame.now in
    let planes = lists_of c.in_ok-planes.planes.items in
    stripe_made f (map g.T.Sample.value c.args.pixels.now) c.args.from c.args.to planes c.new.result
    (stripe_planes g.T.Sample.value f c.args.pixels.now c.args.from c.args.to planes c.requires.order c.in_ok-planes.ensures.value) c.new.ensures.value

pub returns-clause-refused : goal.returns-clause-refused
returns-clause-refused g c =
    let f = c.args.frame.now in
    let planes = lists_of c.in_ok-planes.planes.items in
    stripe_refused f (map g.T.Sample.value c.args.pixels.now) c.args.from c.args.to planes c.new.result c.requires.order c.requires.inside
    (stripe_planes g.T.Sample.value f c.args.pixels.now c.args.from c.args.to planes c.requires.order c.in_ok-planes.ensures.value) c.new.ensures.made c.new.ensures.refused
