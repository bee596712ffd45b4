use Rattle.std.proofs.Common.{arith}
use Rattle.jk_block.proofs.encoding.Reaching.{reaching_first, reaching_more, reaching_less, reaching_all}
use Rattle.jk_block.proofs.encoding.ahead.with_reached.Goals as goal

pub loop-more-init : goal.loop-more-init
loop-more-init c = reaching_first c.args.candidates c.args.ones c.args.free c.reached.result (omega arith) (omega arith) c.reached.ensures

pub loop-more-preserved : goal.loop-more-preserved
loop-more-preserved c =
    let l = c.loop-more in
    reaching_more c.args.candidates c.args.ones c.args.free l.all l.more c.reached-in-loop-more.result (omega arith) (omega arith) l.invariant c.reached-in-loop-more.ensures

pub loop-more-smaller : goal.loop-more-smaller
loop-more-smaller c =
    let l = c.loop-more in
    let less = reaching_less c.args.candidates c.args.ones c.args.free l.all l.more l.invariant c.loop-more-test.true in
    let fits = l.invariant.fits in
    omega (arith, less, fits)

pub returns : goal.returns
returns c =
    let l = c.loop-more in
    reaching_all c.args.candidates c.args.ones c.args.free l.all l.more l.invariant (omega arith)
