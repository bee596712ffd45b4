use Rattle.std.proofs.Common.{arith}
use Rattle.jk_extras.proofs.Sizes.{size_at, no_more}
use Rattle.jk_extras.proofs.judging.others_size.Goals as goal

pub overflow_add-size : goal.overflow_add-size
overflow_add-size c =
    omega (arith, size_at c.args.others.now c.loop-other.other-index c.other-item.result (omega arith) c.other-item.is, c.other_size-size.ensures, c.loop-other.invariant, c.requires)

pub loop-other-preserved : goal.loop-other-preserved
loop-other-preserved c =
    omega (arith, size_at c.args.others.now c.loop-other.other-index c.other-item.result (omega arith) c.other-item.is, c.other_size-size.ensures, c.loop-other.invariant)

pub returns : goal.returns
returns c = omega (arith, no_more c.args.others.now c.loop-other.other-index (omega arith), c.loop-other.invariant)
