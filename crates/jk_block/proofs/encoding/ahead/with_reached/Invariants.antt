use Rattle.std.proofs.Common.{◌-◌, ◌^◌}
use Rattle.jk_block.proofs.encoding.Reaching.{Reaching}
use Rattle.jk_block.proofs.encoding.ahead.with_reached.Given as goal

abbrev pub invariant-loop-more : goal.invariant-loop-more
invariant-loop-more l = Reaching l.candidates l.ones l.free l.all l.more

abbrev pub decreases-loop-more : goal.decreases-loop-more
decreases-loop-more l = 2 ^ 64 - l.all
