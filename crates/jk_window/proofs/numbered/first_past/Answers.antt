use Rattle.std.proofs.Common.{refl, get_or, arith}
use Rattle.jk_window.proofs.Passing.{past_one_more}
use Rattle.jk_window.proofs.numbered.first_past.Goals as goal

pub loop-i-preserved : goal.loop-i-preserved
loop-i-preserved c = record {
  before = past_one_more c.args.intervals.now c.loop-i.i c.args.at (get_or c.args.intervals.now c.loop-i.i (0, 0)) c.loop-i.invariant.before refl c.if-intervals-i.true;
  within = omega (arith, c.loop-i-test.true);
}
