use Rattle.std.proofs.Common.{arith}
use Rattle.jk_jobs.proofs.Shares.{empty_more}
use Rattle.jk_jobs.proofs.dealing.empty_slots.Goals as goal

pub loop-preserved : goal.loop-preserved
loop-preserved g c = record {
  long = omega (arith, c.in_ok-push.ensures.len, c.loop.invariant.long);
  empty = empty_more c.loop.slots.items c.push.new.self.items c.loop.invariant.empty c.in_ok-push.ensures.items;
}
