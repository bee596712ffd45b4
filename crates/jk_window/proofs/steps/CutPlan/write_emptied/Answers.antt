use Rattle.std.proofs.Common.{arith}
use Rattle.jk_window.proofs.NumberedPlans.{emptied_starts, emptied_more, emptied_over}
use Rattle.jk_window.proofs.steps.CutPlan.write_emptied.Goals as goal

pub loop-left-init : goal.loop-left-init
loop-left-init c = record { few = omega arith; behind = emptied_starts c.args.self.now c.args.count c.args.eph }

pub loop-left-preserved : goal.loop-left-preserved
loop-left-preserved c =
    let few = c.loop-left.invariant.few in
    let least = c.min-some.ensures in
    record {
      few = omega (arith, few);
      behind =
          emptied_more c.args.self.now c.loop-left.self c.write.new.self c.args.count c.loop-left.left c.min-some.result c.args.eph c.emptied.result.now few (omega (arith, least))
          c.emptied.ensures c.loop-left.invariant.behind c.in_ok-write.ensures.ok;
    }

pub returns-clause-ok : goal.returns-clause-ok
returns-clause-ok c = emptied_over c.args.self.now c.loop-left.self c.args.count c.loop-left.left c.args.eph (omega (arith, c.loop-left-test.false)) c.loop-left.invariant.behind
