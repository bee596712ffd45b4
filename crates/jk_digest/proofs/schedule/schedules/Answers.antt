-- Words from 16 on are made of those before.
use Rattle.jk_digest.specs.Schedules.{one_of}
use Rattle.jk_digest.proofs.Storing.{made_next}
use Rattle.jk_digest.proofs.schedule.schedules.Goals as goal

pub loop-t-preserved : goal.loop-t-preserved
loop-t-preserved c = c.store.ensures (one_of c.args.a.now c.args.b.now c.args.c.now c.args.d.now) c.loop-t.invariant c.first-each.ensures.each

pub loop-t-2-preserved : goal.loop-t-2-preserved
loop-t-2-preserved c = c.store-in-loop-t-2.ensures (one_of c.args.a.now c.args.b.now c.args.c.now c.args.d.now) c.loop-t-2.invariant
    (made_next (one_of c.args.a.now c.args.b.now c.args.c.now c.args.d.now) c.loop-t-2.words c.next-each.result c.loop-t-2.t c.loop-t-2.auto.t c.loop-t-2-test.true c.loop-t-2.invariant c.next-each.ensures.each)
