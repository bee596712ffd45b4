use Rattle.std.proofs.Common.{◌-◌, refl, arith}
use Rattle.jk_order.proofs.Queueing.{none_queue, grown_ascends, grown_numbers, later, same_queue, put_queue_state, passed_queue_state}
use Rattle.jk_order.proofs.packets.queue_of.Goals as goal
use Rattle.jk_order.proofs.packets.queue_of.Goals.{then-heads-i-lt-FINISHED, else-heads-i-lt-FINISHED}

pub loop-k-init : goal.loop-k-init
loop-k-init c = (refl, omega arith, omega arith, none_queue c.args.heads.now)

pub loop-k-preserved : goal.loop-k-preserved
loop-k-preserved c =
    elim c.if-heads-i-lt-FINISHED.branch [
      | then-heads-i-lt-FINISHED w ↦ same_queue _ _ _ _ _ _ w.numbers-is w.first-is
          (put_queue_state c.loop-k.k c.loop-k.first c.args.heads.now c.loop-k.numbers w.put_back.new.queue c.loop-k-test.true (omega arith) c.loop-k.invariant w.put_back.auto.queue w.put_back.ensures)
      | else-heads-i-lt-FINISHED w ↦ same_queue _ _ _ _ _ _ w.numbers-is w.first-is
          (passed_queue_state c.loop-k.k c.loop-k.first c.args.heads.now c.loop-k.numbers c.loop-k-test.true c.loop-k.invariant w.if-heads-i-lt-FINISHED.false)
    ]

pub put_back-requires-clause-numbers : goal.put_back-requires-clause-numbers
put_back-requires-clause-numbers c =
    let k = c.loop-k.k in
    let p = c.loop-k.first in
    let q = c.loop-k.numbers in
    grown_numbers (43 - k) (p - 1) c.args.heads.now q (omega arith) (omega arith) c.loop-k.invariant.0
    (later k p c.args.heads.now q c.loop-k-test.true (omega arith) c.loop-k.invariant.3)

pub put_back-requires-clause-ascends : goal.put_back-requires-clause-ascends
put_back-requires-clause-ascends c =
    let k = c.loop-k.k in
    let p = c.loop-k.first in
    let q = c.loop-k.numbers in
    grown_ascends (43 - k) (p - 1) c.args.heads.now q (omega arith) (omega arith) c.loop-k.invariant.0
    (later k p c.args.heads.now q c.loop-k-test.true (omega arith) c.loop-k.invariant.3)
