use Rattle.jk_order.proofs.Queueing.{Queued}
use Rattle.jk_order.proofs.packets.queue_of.Given as goal

abbrev pub invariant-loop-k : goal.invariant-loop-k
invariant-loop-k l = Queued l.numbers l.first l.k l.heads
