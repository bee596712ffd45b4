use Rattle.vectors_packet.proofs.PrecinctSizes.{AreSizes}
use Rattle.vectors_packet.proofs.order.random.any_coding.Given as goal

abbrev pub invariant-loop-r : goal.invariant-loop-r
invariant-loop-r l = AreSizes l.sizes
