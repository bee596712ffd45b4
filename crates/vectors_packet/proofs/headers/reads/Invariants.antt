use Rattle.std.proofs.Common.{◌≡◌}
use Rattle.vectors_packet.proofs.headers.reads.Given as goal

abbrev pub invariant-loop-packet : goal.invariant-loop-packet
invariant-loop-packet g l = l.layer ≡ l.precinct.layers
