use Rattle.std.proofs.Common.{◌≡◌}
use Rattle.vectors_packet.proofs.sizes.a_million_blocks_in_all_layers.Given as goal

abbrev pub invariant-loop-layer : goal.invariant-loop-layer
invariant-loop-layer g l = l.layer ≡ l.precinct.layers
