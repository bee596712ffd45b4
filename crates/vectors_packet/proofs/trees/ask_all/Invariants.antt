use Rattle.std.proofs.Common.{◌≡◌}
use Rattle.vectors_packet.proofs.trees.ask_all.Given as goal

abbrev pub invariant-loop-text : goal.invariant-loop-text
invariant-loop-text g l = l.tree.shape ≡ record { width = l.width; height = l.height }
