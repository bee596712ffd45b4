use Rattle.std.proofs.Common.{◌≡◌, false, replicate}
use Rattle.jk_tree.proofs.node.blank_nodes.Given as goal

abbrev pub invariant-loop : goal.invariant-loop
invariant-loop l = l.nodes.items ≡ replicate l.counter record { low = 0; known = false }
