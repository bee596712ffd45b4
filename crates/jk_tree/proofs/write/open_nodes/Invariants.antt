use Rattle.std.proofs.Common.{◌≡◌, replicate}
use Rattle.jk_tree.proofs.write.open_nodes.Given as goal

abbrev pub invariant-loop : goal.invariant-loop
invariant-loop l = l.nodes.items ≡ replicate l.counter record { value = 65535; told = 0 }
