use Rattle.jk_tree.proofs.Written.{Built}
use Rattle.jk_tree.proofs.write.WriteTree.new.Given as goal

abbrev pub invariant-loop-leaf : goal.invariant-loop-leaf
invariant-loop-leaf l = Built record { width = l.width; height = l.height } l.values l.leaf l.nodes.items
