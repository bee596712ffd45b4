use Rattle.std.proofs.Common.{◌≡◌, ◌++◌, false, replicate}
use Rattle.jk_tree.proofs.write.push_zeros.Given as goal

abbrev pub invariant-loop : goal.invariant-loop
invariant-loop l = l.writer ≡ record l.fn.writer { bits = l.fn.writer.bits ++ replicate l.counter false }
