use Rattle.std.proofs.Common.{◌≡◌, ◌++◌, true, replicate}
use Rattle.jk_packet.proofs.wording.push_ones.Given as goal

abbrev pub invariant-loop : goal.invariant-loop
invariant-loop l = l.writer ≡ record l.fn.writer { bits = l.fn.writer.bits ++ replicate l.counter true }
