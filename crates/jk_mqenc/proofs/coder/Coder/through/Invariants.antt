use Rattle.jk_mqenc.proofs.Passing.{Passing}
use Rattle.jk_mqenc.proofs.coder.Coder.through.Given as goal

abbrev pub invariant-loop-placed : goal.invariant-loop-placed
invariant-loop-placed l = Passing l.fn.self l.taken l.self l.placed.code l.placed.count l.due

abbrev pub decreases-loop-placed : goal.decreases-loop-placed
decreases-loop-placed l = l.due
