use Rattle.jk_columns.proofs.PairBits.{PairsTo}
use Rattle.jk_columns.proofs.pairs.put_pairs.Given as goal

abbrev pub invariant-loop-p : goal.invariant-loop-p
invariant-loop-p l = PairsTo l.rows l.members l.fn.bytes l.fn.count l.bytes l.count l.p
