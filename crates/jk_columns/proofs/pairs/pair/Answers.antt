use Rattle.std.proofs.Common.{arith}
use Rattle.jk_columns.proofs.Paired.{pair_byte, pair_digits}
use Rattle.jk_columns.proofs.pairs.pair.Goals as goal

pub returns-clause-long : goal.returns-clause-long
returns-clause-long c = pair_digits c.args.own

pub returns-clause-value : goal.returns-clause-value
returns-clause-value c = λ k l. pair_byte c.args.own k (omega arith) l
