use Rattle.jk_columns.proofs.PairBits.{indices_are}
use Rattle.jk_columns.proofs.pairs.pair_indices.Goals as goal

pub returns : goal.returns
returns c = λ p k h l. indices_are c.args.members p k h l
