use Rattle.jk_columns.proofs.PairBits.{pair_index_is}
use Rattle.jk_columns.proofs.pairs.pair_index.Goals as goal

pub returns : goal.returns
returns c = λ members are. pair_index_is c.args.indices c.args.p members c.requires are
