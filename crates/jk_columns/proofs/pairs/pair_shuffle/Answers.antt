use Rattle.jk_columns.proofs.Paired.{pair_entry}
use Rattle.jk_columns.proofs.pairs.pair_shuffle.Goals as goal

pub returns : goal.returns
returns c = pair_entry c.args.index c.requires
