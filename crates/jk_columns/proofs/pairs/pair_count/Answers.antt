use Rattle.jk_columns.proofs.Paired.{pair_counted}
use Rattle.jk_columns.proofs.pairs.pair_count.Goals as goal

pub returns : goal.returns
returns c = pair_counted c.args.index c.requires
