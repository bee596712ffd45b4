use Rattle.jk_rows.proofs.LowRows.{low_new}
use Rattle.jk_rows.proofs.lowest.LowestRows.new.Goals as goal

pub returns-clause-at : goal.returns-clause-at
returns-clause-at c = low_new c.args.source.now c.in_ok-chains.field-0 _ c.requires.source c.in_ok-chains.ensures.chains
