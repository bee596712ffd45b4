use Rattle.jk_columns.proofs.Entries.{shuffle_entry}
use Rattle.jk_columns.proofs.tables.shuffle.Goals as goal

pub returns : goal.returns
returns c = shuffle_entry c.args.index c.requires
