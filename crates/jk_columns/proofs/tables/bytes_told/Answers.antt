use Rattle.jk_columns.proofs.Entries.{count_entry}
use Rattle.jk_columns.proofs.tables.bytes_told.Goals as goal

pub returns : goal.returns
returns c = count_entry c.args.index c.requires
