use Rattle.jk_columns.proofs.Turned.{columns_are}
use Rattle.jk_columns.proofs.turning.columns.Goals as goal

pub returns : goal.returns
returns c = columns_are c.args.rows.now.bits c.args.rows.now.signs c.row_bytes.result c.row_bytes-2.result c.turned.result c.row_bytes.ensures.bytes.long c.row_bytes.ensures.value c.row_bytes-2.ensures.value c.turned.ensures
