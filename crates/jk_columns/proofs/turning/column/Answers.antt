use Rattle.std.proofs.Common.{arith}
use Rattle.jk_columns.proofs.Turned.{column_is}
use Rattle.jk_columns.proofs.turning.column.Goals as goal

pub returns : goal.returns
returns c = column_is c.args.own (omega arith)
