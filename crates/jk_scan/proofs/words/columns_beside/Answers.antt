use Rattle.std.proofs.Common.{arith}
use Rattle.jk_scan.proofs.Neighbours.{columns_line}
use Rattle.jk_scan.proofs.words.columns_beside.Goals as goal

pub returns : goal.returns
returns c = columns_line c.args.v c.args.west c.args.east (omega arith) (omega arith)
