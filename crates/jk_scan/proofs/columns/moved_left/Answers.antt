use Rattle.std.proofs.Common.{arith}
use Rattle.jk_scan.proofs.Beside.{left_moved}
use Rattle.jk_scan.proofs.columns.moved_left.Goals as goal

pub returns : goal.returns
returns c = left_moved c.args.x c.args.east (omega arith) (omega arith)
