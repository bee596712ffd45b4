use Rattle.std.proofs.Common.{arith}
use Rattle.jk_scan.proofs.Beside.{right_moved}
use Rattle.jk_scan.proofs.columns.moved_right.Goals as goal

pub returns : goal.returns
returns c = right_moved c.args.x c.args.west (omega arith) (omega arith)
