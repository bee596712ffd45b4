use Rattle.std.proofs.Common.{arith}
use Rattle.jk_scan.proofs.Quietness.{quiet_fits, quiet_at}
use Rattle.jk_scan.proofs.around.quiet.Goals as goal

pub overflow_sub-result : goal.overflow_sub-result
overflow_sub-result c = quiet_fits c.args.d (omega arith) c.requires

pub returns : goal.returns
returns c = quiet_at c.args.d (omega arith) c.requires
