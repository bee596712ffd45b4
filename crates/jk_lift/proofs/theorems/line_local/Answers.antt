use Rattle.jk_lift.proofs.Undoing.{is_local_line}
use Rattle.jk_lift.proofs.theorems.line_local.Goals as goal

pub returns : goal.returns
returns c = is_local_line
