use Rattle.jk_lift.proofs.Growth.{grows_line}
use Rattle.jk_lift.proofs.theorems.line_growth.Goals as goal

pub returns : goal.returns
returns c = grows_line
