use Rattle.jk_lift.proofs.Undoing.{undoes_line}
use Rattle.jk_lift.proofs.theorems.line_undone.Goals as goal

pub returns : goal.returns
returns c = undoes_line
