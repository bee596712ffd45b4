use Rattle.jk_lift.proofs.Undoing.{undoes_rows}
use Rattle.jk_lift.proofs.theorems.rows_undone.Goals as goal

pub returns : goal.returns
returns c = undoes_rows
