use Rattle.jk_lift.proofs.Undoing.{undoes_line_of_samples}
use Rattle.jk_lift.proofs.theorems.samples_undone.Goals as goal

pub returns : goal.returns
returns c = undoes_line_of_samples
