use Rattle.jk_lift.proofs.Undoing.{undoes_plane}
use Rattle.jk_lift.proofs.theorems.plane_undone.Goals as goal

pub returns : goal.returns
returns c = undoes_plane
