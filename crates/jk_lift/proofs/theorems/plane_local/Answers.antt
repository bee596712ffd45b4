use Rattle.jk_lift.proofs.Undoing.{is_local_plane}
use Rattle.jk_lift.proofs.theorems.plane_local.Goals as goal

pub returns : goal.returns
returns c = is_local_plane
