use Rattle.jk_lift.proofs.Growth.{grows_plane}
use Rattle.jk_lift.proofs.theorems.plane_growth.Goals as goal

pub returns : goal.returns
returns c = grows_plane
