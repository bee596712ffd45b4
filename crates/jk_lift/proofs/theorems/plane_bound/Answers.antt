use Rattle.jk_lift.proofs.Growth.{bounds_plane}
use Rattle.jk_lift.proofs.theorems.plane_bound.Goals as goal

pub returns : goal.returns
returns c = bounds_plane
