use Rattle.jk_wave.proofs.Growth.{bounds_resolutions}
use Rattle.jk_wave.proofs.theorems.resolutions_bound.Goals as goal

pub returns : goal.returns
returns c = bounds_resolutions
