use Rattle.jk_lift.proofs.Growth.{bounds_ten_levels}
use Rattle.jk_lift.proofs.theorems.ten_levels_bound.Goals as goal

pub returns : goal.returns
returns c = bounds_ten_levels
