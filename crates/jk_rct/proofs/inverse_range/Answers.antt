use Rattle.jk_rct.proofs.Pixels.{inverse_bounds}
use Rattle.jk_rct.proofs.inverse_range.Goals as goal

pub returns : goal.returns
returns c = inverse_bounds
