use Rattle.jk_rct.proofs.Pixels.{keeps_range}
use Rattle.jk_rct.proofs.colour_range.Goals as goal

pub returns : goal.returns
returns c = keeps_range
