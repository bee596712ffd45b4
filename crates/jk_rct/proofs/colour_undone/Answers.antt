use Rattle.jk_rct.proofs.Pixels.{undoes_colour}
use Rattle.jk_rct.proofs.colour_undone.Goals as goal

pub returns : goal.returns
returns c = undoes_colour
