use Rattle.jk_rct.proofs.Pixels.{undoes_inverse}
use Rattle.jk_rct.proofs.inverse_undone.Goals as goal

pub returns : goal.returns
returns c = undoes_inverse
