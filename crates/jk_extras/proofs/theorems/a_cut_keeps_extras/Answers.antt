use Rattle.jk_extras.proofs.Cuts.{cut_told}
use Rattle.jk_extras.proofs.theorems.a_cut_keeps_extras.Goals as goal

pub returns : goal.returns
returns c = λ file old j codestream text due. cut_told file old j codestream text due
