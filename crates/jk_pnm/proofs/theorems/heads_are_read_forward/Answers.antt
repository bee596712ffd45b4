use Rattle.jk_pnm.proofs.HeadLaws.{header_forward}
use Rattle.jk_pnm.proofs.theorems.heads_are_read_forward.Goals as goal

pub returns : goal.returns
returns c = λ front more x e. header_forward front more x e
