use Rattle.std.proofs.Common.{sym, ◌∙◌}
use Rattle.jk_math.specs.Steps.{ok_is}
use Rattle.jk_pnm.proofs.FileLaws.{pnm_again}
use Rattle.jk_pnm.proofs.theorems.one_picture.Goals as goal

pub returns : goal.returns
returns c = λ bytes p q a b. ok_is p q (sym (pnm_again bytes p a) ∙ pnm_again bytes q b)
