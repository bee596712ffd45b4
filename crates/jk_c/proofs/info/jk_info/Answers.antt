use Rattle.std.proofs.Common.{◌∙◌, inl, refl}
use Rattle.jk_c.proofs.Answering.{memory_is}
use Rattle.jk_c.proofs.info.jk_info.Goals as goal

pub returns-in-Err-clause-means : goal.returns-in-Err-clause-means
returns-in-Err-clause-means c = λ p m. inl (c.code.ensures ∙ memory_is c.in-Err.fault (c.in-Err.ensures.given p m), refl)
