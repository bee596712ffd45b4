use Rattle.std.proofs.Common.{[]}
use Rattle.jk_model.specs.Decisions.{initial}
use Rattle.jk_model.proofs.Spelling.{one_list}
use Rattle.jk_model.proofs.theorems.one_spelling.Goals as goal

pub returns : goal.returns
returns c = λ bytes choose xs ys. one_list bytes choose initial [] xs ys
