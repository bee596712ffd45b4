use Rattle.std.proofs.Common.{[]}
use Rattle.jk_model.specs.Decisions.{initial}
use Rattle.jk_model.proofs.CodingPasses.{one_passes}
use Rattle.jk_model.proofs.theorems.one_spelling_by_passes.Goals as goal

pub returns : goal.returns
returns c = λ reset bytes choose xss yss. one_passes reset bytes choose initial [] xss yss
