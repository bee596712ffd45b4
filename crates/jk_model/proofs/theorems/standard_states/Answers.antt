use Rattle.std.proofs.Common.{refl}
use Rattle.jk_model.specs.Contexts.{rows}
use Rattle.jk_model.proofs.theorems.standard_states.Goals as goal

pub returns : goal.returns
unfolding rows
returns c = refl
