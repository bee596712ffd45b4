use Rattle.std.proofs.Common.{refl}
use Rattle.jk_model.specs.Contexts.{rows, moved}
use Rattle.jk_model.specs.Steps.{steps}
use Rattle.jk_model.proofs.steps.entry_at.Goals as goal

pub returns : goal.returns
unfolding rows moved steps
returns c = refl
