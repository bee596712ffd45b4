use Rattle.jk_model.specs.Contexts.{first_contexts}
use Rattle.jk_model.proofs.steps.first_steps.Goals as goal

pub returns : goal.returns
unfolding first_contexts
returns c = cc
