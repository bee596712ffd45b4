use Rattle.jk_model.specs.Contexts.{first_contexts}
use Rattle.jk_model.proofs.context.first_contexts.Goals as goal

pub returns : goal.returns
unfolding first_contexts
returns c = cc
