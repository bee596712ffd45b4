use Rattle.jk_model.specs.Decisions.{initial}
use Rattle.jk_mqdec.proofs.wide.begun.Goals as goal

pub returns-then-loaded-clause-holds : goal.returns-then-loaded-clause-holds
returns-then-loaded-clause-holds c = λ _. c.widened-loaded.ensures.holds c.args.bytes.now initial c.loaded.ensures.holds
