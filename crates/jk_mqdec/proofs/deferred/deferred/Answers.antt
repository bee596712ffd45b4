use Rattle.std.proofs.Common.{arith}
use Rattle.jk_mqdec.proofs.Deferring.{halved, caught-up-already}
use Rattle.jk_mqdec.proofs.deferred.deferred.Goals as goal

pub returns-clause-least : goal.returns-clause-least
returns-clause-least c = halved c.args.registers.count c.requires.count

pub returns-clause-same : goal.returns-clause-same
returns-clause-same c = caught-up-already c.args.registers c.requires.width (omega arith)
