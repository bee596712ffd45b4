use Rattle.std.proofs.Common.{refl, arith}
use Rattle.jk_mqdec.proofs.Widening.{wide-emptied}
use Rattle.jk_mqdec.proofs.wide.emptied.Goals as goal

pub returns-clause-holds : goal.returns-clause-holds
returns-clause-holds c = λ b s h. wide-emptied b c.args.old _ s (omega arith) (omega arith) refl refl h
