use Rattle.std.proofs.Common.{refl, arith}
use Rattle.jk_mqdec.proofs.Widening.{wide-widened}
use Rattle.jk_mqdec.proofs.wide.widened.Goals as goal

pub returns-clause-holds : goal.returns-clause-holds
returns-clause-holds c = λ b s h. wide-widened b c.args.old _ s (omega arith) (omega arith) refl refl h
