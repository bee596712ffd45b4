use Rattle.std.proofs.Common.{arith}
use Rattle.jk_mqdec.proofs.Doubling.{supplied-fed, outside-supplied}
use Rattle.jk_mqdec.proofs.registers.supplied.Goals as goal

pub returns-then-new-clause-holds : goal.returns-then-new-clause-holds
returns-then-new-clause-holds c = λ s h. supplied-fed _ _ _ s c.requires.empty c.fed-new.ensures.feeds h

pub returns-else-new-clause-holds : goal.returns-else-new-clause-holds
returns-else-new-clause-holds c =
    λ s h. outside-supplied _ c.fed-new.result s (omega arith) (supplied-fed _ _ _ s c.requires.empty c.fed-new.ensures.feeds h)
