use Rattle.jk_window.proofs.Stretches.{near_part, near_stretch}
use Rattle.jk_window.proofs.theorems.stretches_hold_what_is_near.Goals as goal

pub returns-clause-even : goal.returns-clause-even
returns-clause-even c = near_stretch

pub returns-clause-part : goal.returns-clause-part
returns-clause-part c = near_part
