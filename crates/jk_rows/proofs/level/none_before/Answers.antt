use Rattle.std.proofs.Common.{refl}
use Rattle.jk_rows.proofs.Climbed.{none_high, none_shown}
use Rattle.jk_rows.proofs.level.none_before.Goals as goal

pub returns-clause-are : goal.returns-clause-are
returns-clause-are c = λ a. none_high a c.args.v _ (record { hl = refl; lh = refl; hh = refl; hl_list = refl; lh_list = refl; hh_list = refl })

pub returns-clause-show : goal.returns-clause-show
returns-clause-show c = λ a bands. none_shown a c.args.v bands _
