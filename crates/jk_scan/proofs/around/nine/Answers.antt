use Rattle.jk_scan.proofs.Nines.{nine_at, nine_below}
use Rattle.jk_scan.proofs.around.nine.Goals as goal

pub returns-clause-small : goal.returns-clause-small
returns-clause-small c = nine_below c.args.neighbourhood

pub returns-clause-bits : goal.returns-clause-bits
returns-clause-bits c = nine_at c.args.neighbourhood
