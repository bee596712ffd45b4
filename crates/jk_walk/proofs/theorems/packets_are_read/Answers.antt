use Rattle.jk_walk.proofs.FoundLaws.{packets_found}
use Rattle.jk_walk.proofs.OnlyLaws.{packets_only}
use Rattle.jk_walk.proofs.theorems.packets_are_read.Goals as goal

pub returns-clause-found : goal.returns-clause-found
returns-clause-found c = packets_found

pub returns-clause-only : goal.returns-clause-only
returns-clause-only c = packets_only
