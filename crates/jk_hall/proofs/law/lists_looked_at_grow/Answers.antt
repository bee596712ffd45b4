use Rattle.jk_hall.proofs.RunLaws.{grow, all}
use Rattle.jk_hall.proofs.law.lists_looked_at_grow.Goals as goal

pub returns-clause-grow : goal.returns-clause-grow
returns-clause-grow c = grow

pub returns-clause-all : goal.returns-clause-all
returns-clause-all c = all
