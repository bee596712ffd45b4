use Rattle.jk_geom.proofs.Counts.{number_before, before_alike}
use Rattle.jk_geom.proofs.theorems.precincts_are_counted.Goals as goal

pub returns : goal.returns
returns c = record { all = number_before; alike = before_alike }
