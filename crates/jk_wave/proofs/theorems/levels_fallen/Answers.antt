use Rattle.jk_wave.proofs.falling.Making.{given_none, given_all, given_in_order}
use Rattle.jk_wave.proofs.falling.Alone.{given_alone}
use Rattle.jk_wave.proofs.theorems.levels_fallen.Goals as goal

pub returns : goal.returns
returns c = record { none = given_none; all = given_all; order = given_in_order; alone = given_alone }
