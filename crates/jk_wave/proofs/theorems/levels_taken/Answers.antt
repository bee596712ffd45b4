use Rattle.jk_wave.proofs.climbing.Taking.{takes_all, ends_in_order}
use Rattle.jk_wave.proofs.theorems.levels_taken.Goals as goal

pub returns : goal.returns
returns c = record { all = takes_all; order = ends_in_order }
