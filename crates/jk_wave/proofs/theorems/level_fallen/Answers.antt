use Rattle.jk_wave.proofs.falling.Making.{falls_within, falls_in_order, falls_none, falls_all}
use Rattle.jk_wave.proofs.theorems.level_fallen.Goals as goal

pub returns : goal.returns
returns c = record { within = falls_within; order = falls_in_order; none = falls_none; all = falls_all }
