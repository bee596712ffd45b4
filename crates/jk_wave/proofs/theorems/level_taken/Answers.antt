use Rattle.jk_wave.proofs.climbing.Taking.{made_enough, takes_no_more, takes_in_order, takes_within, takes_pairs}
use Rattle.jk_wave.proofs.theorems.level_taken.Goals as goal

pub returns : goal.returns
returns c = record { enough = made_enough; no_more = takes_no_more; order = takes_in_order; within = takes_within; pairs = takes_pairs }
