use Rattle.std.proofs.Common.{vec_len}
use Rattle.jk_hall.proofs.serving.+start_and_work.Given as goal

abbrev pub decreases-start_and_work : goal.decreases-start_and_work
decreases-start_and_work g l = vec_len l.others
