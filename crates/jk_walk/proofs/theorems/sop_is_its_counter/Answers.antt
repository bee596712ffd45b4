use Rattle.jk_walk.proofs.SopLaws.{sop_is_written}
use Rattle.jk_walk.proofs.theorems.sop_is_its_counter.Goals as goal

pub returns : goal.returns
returns c = sop_is_written
