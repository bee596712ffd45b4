use Rattle.jk_order.proofs.LengthLaws.{length_of}
use Rattle.jk_order.proofs.theorems.packets_are_counted.Goals as goal

pub returns : goal.returns
returns c = length_of
