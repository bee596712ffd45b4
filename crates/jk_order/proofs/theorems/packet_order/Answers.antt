use Rattle.jk_order.proofs.OrderLaws.{order_is}
use Rattle.jk_order.proofs.theorems.packet_order.Goals as goal

pub returns : goal.returns
returns c s = order_is s
