use Rattle.jk_order.proofs.LayerLaws.{layers_of}
use Rattle.jk_order.proofs.theorems.layers_in_turn.Goals as goal

pub returns : goal.returns
returns c = layers_of
