use Rattle.jk_model.proofs.Join.{value-decided, value-kept}
use Rattle.jk_model.proofs.Tail.{value-tail}
use Rattle.jk_model.proofs.theorems.placed_value.Goals as goal

pub returns : goal.returns
returns c = record { decided = value-decided; kept = value-kept; ones = value-tail }
