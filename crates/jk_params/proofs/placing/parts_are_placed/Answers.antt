use Rattle.jk_params.proofs.PlaceLaws.{part_placed}
use Rattle.jk_params.proofs.placing.parts_are_placed.Goals as goal

pub returns : goal.returns
returns c = part_placed
