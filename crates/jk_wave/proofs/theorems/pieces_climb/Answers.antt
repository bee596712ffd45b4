use Rattle.jk_wave.proofs.Pieces.{is_climbing}
use Rattle.jk_wave.proofs.theorems.pieces_climb.Goals as goal

pub returns : goal.returns
returns c = is_climbing
