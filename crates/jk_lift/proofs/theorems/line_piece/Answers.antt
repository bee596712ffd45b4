use Rattle.jk_lift.proofs.Pieces.{is_piece_of_line}
use Rattle.jk_lift.proofs.theorems.line_piece.Goals as goal

pub returns : goal.returns
returns c = is_piece_of_line
