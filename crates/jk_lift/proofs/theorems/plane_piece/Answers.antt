use Rattle.jk_lift.proofs.Pieces.{is_piece_of_plane}
use Rattle.jk_lift.proofs.theorems.plane_piece.Goals as goal

pub returns : goal.returns
returns c = is_piece_of_plane
