-- What proofs of other crates may cite of this crate's proofs: the laws of the formulas.
pub use Rattle.jk_lift.proofs.Undoing.{undoes_line, undoes_plane, undoes_line_of_samples, undoes_rows, is_local_line, is_local_plane, unlifted_same}
pub use Rattle.jk_lift.proofs.Growth.{grows_line, grows_plane, bounds_plane, bounds_ten_levels}
pub use Rattle.jk_lift.proofs.Congruence.{lifted_same}
pub use Rattle.jk_lift.proofs.Pieces.{is_piece_of_line, is_piece_of_plane}
pub use Rattle.jk_lift.proofs.Equations.{high_at_is, lifted_odd, lifted_even, even_at_is, unlifted_even, unlifted_odd}
pub use Rattle.jk_lift.proofs.Halving.{even_sample-within}
pub use Rattle.jk_lift.proofs.Neighbours.{before_inside, before_first, after_inside, after_last}
