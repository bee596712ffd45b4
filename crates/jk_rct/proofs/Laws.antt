-- What proofs of other crates may cite of this crate's proofs: the laws of the formulas.
pub use Rattle.jk_rct.proofs.Pixels.{undoes_colour, undoes_inverse, keeps_range, inverse_bounds}
