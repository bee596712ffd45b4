-- What proofs of other crates may cite of this crate's proofs.
pub use Rattle.jk_order.proofs.LayerLaws.{layers_of}
pub use Rattle.jk_order.proofs.LengthLaws.{length_of}
pub use Rattle.jk_order.proofs.OrderLaws.{order_is, order_one}
