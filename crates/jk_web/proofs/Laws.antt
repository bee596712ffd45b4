-- What proofs of other crates may cite of this crate's proofs: the texts of a connection by another relation over other states,
-- and texts that were cut off.
pub use Rattle.jk_web.proofs.EndLaws.{ends_by}
pub use Rattle.jk_web.proofs.RequestLaws.{begins_text}
