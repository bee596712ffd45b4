-- What proofs of other crates may cite of this crate's proofs: cuts that may have been made, and the images that entries show.
pub use Rattle.jk_store.proofs.MadeLaws.{found_on, made_on}
pub use Rattle.jk_store.proofs.ShowingLaws.{IsShownAt, shown_at}
