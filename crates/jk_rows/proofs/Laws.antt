-- What proofs of other crates may cite of this crate's proofs.
pub use Rattle.jk_rows.proofs.Pushed.{count_pushed, each_pushed, each_set, left_set, count_set, some_element}
pub use Rattle.jk_rows.proofs.Faults.{no_fault_in}
