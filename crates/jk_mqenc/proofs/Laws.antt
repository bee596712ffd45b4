-- What proofs of other crates may cite of this crate's proofs.
pub use Rattle.jk_mqenc.proofs.Encoding.{finished-spells, pass-begins}
pub use Rattle.jk_mqenc.proofs.Finals.{finished-prefix, finished-shorter}
pub use Rattle.jk_mqenc.proofs.Unmarked.{finished-unmarked, written-grows}
