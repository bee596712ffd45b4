-- The laws that crates above cite: what was taken of a source in steps was taken in one.
pub use Rattle.jk_files.proofs.IncomingLaws.{consumes_both, took_none, took_both}
