-- What proofs of other crates may cite of this crate's proofs.
pub use Rattle.jk_jobs.proofs.JobLaws.{zipped, mapped, given_rest, by_workers}
