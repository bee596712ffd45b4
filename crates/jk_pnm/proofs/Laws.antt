-- The laws that crates above cite: what is written is a file of the picture; a header is read from the
-- beginning of a file; rows of a raster are what their bytes say; and what a file is refused for.
pub use Rattle.jk_pnm.proofs.WrittenLaws.{written_means}
pub use Rattle.jk_pnm.proofs.HeadLaws.{header_forward}
pub use Rattle.jk_pnm.proofs.RowLaws.{rows_below_end, size_by_rows, rows_read, stripe_is, stripe_refused}
pub use Rattle.jk_pnm.proofs.FileLaws.{pnm_again}
pub use Rattle.jk_pnm.proofs.RefusedLaws.{pnm_unheaded, pnm_bad, pnm_fine, header_bad}
pub use Rattle.jk_pnm.proofs.Tails.{IsBehind, raster_behind}
