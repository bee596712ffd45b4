-- The laws that crates above cite: what is cut of a file means on its window what the file means; a
-- file means one picture at most, which is one of the profile; its frame is that of the picture, and
-- tells no other fault; and the rows of a stripe are the picture's.
pub use Rattle.jk_code.proofs.WindowLaws.{window_meant}
pub use Rattle.jk_code.proofs.MeaningLaws.{only_meaning}
pub use Rattle.jk_code.proofs.FrameHeaders.{framed}
pub use Rattle.jk_code.proofs.MeantLaws.{meant_picture, frame_refused, frame_depth}
pub use Rattle.jk_code.proofs.StripeRows.{rows_components, rows_sample}
