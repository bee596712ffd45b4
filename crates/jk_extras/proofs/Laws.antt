-- The laws that crates above cite: a JP2 file with extras by its boxes and by places, that it holds its codestream, and stays as it is
-- with nothing; what is told of a file, with extras and with another codestream; how wide what is read is, and what is read of the text
-- of what a file keeps; a loop that passes boxes, by what is left to pass.
pub use Rattle.jk_extras.proofs.Dressings.{dressed_there, none_same}
pub use Rattle.jk_extras.proofs.Holding.{dressed_is}
pub use Rattle.jk_extras.proofs.HeaderTold.{told_is}
pub use Rattle.jk_extras.proofs.ReadBack.{read_back}
pub use Rattle.jk_extras.proofs.Again.{told_again}
pub use Rattle.jk_extras.proofs.OthersBack.{others_back}
pub use Rattle.jk_extras.proofs.Cuts.{cut_told}
pub use Rattle.jk_extras.proofs.Widths.{read_fits}
pub use Rattle.jk_extras.proofs.TextsRead.{text_read}
pub use Rattle.jk_extras.proofs.Passing.{Left, starts, more, fault, refused, stops, some_left, some_head}
