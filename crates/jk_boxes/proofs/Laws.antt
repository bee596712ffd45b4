-- The laws that crates above cite: where a file is opened, that a file that holds a codestream is opened there, and that a JP2 file that
-- is written for a codestream, or gets other contents in its codestream box, holds these; the form of that box; a box is read again.
pub use Rattle.jk_boxes.proofs.Heads.{head_of, box_again, box_length, after_box}
pub use Rattle.jk_boxes.proofs.FileLaws.{Opened, OpensAt, boxes_take, boxes_again, place_again}
pub use Rattle.jk_boxes.proofs.WrittenLaws.{recoded_holds, wrapped_holds}
pub use Rattle.jk_boxes.proofs.FormLaws.{form_found, InFile, in_file, recoded_there}
