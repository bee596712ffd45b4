-- The laws that crates above cite: what is spelled is read and what is read is spelled, a codestream has one tree, and what is
-- written is a main header or a tile-part; the head of a tile-part apart from its data, and a main header without TLM; how long
-- segments are, and what ends a header.
pub use Rattle.jk_marks.proofs.Steps.{number_goes, number_again}
pub use Rattle.jk_marks.proofs.SegmentLaws.{coc_length, style_length, precincts_few}
pub use Rattle.jk_marks.proofs.HeadAgain.{EndsHeader, alone_not_passed, not_last, narrow_marker}
pub use Rattle.jk_marks.proofs.SizLaws.{siz_body, siz_parts, body_length}
pub use Rattle.jk_marks.proofs.MainLaws.{found_main, only_main, ends_main, many_bytes}
pub use Rattle.jk_marks.proofs.PartLaws.{found_part, only_part, content_there, ends_part}
pub use Rattle.jk_marks.proofs.OneTree.{begins_main, one_tree}
pub use Rattle.jk_marks.proofs.WrittenMeans.{main_written, main_says, part_written, steps_back}
pub use Rattle.jk_marks.proofs.CopyingLaws.{part_kept, main_kept, main_sized, main_long}
pub use Rattle.jk_marks.proofs.PartHeadLaws.{head_found, none_at_end, head_is, heads-nil, heads-cons}
