-- What crates above may cite.
pub use Rattle.jk_block.proofs.Meanings.{abs_with_sign, negative_with_sign, with_sign_self, value_at, values_same, block_found, block_only, block_one}
pub use Rattle.jk_block.proofs.Sizing.{greatest_bounds, greatest_small}
pub use Rattle.jk_block.proofs.Parts.{spelled_means, cut_whole, none_means, values_listed, planes_hold, coded_planes_hold, coded_means, part_means, shorter_means, coded_read, coded_marks_rise}
pub use Rattle.jk_block.proofs.Layering.{passes_none, passes_some, passes_rise, passes_few, passes_whole, upto_few, upto_rise, upto_whole, upto_means, upto_cut, coded_passes}
pub use Rattle.jk_block.proofs.encoding.Lengths.{bytes_small}
