-- What proofs of other crates may cite of this crate's proofs.
pub use Rattle.jk_geom.proofs.Ceilings.{ceil_covers, ceil_least, ceil_self, ceil_close, ceil_mono, raster_column, raster_row}
pub use Rattle.jk_geom.proofs.Cells.{sides_some, ceil_above, above_ceil, cell_to, cell_one}
pub use Rattle.jk_geom.proofs.Weaving.{reduced_to, reduced_from, woven, woven_some, woven_one}
pub use Rattle.jk_geom.proofs.TileLaws.{tile_found, some_tile, tile_covers, tile_one, tile_inside}
pub use Rattle.jk_geom.proofs.BlockLaws.{precinct_found, grid_found, blocks_cover, blocks_one, blocks_inside, blocks_some}
pub use Rattle.jk_geom.proofs.FewBlocks.{few_blocks}
pub use Rattle.jk_geom.proofs.Counts.{precincts_of, below_more, below_none, number_is, before_none, before_more, number_before, before_alike}
pub use Rattle.jk_geom.proofs.Sums.{Sums, sums_rise, sums_once, times_more}
