-- What proofs of other crates may cite of this crate's proofs.
pub use Rattle.jk_wave.proofs.Local.{is_local_resolution, is_decided, parities, in_band}
pub use Rattle.jk_wave.proofs.Undoing.{is_undone, is_reduced}
pub use Rattle.jk_wave.proofs.Growth.{grows_levels, has_planes, has_width, bounds_resolutions}
pub use Rattle.jk_wave.proofs.Agreeing.{Agree, analysed_agree, bands_agree}
pub use Rattle.jk_wave.proofs.Pieces.{is_climbing}
pub use Rattle.jk_wave.proofs.RegionAreas.{whole_region, held_part, part_lowest, part_number, part_inside, part_whole, part_is_area, part_within, resolution_is_area}
pub use Rattle.jk_wave.proofs.BandPlaces.{level_low, level_more, lowest_index, lies_in_level, lies_apart, lies_off_low, has_rows, keeps_others}
pub use Rattle.jk_wave.proofs.LevelSamples.{below_is, stays_level, made_small}
pub use Rattle.jk_wave.proofs.Equations.{level_of, resolution_lowest}
pub use Rattle.jk_wave.proofs.Halves.{number_area, lowest_area}
pub use Rattle.jk_wave.proofs.climbing.Taking.{taken_none, taken_all, takes_within, takes_pairs, takes_in_order, made_enough, ends_none, ends_more, ends_in_order, takes_all, reached_none, reached_some, reached_all, reached_more}
pub use Rattle.jk_wave.proofs.climbing.Given.{joined, no_rows, given_more, given_like}
pub use Rattle.jk_wave.proofs.climbing.WovenParts.{resolved}
pub use Rattle.jk_wave.proofs.climbing.Stacking.{made_lowest, made_above, taken_more, made_more, made_below, made_within, half_is, rows_small, Steps, steps, first_taken, first_made, last_made, new_at, cut_rows}
pub use Rattle.jk_wave.proofs.Covering.{column_above, row_above, sample_above, part_has}
