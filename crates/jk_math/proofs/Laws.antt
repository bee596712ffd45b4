-- What proofs of other crates may cite of this crate's proofs: the bytes of a slice, numbers by their bytes, halves and
-- quarters that are rounded down, how many digits a number has, and what a writer holds.
pub use Rattle.jk_math.proofs.Numbers.{AreBytes, are_bytes_after, are_bytes_taken, are_bytes_append, are_bytes_tested, are_bytes_high_first, number_back}
pub use Rattle.jk_math.proofs.Rounding.{shr-floor_of, half_high, half_low, fourfold, quarter_high, quarter_low}
pub use Rattle.jk_math.proofs.Rasters.{IsPlaceOf, raster_length, raster_entry, entry_place, index_below, raster_at, raster_is, raster_same}
pub use Rattle.jk_math.proofs.BitLengths.{bit_length_none, bit_length_is, bit_length_room, bit_length_few, bit_length_zeros}
pub use Rattle.jk_math.proofs.WritingLaws.{appends_none, appends_join, appends_kept, front_taken}
-- vectors of eight numbers
pub use Rattle.jk_math.proofs.Lanes.{HasLanes, bits_of, loaded, sums, differences, shifted, vector_long, vector_below, HasLanes-load, HasLanes-given, HasLanes-passed, HasLanes-wider, HasLanes-same, HasLanes-splat, HasLanes-all, HasLanes-add, HasLanes-sub, HasLanes-half, HasLanes-quarter, adds_fit, subs_fit, shift_fits, lane_is, stored, alternately, HasLanes-woven, HasLanes-parted, HasLanes-behind, HasLanes-before, stored_pairs}
