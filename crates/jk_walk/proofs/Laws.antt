-- What proofs of other crates may cite of this crate's proofs: what is read of a tile is there, and what is there is read, with the
-- parts of packets or without, or as entries; bytes of places and bodies; the sub-bands of a precinct; SOP.
pub use Rattle.jk_walk.proofs.FoundLaws.{packets_found, packets_within, tile_parts}
pub use Rattle.jk_walk.proofs.OnlyLaws.{packets_only, packets_laid}
pub use Rattle.jk_walk.proofs.SpanLaws.{spans_laid}
pub use Rattle.jk_walk.proofs.Runs.{begun-nil, begun_here, begun_later}
pub use Rattle.jk_walk.proofs.Slices.{slice_join, slice_front, slice_length, slice_none, bodies_length-cons, bodies_parts, bodies_long, bodies_join, bodies_size}
pub use Rattle.jk_walk.proofs.ShapeLaws.{exponent_fits, bands_lowest, bands_higher}
pub use Rattle.jk_walk.proofs.Turns.{Counts, one_more, no_counts, AreTurns, is_own, at_own, its_precinct, all_of, order_turns}
pub use Rattle.jk_walk.proofs.BitLaws.{HasBit, no_packet, tile_layers, tile_bits}
pub use Rattle.jk_walk.proofs.SopLaws.{sop_by, sop_is_written}
pub use Rattle.jk_walk.proofs.EntryLaws.{entries_spans, kept_spans}
pub use Rattle.jk_walk.proofs.EntriesRead.{entries_found, entries_only, entries_within}
