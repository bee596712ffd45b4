-- What proofs of other crates may cite of this crate's proofs: a codestream in which packets are empty, what is left of a precinct,
-- what a window needs, and when there is one; what has an index.
pub use Rattle.jk_window.proofs.CutAgain.{front_again, cut_again}
pub use Rattle.jk_window.proofs.KeptPackets.{runs_kept}
pub use Rattle.jk_window.proofs.PrecinctAgain.{front_bodies, kept_bodies, all_layers}
pub use Rattle.jk_window.proofs.FrontFile.{front_fits}
pub use Rattle.jk_window.proofs.Stretches.{stretch_none, stretch_more, near_part, near_stretch}
pub use Rattle.jk_window.proofs.NeededPlaces.{place_needs}
pub use Rattle.jk_params.proofs.Laws.{below_none, below_more, below_fails, below_at, below_from, few_levels, levels_found, levels_only}
pub use Rattle.jk_window.proofs.Levels.{area_found, area_only, area_refused, window_area_is, window_found, window_only, window_refused}
pub use Rattle.jk_window.proofs.IndexLaws.{has_index, index_only}
