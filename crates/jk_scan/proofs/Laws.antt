-- What crates above may cite.
pub use Rattle.jk_scan.proofs.Numbers.{number_row, number_room, inside_parts, number_same, number_below}
pub use Rattle.jk_scan.proofs.Moments.{same_field, touched_same, so_far, spread_is, found_is, pass_is, not_old, moment_old, moment_spread, moment_left, Case, cases_of, significant_early, Agree, agree_old, agree_found, agree_spread, agree_pass, agree_moment, number_first, agree_coded, agree_turned, agree_significant, agree_before, agree_joined, number_one, place_any, moment_is, significant_is, place_one, significant_later}
pub use Rattle.jk_scan.proofs.Stripes.{seen_is, seen_agrees, seen_own, seen_also, row_stripe, touched_seen, zero_seen_in, sign_seen_in, touched_more, touched_nothing, sign_alike, empty_spread}
pub use Rattle.jk_scan.proofs.BitLaws.{on_or, on_and, on_not, on_zero, on_one, on_set, on_mod, on_above, on_shl_any, on_shl_low, on_shr, on_shr_at}
pub use Rattle.jk_scan.proofs.Patterns.{firsts}
pub use Rattle.jk_scan.proofs.Neighbours.{touched_is, near_is, shown_at}
pub use Rattle.jk_scan.proofs.Adding.{rows_between, set_shows, added_at}
pub use Rattle.jk_scan.proofs.Candidates.{lowest, rest_by, rest_at, lowest_or_rest, later_lowest, taken, taken_low, set_below, sooner_zero, sooner_one, bit_true, bit_false, bit_is}
pub use Rattle.jk_scan.proofs.Geometry.{words_fit, word_fits, word_within, high_ones}
pub use Rattle.jk_scan.proofs.Marking.{IsPut, put_one, put_bit, with_place, drawn_same, drawn_none, flag_none, drawn_put, flag_put}
pub use Rattle.jk_scan.proofs.BitLaws.{same_from_on}
pub use Rattle.jk_scan.proofs.Adding.{step_is}
