-- What proofs of other crates may cite of this crate's proofs.
pub use Rattle.jk_model.proofs.CodeValue.{is_last-is, places-is, places-ge, places-le, wanted-next, wanted-zero, wanted-suc, start-zero, start-suc, share-in, shares-zero, shares-suc, code_value-upto, code_value-double, code_value-feed, code_value-grows, code_value-start, fed-is, is_past-suc, is_past-zero}
pub use Rattle.jk_model.proofs.Spelling.{spells-join, spells-split, state_after-joined}
pub use Rattle.jk_model.proofs.Deciding.{takes_lower-is, bit-taken, after-decided, state_after-by, state_by-joined, spells-follows, follows-spells}
pub use Rattle.jk_model.proofs.Alike.{value-alike, alike-ff, spells-alike}
pub use Rattle.jk_model.proofs.CodingPasses.{passes-join, passes-split, passes-alike, state_after_passes-joined, state_by_passes-joined, state_after_passes-by}
pub use Rattle.jk_model.proofs.Rows.{row-sound, IsSound}
pub use Rattle.jk_model.proofs.Placed.{gap-nil, gap-ff, gap-other, top-ff, HasGap, after_ff, plain, follows}
pub use Rattle.jk_model.proofs.Join.{byte-onto, At, at-placed, value-decided, value-kept}
pub use Rattle.jk_model.proofs.Tail.{value-tail}
