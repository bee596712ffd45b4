use Rattle.std.proofs.Common.{ℕ, ◌<◌, slice_index_or}
use Rattle.jk_walk.specs.declared.entries.PacketEntry.{PacketEntry}
use Rattle.jk_window.specs.Packing.{HasShortHeader}
use Rattle.jk_window.proofs.packing.are_short.Given as goal

abbrev pub invariant-loop-entry : goal.invariant-loop-entry
invariant-loop-entry l = (k : ℕ) (d : PacketEntry) → k < l.entry-index → HasShortHeader (slice_index_or l.piece k d)
