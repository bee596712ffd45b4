use Rattle.std.proofs.Common.{ℕ, ◌<◌, ◌≡◌, ◌++◌, take, slice_index_or}
use Rattle.jk_walk.specs.declared.entries.PacketEntry.{PacketEntry}
use Rattle.jk_window.specs.Packing.{FitsWords}
use Rattle.jk_window.proofs.packing.push_wide.Given as goal

abbrev pub invariant-loop-entry : goal.invariant-loop-entry
invariant-loop-entry l = record {
  items : l.wide.items ≡ l.fn.wide.items ++ take l.entry-index l.piece;
  words : (k : ℕ) (d : PacketEntry) → k < l.entry-index → FitsWords (slice_index_or l.piece k d);
}
