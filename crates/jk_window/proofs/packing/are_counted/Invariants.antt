use Rattle.std.proofs.Common.{◌≡◌, ◌+◌, ◌<◌, ℕ, slice_index_or}
use Rattle.jk_walk.specs.declared.entries.PacketEntry.{PacketEntry}
use Rattle.jk_window.specs.Packed.{counter_at}
use Rattle.jk_window.proofs.packing.are_counted.Given as goal

abbrev pub invariant-loop-place : goal.invariant-loop-place
invariant-loop-place l = (k : ℕ) (d : PacketEntry) → k < l.place → (slice_index_or l.piece k d).counter ≡ counter_at l.counted (l.first + k)
