use Rattle.std.proofs.Common.{◌≡◌, ℕ, ◌<◌, length, get_or}
use Rattle.jk_order.specs.Streams.{stream_at, stream_of, frame_of, first_rank}
use Rattle.jk_order.proofs.packets.Packets.new.Given as goal

-- the streams before are those of the tile
abbrev pub invariant-loop-i : goal.invariant-loop-i
invariant-loop-i l = (length l.streams ≡ 44) × (length l.heads ≡ 44)
    × ((j : ℕ) → j < l.i → stream_at l.streams j ≡ stream_of l.shape j)
    × ((j : ℕ) → j < l.i → get_or l.heads j 0 ≡ first_rank (frame_of l.shape) (stream_of l.shape j))
