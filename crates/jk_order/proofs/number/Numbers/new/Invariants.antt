use Rattle.std.proofs.Common.{◌≡◌, ℕ, ◌/◌, ◌%◌, ◌<◌, length, get_or}
use Rattle.jk_order.specs.Streams.{stream_at, stream_of}
use Rattle.jk_order.specs.Numbers.{start, step}
use Rattle.jk_order.proofs.number.Numbers.new.Given as goal

-- the streams so far
abbrev pub invariant-loop-i : goal.invariant-loop-i
invariant-loop-i l = (length l.streams ≡ 44) × ((j : ℕ) → j < l.i → stream_at l.streams j ≡ stream_of l.shape j)

-- the tables so far
abbrev pub invariant-loop-k : goal.invariant-loop-k
invariant-loop-k l = (length l.starts ≡ 44) × (length l.steps ≡ 44)
    × ((j : ℕ) → j < l.k → get_or l.starts j 0 ≡ start l.frame l.streams l.count (j % 11) (j / 11))
    × ((j : ℕ) → j < l.k → get_or l.steps j 0 ≡ step l.frame l.streams l.count (j % 11))
