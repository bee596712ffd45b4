use Rattle.std.proofs.Common.{◌≡◌, ℕ, ◌<◌, get_or, length}
use Rattle.jk_block.proofs.ages.unmark.Given as goal

abbrev pub invariant-loop-at : goal.invariant-loop-at
invariant-loop-at l = ((k : ℕ) → k < l.at → get_or l.words k 0 ≡ 0) × (length l.words ≡ length l.fn.words)
