use Rattle.std.proofs.Common.{◌≡◌, ℕ, ◌<◌, get_or, length}
use Rattle.jk_block.proofs.ages.copy.Given as goal

abbrev pub invariant-loop-at : goal.invariant-loop-at
invariant-loop-at l = ((k : ℕ) → k < l.at → get_or l.from k 0 ≡ get_or l.to k 0) × (length l.to ≡ length l.fn.to)
