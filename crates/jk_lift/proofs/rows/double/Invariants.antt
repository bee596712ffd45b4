use Rattle.std.proofs.Common.{◌≡◌, ℕ, ◌<◌, ◌≤◌, pos, ◌+ℤ◌, get_or}
use Rattle.jk_lift.proofs.rows.double.Given as goal

abbrev pub invariant-loop-number : goal.invariant-loop-number
invariant-loop-number l =
    ((k : ℕ) → k < l.number-index → get_or l.row k (pos 0) ≡ get_or l.fn.row k (pos 0) +ℤ get_or l.fn.row k (pos 0)) × ((k : ℕ) → l.number-index ≤ k → get_or l.row k (pos 0) ≡ get_or l.fn.row k (pos 0))
