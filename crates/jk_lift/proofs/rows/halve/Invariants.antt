use Rattle.std.proofs.Common.{◌≡◌, ℕ, ◌<◌, ◌≤◌, pos, get_or}
use Rattle.jk_math.specs.Division.{floor_of}
use Rattle.jk_lift.proofs.rows.halve.Given as goal

abbrev pub invariant-loop-number : goal.invariant-loop-number
invariant-loop-number l =
    ((k : ℕ) → k < l.number-index → get_or l.row k (pos 0) ≡ floor_of (get_or l.fn.row k (pos 0)) 2) × ((k : ℕ) → l.number-index ≤ k → get_or l.row k (pos 0) ≡ get_or l.fn.row k (pos 0))
