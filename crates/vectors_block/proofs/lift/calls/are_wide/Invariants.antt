use Rattle.std.proofs.Common.{◌-◌, ◌^◌, ◌<◌, ℕ, ℤ, get_or}
use Rattle.jk_math.specs.Signed.{IsBelow}
use Rattle.vectors_block.proofs.lift.calls.are_wide.Given as goal

abbrev pub invariant-loop-number : goal.invariant-loop-number
invariant-loop-number l = (k : ℕ) (d : ℤ) → k < l.number-index → IsBelow (2 ^ 30 - 1) (get_or l.numbers k d)
