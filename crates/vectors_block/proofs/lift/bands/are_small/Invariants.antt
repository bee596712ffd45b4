use Rattle.std.proofs.Common.{◌^◌, ◌<◌, ℕ, ℤ, get_or}
use Rattle.jk_math.specs.Signed.{IsBelow}
use Rattle.vectors_block.proofs.lift.bands.are_small.Given as goal

abbrev pub invariant-loop-number : goal.invariant-loop-number
invariant-loop-number l = (k : ℕ) (d : ℤ) → k < l.number-index → IsBelow (2 ^ 17) (get_or l.numbers k d)
