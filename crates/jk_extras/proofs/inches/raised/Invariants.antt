use Rattle.std.proofs.Common.{◌≡◌, ℕ, ◌<◌, ◌≤◌, ◌^◌}
use Rattle.jk_extras.specs.declared.grids.Ratio.{Ratio}
use Rattle.jk_extras.specs.Inches.{IsRaised, HasSixteenBits}
use Rattle.jk_extras.proofs.inches.raised.Given as goal

abbrev pub invariant-loop-power : goal.invariant-loop-power
invariant-loop-power l =
    (l.scale ≡ 10 ^ l.power)
    × ((r : Ratio) (power : ℕ) → l.fn.from ≤ power → power < l.power → HasSixteenBits r → 0 < r.numerator → 0 < r.denominator
    → IsRaised l.fn.n l.fn.d r power → ⊥)
