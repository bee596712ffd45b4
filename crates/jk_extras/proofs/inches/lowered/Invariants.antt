use Rattle.std.proofs.Common.{◌≡◌, ℕ, ◌*◌, ◌<◌, ◌^◌}
use Rattle.jk_extras.specs.declared.grids.Ratio.{Ratio}
use Rattle.jk_extras.specs.Inches.{IsLowered, HasSixteenBits}
use Rattle.jk_extras.proofs.inches.lowered.Given as goal

abbrev pub invariant-loop-less : goal.invariant-loop-less
invariant-loop-less l =
    (l.above ≡ 10000 * l.fn.n * 10 ^ l.less)
    × ((r : Ratio) (less : ℕ) → less < l.less → HasSixteenBits r → 0 < r.numerator → 0 < r.denominator
    → IsLowered l.fn.n l.fn.d r less → ⊥)
