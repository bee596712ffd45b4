use Rattle.std.proofs.Common.{◌↔◌, IsTrue, ℕ, ◌<◌, ◌≤ℤ◌, get_or, pos}
use Rattle.jk_math.specs.Picture.{lowest, greatest}
use Rattle.jk_math.proofs.image.are_within.Given as goal

abbrev pub invariant-loop-sample : goal.invariant-loop-sample
invariant-loop-sample l =
    IsTrue l.within
    ↔ ((k : ℕ) → k < l.sample-index → (lowest l.depth l.signed ≤ℤ get_or l.samples k (pos 0)) × (get_or l.samples k (pos 0) ≤ℤ greatest l.depth l.signed))
