use Rattle.std.proofs.Common.{◌≡◌, ℕ, ◌<◌, ◌≤◌, get_or, length}
use Rattle.jk_wave.specs.Bands.{coefficients_of}
use Rattle.jk_wave.specs.declared.climbing.level.ClimbingLevel.{ClimbingLevel}
use Rattle.jk_wave.specs.climbing.Stack.{rows_of_step, IsLevelAt}
use Rattle.jk_wave.proofs.climbing.stack.step_all.Given as goal

abbrev pub invariant-loop-q : goal.invariant-loop-q
invariant-loop-q l = record {
  count : length l.levels.items ≡ l.top;
  done : (k : ℕ) (other : ClimbingLevel) → k < l.q → IsLevelAt l.bands.rect l.bands.levels l.top l.e (coefficients_of l.bands.rect l.bands.levels l.bands.bands) k (get_or l.levels.items k other);
  left : (k : ℕ) (other : ClimbingLevel) → l.q ≤ k → k < l.top → IsLevelAt l.bands.rect l.bands.levels l.top l.from (coefficients_of l.bands.rect l.bands.levels l.bands.bands) k (get_or l.levels.items k other);
  rows : l.fresh.items ≡ rows_of_step l.bands.rect l.bands.levels l.top l.from l.e (coefficients_of l.bands.rect l.bands.levels l.bands.bands) l.q;
}
