use Rattle.std.proofs.Common.{◌≡◌, ℕ, ◌<◌, get_or, length}
use Rattle.jk_geom.specs.Rectangles.{resolution_area}
use Rattle.jk_wave.specs.Bands.{coefficients_of}
use Rattle.jk_wave.specs.declared.climbing.level.ClimbingLevel.{ClimbingLevel}
use Rattle.jk_wave.specs.climbing.Stack.{IsLevelAt}
use Rattle.jk_wave.proofs.climbing.stack.first_levels.Given as goal

abbrev pub invariant-loop-q : goal.invariant-loop-q
invariant-loop-q l = record {
  count : length l.levels.items ≡ l.q;
  each : (k : ℕ) (other : ClimbingLevel) → k < l.q → IsLevelAt l.bands.rect l.bands.levels l.top (resolution_area l.bands.rect l.bands.levels l.top).y0 (coefficients_of l.bands.rect l.bands.levels l.bands.bands) k (get_or l.levels.items k other);
}
