use Rattle.std.proofs.Common.{◌≡◌, ℕ, ℤ, ◌<◌, [], get_or, length}
use Rattle.jk_wave.specs.Levels.{part_list}
use Rattle.jk_wave.specs.declared.falling.level.FallingLevel.{FallingLevel}
use Rattle.jk_wave.specs.falling.Stack.{IsFallenTo}
use Rattle.jk_wave.proofs.falling.stack.first_levels.Given as goal

abbrev pub invariant-loop-n : goal.invariant-loop-n
invariant-loop-n l = record {
  count : length l.all.items ≡ l.n;
  each : (f : ℕ → ℕ → ℤ) (k : ℕ) (other : FallingLevel) → k < l.n → IsFallenTo l.rect l.levels l.rect.y0 f k (get_or l.all.items k other);
  none : (k o : ℕ) (other : FallingLevel) → k < l.n → o < 4 → part_list (get_or l.all.items k other).parts o ≡ [];
}
