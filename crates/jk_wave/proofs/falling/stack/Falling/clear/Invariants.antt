use Rattle.std.proofs.Common.{◌≡◌, ℕ, ◌<◌, [], get_or, length}
use Rattle.jk_wave.specs.Levels.{part_list}
use Rattle.jk_wave.specs.declared.falling.level.FallingLevel.{FallingLevel}
use Rattle.jk_wave.proofs.falling.Stacked.{AreLike}
use Rattle.jk_wave.proofs.falling.stack.Falling.clear.Given as goal

abbrev pub invariant-loop-n : goal.invariant-loop-n
invariant-loop-n l = record {
  rect : l.self.rect ≡ l.fn.self.rect;
  levels : l.self.levels ≡ l.fn.self.levels;
  y : l.self.y ≡ l.fn.self.y;
  count : length l.self.all.items ≡ length l.fn.self.all.items;
  like : (k : ℕ) (other : FallingLevel) → k < length l.fn.self.all.items → AreLike (get_or l.fn.self.all.items k other) (get_or l.self.all.items k other);
  none : (k o : ℕ) (other : FallingLevel) → k < l.n → 0 < o → o < 4 → part_list (get_or l.self.all.items k other).parts o ≡ [];
}
