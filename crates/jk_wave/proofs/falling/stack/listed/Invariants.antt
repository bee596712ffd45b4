use Rattle.std.proofs.Common.{◌≡◌, ℕ, ℤ, ◌+◌, get_or, length}
use Rattle.jk_math.specs.declared.rect.Rect.{Rect}
use Rattle.jk_math.specs.Lists.{lists_of}
use Rattle.jk_wave.proofs.Leaving.{AreAside}
use Rattle.jk_wave.specs.declared.falling.level.FallingLevel.{FallingLevel}
use Rattle.jk_wave.specs.falling.Stack.{HaveBands}
use Rattle.jk_wave.proofs.falling.stack.listed.Given as goal

abbrev pub invariant-loop-n : goal.invariant-loop-n
invariant-loop-n l = record {
  count : length l.all.items + l._n ≡ l.levels;
  rest : (k : ℕ) (other : FallingLevel) → get_or l.all.items k other ≡ get_or l.fn.made.items (l._n + k) other;
  low : l.low ≡ l.fn.low;
  aside : (rect : Rect) (f : ℕ → ℕ → ℤ) → HaveBands rect l.levels f l.fn.made.items → AreAside rect l.levels l._n f (lists_of l.bands.items);
}
