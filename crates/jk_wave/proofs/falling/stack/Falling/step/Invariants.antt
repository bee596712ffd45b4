use Rattle.std.proofs.Common.{◌≡◌, ℕ, ℤ, ◌≤◌, get_or, length}
use Rattle.jk_math.specs.Raster.{raster}
use Rattle.jk_wave.specs.climbing.Held.{rows_between}
use Rattle.jk_wave.specs.declared.falling.level.FallingLevel.{FallingLevel}
use Rattle.jk_wave.specs.falling.Intervals.{rows_given}
use Rattle.jk_wave.specs.falling.Stack.{IsGiven}
use Rattle.jk_wave.proofs.falling.Stacked.{ArePassed}
use Rattle.jk_wave.proofs.falling.stack.Falling.step.Given as goal

abbrev pub invariant-loop-n : goal.invariant-loop-n
invariant-loop-n l = record {
  rect : l.self.rect ≡ l.fn.self.rect;
  levels : l.self.levels ≡ l.fn.self.levels;
  y : l.self.y ≡ l.fn.self.y;
  low : l.self.low ≡ l.fn.self.low;
  count : length l.self.all.items ≡ l.fn.self.levels;
  place : l.t ≡ rows_given l.fn.self.rect l.fn.self.levels l.e l.n;
  left : (k : ℕ) (other : FallingLevel) → l.n ≤ k → get_or l.self.all.items k other ≡ get_or l.fn.self.all.items k other;
  passed : (f : ℕ → ℕ → ℤ) → IsGiven f l.fn.self → l.fn.rows.items ≡ raster (rows_between l.fn.self.rect l.fn.self.y l.e) f →
      ArePassed l.fn.self.rect l.fn.self.levels l.fn.self.y l.e l.n f l.fn.self.all.items l.self.all.items l.rows.items;
}
