use Rattle.std.proofs.Common.{◌≡◌, ℕ, ℤ, ◌<◌, length}
use Rattle.jk_math.specs.Raster.{columns_of, raster}
use Rattle.jk_wave.specs.climbing.Held.{rows_between}
use Rattle.jk_wave.specs.falling.Intervals.{rows_fallen}
use Rattle.jk_wave.specs.falling.Held.{IsReady, IsFall, GivesRows}
use Rattle.jk_wave.proofs.falling.level.FallingLevel.take_rows.Given as goal

abbrev pub invariant-loop-y : goal.invariant-loop-y
invariant-loop-y l = record {
  area : l.self.area ≡ l.fn.self.area;
  place : l.self.y ≡ l.fn.self.y;
  ready : l.y < l.fn.self.area.y1 → IsReady l.fn.self.area l.y l.self.fall;
  row : length l.self.row.items ≡ columns_of l.fn.self.area;
  rows : (f : ℕ → ℕ → ℤ) → (l.fn.self.y < l.fn.self.area.y1 → IsFall l.fn.self.area f l.fn.self.y l.fn.self.fall) →
      l.fresh ≡ raster (rows_between l.fn.self.area l.fn.self.y l.t) f →
      (l.y < l.fn.self.area.y1 → IsFall l.fn.self.area f l.y l.self.fall) ×
      GivesRows l.fn.self.area f (rows_fallen l.fn.self.area l.fn.self.y) (rows_fallen l.fn.self.area l.y) l.fn.self.parts l.self.parts;
}
