use Rattle.std.proofs.Common.{◌≡◌, ℕ, ℤ, ◌-◌, ◌%◌, ◌≤◌, ◌++◌}
use Rattle.jk_math.specs.Raster.{raster}
use Rattle.jk_wave.specs.climbing.Held.{column_sample, rows_between, made, RowsAgree, HasRoom, IsClimb}
use Rattle.jk_wave.proofs.climbing.plane.climb_pairs.Given as goal

abbrev pub invariant-loop-y : goal.invariant-loop-y
invariant-loop-y g l = record {
  even : l.y % 2 ≡ 0;
  from : l.v ≤ l.y;
  to : l.y ≤ l.t;
  ready : HasRoom l.area l.climb l.next;
  given : (f : ℕ → ℕ → ℤ) → RowsAgree l.area l.v l.t (g.S.RowSource.value_at l.source) f → IsClimb l.area f l.v l.fn.climb →
      IsClimb l.area f l.y l.climb × (l.out.items ≡ l.fn.out.items ++ raster (rows_between l.area (made l.area l.v) (made l.area l.y)) (column_sample l.area f));
}

abbrev pub decreases-loop-y : goal.decreases-loop-y
decreases-loop-y g l = l.t - l.y
