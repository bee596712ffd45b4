use Rattle.std.proofs.Common.{◌≡◌, ◌-◌, ◌≤◌}
use Rattle.jk_math.specs.Raster.{plane_at}
use Rattle.jk_wave.specs.falling.Stack.{IsGiven, KeepsAll}
use Rattle.jk_wave.proofs.falling.stack.analyse_by_rows.Given as goal

abbrev pub invariant-loop-e : goal.invariant-loop-e
invariant-loop-e l = record {
  rect : l.falling.rect ≡ l.rect;
  levels : l.falling.levels ≡ l.levels;
  place : l.falling.y ≡ l.e;
  from : l.rect.y0 ≤ l.e;
  to : l.e ≤ l.rect.y1;
  given : IsGiven (plane_at l.rect l.samples) l.falling;
  keeps : KeepsAll (plane_at l.rect l.samples) l.falling;
}

abbrev pub decreases-loop-e : goal.decreases-loop-e
decreases-loop-e l = l.rect.y1 - l.e
