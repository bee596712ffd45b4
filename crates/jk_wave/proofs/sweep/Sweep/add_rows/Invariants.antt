use Rattle.std.proofs.Common.{◌≡◌, ℕ, ◌-◌, ◌%◌, ◌<◌, ◌≤◌}
use Rattle.jk_wave.specs.Levels.{part_list, IsPartUpto}
use Rattle.jk_wave.specs.SourceRows.{column_lifted}
use Rattle.jk_wave.specs.Sweeping.{IsSweep}
use Rattle.jk_wave.proofs.sweep.Sweep.add_rows.Given as goal

abbrev pub invariant-loop-y : goal.invariant-loop-y
invariant-loop-y g l = record {
  even : l.y % 2 ≡ 0;
  from : l.area.y0 ≤ l.y;
  to : l.y ≤ l.area.y1;
  sweep : IsSweep l.area (g.S.RowSource.value_at l.source) l.y l.self;
  parts : (o : ℕ) → o < 4 → IsPartUpto l.area o l.y (λ x v. column_lifted l.area (g.S.RowSource.value_at l.source) v x) (part_list l.parts o);
}

abbrev pub decreases-loop-y : goal.decreases-loop-y
decreases-loop-y g l = l.area.y1 - l.y
