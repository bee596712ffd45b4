use Rattle.std.proofs.Common.{◌≡◌, ◌≤◌, length}
use Rattle.jk_math.specs.Raster.{columns_of}
use Rattle.jk_wave.proofs.GatheredRows.{AreGathered}
use Rattle.jk_wave.proofs.forward.all_rows.Given as goal

abbrev pub invariant-loop-y : goal.invariant-loop-y
invariant-loop-y g l = record {
  from : l.area.y0 ≤ l.y;
  row : length l.row.items ≡ columns_of l.area;
  rows : AreGathered l.area l.y (g.S.RowSource.value_at l.source) l.values.items;
}
