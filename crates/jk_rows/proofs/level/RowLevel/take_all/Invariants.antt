use Rattle.std.proofs.Common.{◌≡◌, ℕ, ◌+◌, ◌-◌, ◌≤◌, ◌++◌}
use Rattle.jk_math.specs.Raster.{raster}
use Rattle.jk_wave.specs.Levels.{half_bound}
use Rattle.jk_wave.specs.Resolutions.{resolution_of}
use Rattle.jk_wave.specs.climbing.Held.{rows_between}
use Rattle.jk_wave.specs.climbing.Intervals.{rows_reached}
use Rattle.jk_tile.specs.decoding.Source.{source_coefficient}
use Rattle.jk_rows.specs.Components.{area_at, StandsBefore, WaitsUpto}
use Rattle.jk_rows.proofs.level.RowLevel.take_all.Given as goal

abbrev pub invariant-loop-from : goal.invariant-loop-from
invariant-loop-from l = record {
  more : l.rows.from ≤ l.from;
  to : l.from ≤ l.rows.to;
  stands : StandsBefore l.source l.q l.from l.self;
  given : (m : ℕ) → WaitsUpto l.source l.q m l.fn.self → half_bound l.rows.to 0 ≤ m → WaitsUpto l.source l.q m l.self
      × (l.out.items ≡ l.fn.out.items ++ raster (rows_between (area_at l.source (l.q + 1)) (rows_reached (area_at l.source (l.q + 1)) l.rows.from) (rows_reached (area_at l.source (l.q + 1)) l.from))
      (resolution_of l.source.region.rect l.source.region.levels (source_coefficient l.source) (l.q + 1)));
}

abbrev pub decreases-loop-from : goal.decreases-loop-from
decreases-loop-from l = l.rows.to - l.from
