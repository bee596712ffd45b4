use Rattle.std.proofs.Common.{◌≡◌, ◌-◌, ◌≤◌}
use Rattle.jk_math.specs.Raster.{raster}
use Rattle.jk_wave.specs.Bands.{coefficients_of}
use Rattle.jk_wave.specs.Resolutions.{resolution_of}
use Rattle.jk_wave.specs.climbing.Held.{rows_between}
use Rattle.jk_wave.specs.climbing.Stack.{made_of, AreLevelsAt}
use Rattle.jk_wave.proofs.climbing.stack.synthesise_by_rows.Given as goal

abbrev pub invariant-loop-e : goal.invariant-loop-e
invariant-loop-e l = record {
  to : l.e ≤ l.area.y1;
  at : AreLevelsAt l.bands.rect l.bands.levels l.top l.e (coefficients_of l.bands.rect l.bands.levels l.bands.bands) l.levels.items;
  rows : l.out.items ≡ raster (rows_between l.area l.area.y0 (made_of l.bands.rect l.bands.levels l.top l.e l.top)) (resolution_of l.bands.rect l.bands.levels (coefficients_of l.bands.rect l.bands.levels l.bands.bands) l.top);
}

abbrev pub decreases-loop-e : goal.decreases-loop-e
decreases-loop-e l = l.area.y1 - l.e
