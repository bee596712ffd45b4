use Rattle.std.proofs.Common.{◌≡◌, ◌-◌, ◌≤◌}
use Rattle.jk_math.specs.Raster.{raster}
use Rattle.jk_wave.specs.Resolutions.{resolution_of}
use Rattle.jk_wave.specs.climbing.Held.{rows_between}
use Rattle.jk_tile.specs.decoding.Source.{source_coefficient}
use Rattle.jk_rows.specs.Components.{area_at, taken_rows, AreBlocksAt}
use Rattle.jk_rows.proofs.lowest.LowestRows.step.Given as goal

abbrev pub invariant-loop-from : goal.invariant-loop-from
invariant-loop-from l = record {
  more : taken_rows l.source 0 l.d ≤ l.from;
  to : l.from ≤ l.end;
  blocks : AreBlocksAt l.source 0 l.from l.self.chains (λ i. l.self.strip.items);
  rows : l.out.items ≡ raster (rows_between (area_at l.source 0) (taken_rows l.source 0 l.d) l.from) (resolution_of l.source.region.rect l.source.region.levels (source_coefficient l.source) 0);
}

abbrev pub decreases-loop-from : goal.decreases-loop-from
decreases-loop-from l = l.end - l.from
