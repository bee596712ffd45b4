use Rattle.std.proofs.Common.{◌≡◌, ◌-◌}
use Rattle.jk_geom.specs.Rectangles.{resolution_area}
use Rattle.jk_wave.specs.Regions.{IsPartOf, held}
use Rattle.jk_wave.proofs.region.held.Given as goal

abbrev pub invariant-loop-below : goal.invariant-loop-below
invariant-loop-below l = (l.area ≡ held l.region l.below) × IsPartOf l.area (resolution_area l.region.rect l.region.levels (l.region.top - l.below))
