use Rattle.std.proofs.Common.{◌≡◌, ◌<◌, ◌-◌, ◌^◌, All}
use Rattle.jk_math.specs.Signed.{IsBelow}
use Rattle.jk_wave.specs.RegionRows.{IsMadeSmall}
use Rattle.jk_tile.specs.decoding.TileReading.{each, resolution_part_tested}
use Rattle.jk_tile.specs.decoding.Source.{source_bodies, resolution_values}
use Rattle.jk_tile.proofs.Steps.{fine}
use Rattle.jk_tile.proofs.decoding.tile.read_component.Given as goal

abbrev pub invariant-loop-r : goal.invariant-loop-r
invariant-loop-r l = record {
  tested : each l.r (λ r. resolution_part_tested l.source.region l.source.coding r (source_bodies l.source r)) ≡ fine;
  values : 0 < l.r → l.values.items ≡ resolution_values l.source (l.r - 1);
  made : 0 < l.r → IsMadeSmall l.source.region (l.r - 1) l.values.items;
  small : All (IsBelow (2 ^ 29)) l.values.items;
}
