use Rattle.std.proofs.Common.{◌≡◌}
use Rattle.jk_tile.specs.decoding.TileReading.{each, resolution_tested}
use Rattle.jk_tile.specs.decoding.Source.{source_bodies}
use Rattle.jk_tile.proofs.Steps.{fine}
use Rattle.jk_tile.proofs.decoding.judging.judge_component.Given as goal

abbrev pub invariant-loop-r : goal.invariant-loop-r
invariant-loop-r l = each l.r (λ r. resolution_tested l.source.region.rect l.source.coding r (source_bodies l.source r)) ≡ fine
