use Rattle.std.proofs.Common.{◌≡◌}
use Rattle.jk_tile.specs.decoding.TileReading.{each, tested, block_values}
use Rattle.jk_tile.specs.decoding.Source.{source_bodies}
use Rattle.jk_tile.proofs.Steps.{fine}
use Rattle.jk_tile.proofs.decoding.judging.judge_band.Given as goal

abbrev pub invariant-loop-j : goal.invariant-loop-j
invariant-loop-j l =
    each l.j (λ j. tested (block_values l.source.region.rect l.source.coding l.part.resolution l.part.precinct l.part.band j (source_bodies l.source l.part.resolution l.part.precinct))) ≡ fine
