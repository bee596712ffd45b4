use Rattle.std.proofs.Common.{◌≡◌}
use Rattle.jk_tile.specs.decoding.TileReading.{each, precinct_tested}
use Rattle.jk_tile.specs.decoding.Source.{source_bodies}
use Rattle.jk_tile.proofs.Steps.{fine}
use Rattle.jk_tile.proofs.decoding.judging.judge_resolution.Given as goal

abbrev pub invariant-loop-n : goal.invariant-loop-n
invariant-loop-n l = each l.n (λ n. precinct_tested l.source.region.rect l.source.coding l.r n (source_bodies l.source l.r n)) ≡ fine
