use Rattle.std.proofs.Common.{◌≡◌}
use Rattle.jk_tile.specs.decoding.TileReading.{each, band_tested}
use Rattle.jk_tile.specs.decoding.Source.{source_bodies}
use Rattle.jk_tile.proofs.Steps.{fine}
use Rattle.jk_tile.proofs.decoding.judging.judge_precinct.Given as goal

abbrev pub invariant-loop-i : goal.invariant-loop-i
invariant-loop-i l = each l.i (λ i. band_tested l.source.region.rect l.source.coding l.r l.n i (source_bodies l.source l.r l.n)) ≡ fine
