use Rattle.std.proofs.Common.{◌≡◌, ◌<◌, ℕ}
use Rattle.jk_tile.specs.decoding.TileReading.{each, precinct_part_tested}
use Rattle.jk_tile.specs.decoding.Source.{source_bodies, Fills, ShowsPrecinct}
use Rattle.jk_tile.proofs.Steps.{fine}
use Rattle.jk_tile.proofs.decoding.reading.read_resolution.Given as goal

abbrev pub invariant-loop-n : goal.invariant-loop-n
invariant-loop-n l = record {
  tested : each l.n (λ n. precinct_part_tested l.source.region l.source.coding l.r n (source_bodies l.source l.r n)) ≡ fine;
  fills : Fills l.source l.r l.initial.rows.items l.rows.items;
  shows : (n : ℕ) → n < l.n → ShowsPrecinct l.source l.r n l.rows.items;
}
