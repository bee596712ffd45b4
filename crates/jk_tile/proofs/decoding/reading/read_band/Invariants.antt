use Rattle.std.proofs.Common.{◌≡◌}
use Rattle.jk_tile.specs.decoding.TileReading.{each}
use Rattle.jk_tile.specs.decoding.Source.{Fills, ShowsBlocks}
use Rattle.jk_tile.proofs.Steps.{fine}
use Rattle.jk_tile.proofs.Showing.{block_tested}
use Rattle.jk_tile.proofs.decoding.reading.read_band.Given as goal

abbrev pub invariant-loop-j : goal.invariant-loop-j
invariant-loop-j l = record {
  tested : each l.j (λ j. block_tested l.source l.part.resolution l.part.precinct l.part.band j) ≡ fine;
  fills : Fills l.source l.part.resolution l.fn.rows l.rows;
  shows : ShowsBlocks l.source l.part.resolution l.part.precinct l.part.band l.j l.rows;
}
