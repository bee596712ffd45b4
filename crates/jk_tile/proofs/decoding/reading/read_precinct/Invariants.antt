use Rattle.std.proofs.Common.{◌≡◌, ◌<◌, ℕ, length}
use Rattle.jk_walk.specs.TilePackets.{orientations}
use Rattle.jk_tile.specs.decoding.TileReading.{each, met_tested}
use Rattle.jk_tile.specs.decoding.Source.{source_bodies, Fills, ShowsBlocks, block_count}
use Rattle.jk_tile.proofs.Steps.{fine}
use Rattle.jk_tile.proofs.decoding.reading.read_precinct.Given as goal

abbrev pub invariant-loop-i : goal.invariant-loop-i
invariant-loop-i l = record {
  tested : each l.i (λ i. met_tested l.source.region l.source.coding l.r l.n i (source_bodies l.source l.r l.n)) ≡ fine;
  fills : Fills l.source l.r l.fn.rows l.rows;
  shows : (i : ℕ) → i < l.i → i < length (orientations l.r) → ShowsBlocks l.source l.r l.n i (block_count l.source l.r l.n i) l.rows;
}
