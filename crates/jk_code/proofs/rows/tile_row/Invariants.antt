use Rattle.std.proofs.Common.{◌≡◌, ℕ, ◌+◌, ◌<◌, get_or, length}
use Rattle.jk_rows.specs.declared.tile.TileRows.{TileRows}
use Rattle.jk_rows.specs.Tiles.{IsTileRows}
use Rattle.jk_code.specs.Rows.{tile_source, area_of_tile}
use Rattle.jk_code.proofs.rows.tile_row.Given as goal

abbrev pub invariant-loop-k : goal.invariant-loop-k
invariant-loop-k l = record {
  count : length l.tiles.items ≡ l.k;
  each : (j : ℕ) (other : TileRows) → j < l.k → IsTileRows (tile_source l.coded (l.first + j)) (area_of_tile l.coded l.first).y0 (get_or l.tiles.items j other);
}
