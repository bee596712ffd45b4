use Rattle.std.proofs.Common.{◌≡◌, ℕ, ◌+◌, ◌<◌, ◌≤◌, [], get_or, length}
use Rattle.jk_marks.specs.Siz.{tiles_across}
use Rattle.jk_tile.specs.decoding.TileReading.{tested, tile_planes_at}
use Rattle.jk_tile.proofs.Laws.{fine}
use Rattle.jk_rows.specs.declared.tile.TileRows.{TileRows}
use Rattle.jk_rows.specs.Tiles.{IsTileRows}
use Rattle.jk_code.specs.Rows.{tile_source, area_of_tile}
use Rattle.jk_code.specs.Tiles.{ArePlanes, ShowsTileAt}
use Rattle.jk_code.proofs.rows.placed_planes.Given as goal

abbrev pub invariant-loop-k : goal.invariant-loop-k
invariant-loop-k l = record {
  begins : l.row.first ≡ l.fn.row.first;
  count : length l.row.tiles.items ≡ tiles_across l.coded.headers.siz;
  planes : ArePlanes l.coded.headers l.stripe l.planes.items;
  shows : (j : ℕ) → j < l.k → ShowsTileAt l.coded.bytes l.coded.headers l.coded.reduce l.stripe (l.fn.row.first + j) l.coded.headers.siz.components l.planes.items;
  done : (j : ℕ) (other : TileRows) → j < l.k → IsTileRows (tile_source l.coded (l.fn.row.first + j)) l.stripe.y1 (get_or l.row.tiles.items j other);
  left : (j : ℕ) (other : TileRows) → l.k ≤ j → j < tiles_across l.coded.headers.siz → IsTileRows (tile_source l.coded (l.fn.row.first + j)) l.stripe.y0 (get_or l.row.tiles.items j other);
  fine : l.stripe.y1 ≡ (area_of_tile l.coded l.fn.row.first).y1 → (j : ℕ) → j < l.k → tested (tile_planes_at l.coded.bytes l.coded.headers (l.fn.row.first + j) l.coded.reduce (get_or l.coded.packets (l.fn.row.first + j) [])) ≡ fine;
}
