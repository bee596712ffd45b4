use Rattle.std.proofs.Common.{◌≡◌, ◌<◌, ◌+◌, ℕ, get_or, length}
use Rattle.jk_math.specs.Picture.{Picture}
use Rattle.jk_tile.specs.encoding.Forward.{tile_value}
use Rattle.jk_tile.specs.encoding.FallingTiles.{HasTileSamples}
use Rattle.jk_tile.specs.declared.encoding.falling_tile.FallingTile.{FallingTile}
use Rattle.jk_code.specs.ComingRows.{component_of, area_of_coming, IsFallingTile}
use Rattle.jk_code.proofs.coming.first_of_tiles.Given as goal

-- the tiles before
abbrev pub invariant-loop-k : goal.invariant-loop-k
invariant-loop-k l = record {
  count : length l.tiles.items ≡ l.k;
  each : (k : ℕ) (other : FallingTile) → k < l.k → IsFallingTile l.coming (l.first + k) (area_of_coming l.coming l.first).y0 (get_or l.tiles.items k other);
  rows : (p : Picture) (k : ℕ) (other : FallingTile) → k < l.k
      → HasTileSamples (component_of l.coming (l.first + k)) (tile_value p l.coming.parameters.now.colour) (get_or l.tiles.items k other);
}
