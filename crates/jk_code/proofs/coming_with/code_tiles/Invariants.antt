use Rattle.std.proofs.Common.{◌≡◌, ◌<◌, ◌≤◌, ◌+◌, ℕ, get_or, length}
use Rattle.jk_math.specs.Picture.{Picture}
use Rattle.jk_tile.specs.encoding.Ahead.{IsCodedAhead}
use Rattle.jk_tile.specs.encoding.Forward.{tile_value}
use Rattle.jk_tile.specs.encoding.FallingTiles.{HasTileSamples}
use Rattle.jk_tile.specs.declared.encoding.falling_tile.FallingTile.{FallingTile}
use Rattle.jk_code.specs.ComingRows.{component_of, IsFallingTile, HaveRows}
use Rattle.jk_code.specs.declared.coming_walk.ComingWalk.{ComingWalk}
use Rattle.jk_code.proofs.coming_with.code_tiles.Given as goal

-- what was listed of the tiles before is coded
abbrev pub invariant-loop-k : goal.invariant-loop-k
invariant-loop-k l = record {
  same : l.walk ≡ (let w : ComingWalk = record l.fn.walk { tiles = l.walk.tiles } in w);
  count : length l.walk.tiles.items ≡ length l.fn.walk.tiles.items;
  done : (k : ℕ) (other : FallingTile) → k < l.k → IsFallingTile l.coming (length l.fn.walk.fallen.items + k) l.fn.walk.y (get_or l.walk.tiles.items k other);
  left : (k : ℕ) (other : FallingTile) → l.k ≤ k → get_or l.walk.tiles.items k other ≡ get_or l.fn.walk.tiles.items k other;
  rows : (p : Picture) → HaveRows l.coming (length l.fn.walk.fallen.items) p l.fn.walk.tiles.items → (k : ℕ) (other : FallingTile) → k < l.k
      → HasTileSamples (component_of l.coming (length l.fn.walk.fallen.items + k)) (tile_value p l.coming.parameters.now.colour) (get_or l.walk.tiles.items k other);
  ahead : IsCodedAhead l.ahead;
}
