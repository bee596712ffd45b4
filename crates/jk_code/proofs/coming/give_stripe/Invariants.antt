use Rattle.std.proofs.Common.{◌≡◌, ◌<◌, ◌≤◌, ◌+◌, ℕ, get_or, length}
use Rattle.jk_math.specs.Picture.{Picture}
use Rattle.jk_tile.specs.encoding.Forward.{tile_value}
use Rattle.jk_params.specs.PictureFrames.{frame_of}
use Rattle.jk_code.specs.Made.{rows_of}
use Rattle.jk_tile.specs.encoding.FallingTiles.{HasTileSamples}
use Rattle.jk_tile.specs.declared.encoding.falling_tile.FallingTile.{FallingTile}
use Rattle.jk_code.specs.ComingRows.{component_of, IsFallingTile, HaveRows}
use Rattle.jk_code.proofs.coming.give_stripe.Given as goal

-- the tiles before have the stripe
abbrev pub invariant-loop-k : goal.invariant-loop-k
invariant-loop-k l = record {
  count : length l.tiles.items ≡ length l.fn.tiles.items;
  done : (k : ℕ) (other : FallingTile) → k < l.k → IsFallingTile l.coming (l.first + k) (l.stripe.y0 + l.stripe.height) (get_or l.tiles.items k other);
  left : (k : ℕ) (other : FallingTile) → l.k ≤ k → get_or l.tiles.items k other ≡ get_or l.fn.tiles.items k other;
  rows : (p : Picture) → frame_of p ≡ l.coming.frame → l.stripe ≡ rows_of p l.stripe.y0 (l.stripe.y0 + l.stripe.height)
      → HaveRows l.coming l.first p l.fn.tiles.items → (k : ℕ) (other : FallingTile) → k < l.k
      → HasTileSamples (component_of l.coming (l.first + k)) (tile_value p l.coming.parameters.now.colour) (get_or l.tiles.items k other);
}
