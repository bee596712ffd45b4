use Rattle.std.proofs.Common.{◌≡◌, ◌<◌, ℕ, ℤ, get_or, length}
use Rattle.jk_tile.specs.encoding.FallingComponents.{HasSamples}
use Rattle.jk_tile.specs.encoding.FallingTiles.{IsStandingAt}
use Rattle.jk_tile.specs.declared.encoding.falling.FallingComponent.{FallingComponent}
use Rattle.jk_tile.proofs.encoding.falling_tile.FallingTile.new.Given as goal

-- the components before
abbrev pub invariant-loop : goal.invariant-loop
invariant-loop l = record {
  count : length l.list.items ≡ l.counter;
  each : (k : ℕ) (other : FallingComponent) → k < l.counter → IsStandingAt l.source l.source.rect.y0 (get_or l.list.items k other);
  rows : (f : ℕ → ℕ → ℕ → ℤ) (k : ℕ) (other : FallingComponent) → k < l.counter → HasSamples l.source (f k) (get_or l.list.items k other);
}
