use Rattle.std.proofs.Common.{◌≡◌, ◌<◌, ◌≤◌, ℕ, ℤ, drop, get_or, length}
use Rattle.jk_tile.specs.encoding.FallenComponents.{IsFallen, IsCodedOf}
use Rattle.jk_tile.specs.encoding.FallingTiles.{HasTileSamples}
use Rattle.jk_tile.specs.declared.encoding.fallen.FallenComponent.{FallenComponent}
use Rattle.jk_tile.proofs.encoding.falling_tile.FallingTile.finish.Given as goal

-- the components before are kept
abbrev pub invariant-loop-component : goal.invariant-loop-component
invariant-loop-component l = record {
  left : l.component-iterator.rest.items ≡ drop (length l.components.items) l.fn.self.components.items;
  few : length l.components.items ≤ length l.fn.self.components.items;
  each : (k : ℕ) (other : FallenComponent) → k < length l.components.items → IsFallen l.source (get_or l.components.items k other);
  rows : (f : ℕ → ℕ → ℕ → ℤ) → HasTileSamples l.source f l.fn.self
      → (k : ℕ) (other : FallenComponent) → k < length l.components.items → IsCodedOf l.source (f k) (get_or l.components.items k other);
}
