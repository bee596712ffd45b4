use Rattle.std.proofs.Common.{◌≡◌, ◌<◌, ◌≤◌, ℕ, ℤ, get_or, length}
use Rattle.jk_tile.specs.encoding.Ahead.{IsCodedAhead}
use Rattle.jk_tile.specs.encoding.FallingComponents.{HasSamples}
use Rattle.jk_tile.specs.encoding.FallingTiles.{IsStandingAt, HasTileSamples}
use Rattle.jk_tile.specs.declared.encoding.falling.FallingComponent.{FallingComponent}
use Rattle.jk_tile.proofs.encoding.falling_tile.FallingTile.code_listed.Given as goal

-- what was listed of the components before is coded
abbrev pub invariant-loop-c : goal.invariant-loop-c
invariant-loop-c l = record {
  count : length l.self.components.items ≡ length l.fn.self.components.items;
  next : l.self.y ≡ l.fn.self.y;
  done : (k : ℕ) (other : FallingComponent) → k < l.c → IsStandingAt l.source l.fn.self.y (get_or l.self.components.items k other);
  left : (k : ℕ) (other : FallingComponent) → l.c ≤ k → get_or l.self.components.items k other ≡ get_or l.fn.self.components.items k other;
  rows : (f : ℕ → ℕ → ℕ → ℤ) → HasTileSamples l.source f l.fn.self
      → (k : ℕ) (other : FallingComponent) → k < l.c → HasSamples l.source (f k) (get_or l.self.components.items k other);
  ahead : IsCodedAhead l.ahead;
}
