use Rattle.std.proofs.Common.{◌≡◌, ◌<◌, ◌≤◌, ℕ, ℤ, get_or, length}
use Rattle.jk_tile.specs.encoding.FallingComponents.{HasSamples}
use Rattle.jk_tile.specs.encoding.FallingTiles.{IsStandingAt, HasTileSamples, GivesTile}
use Rattle.jk_tile.specs.declared.encoding.falling.FallingComponent.{FallingComponent}
use Rattle.jk_tile.proofs.encoding.falling_tile.FallingTile.give.Given as goal

-- the components before have the rows
abbrev pub invariant-loop-c : goal.invariant-loop-c
invariant-loop-c l = record {
  count : length l.self.components.items ≡ length l.fn.self.components.items;
  done : (k : ℕ) (other : FallingComponent) → k < l.c → IsStandingAt l.source l.rows.end (get_or l.self.components.items k other);
  left : (k : ℕ) (other : FallingComponent) → l.c ≤ k → get_or l.self.components.items k other ≡ get_or l.fn.self.components.items k other;
  rows : (f : ℕ → ℕ → ℕ → ℤ) → HasTileSamples l.source f l.fn.self → GivesTile l.source l.rows.colours l.rows.image.now l.fn.self.y l.rows.end f
      → (k : ℕ) (other : FallingComponent) → k < l.c → HasSamples l.source (f k) (get_or l.self.components.items k other);
}
