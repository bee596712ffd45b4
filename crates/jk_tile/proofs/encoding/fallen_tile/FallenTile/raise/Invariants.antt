use Rattle.std.proofs.Common.{◌≡◌, ◌<◌, ◌≤◌, ℕ, ℤ, get_or, max}
use Rattle.std.specs.Prelude.{slice_index}
use Rattle.jk_tile.specs.encoding.Needs.{most}
use Rattle.jk_tile.specs.encoding.Strips.{bands_in}
use Rattle.jk_tile.specs.encoding.FallenComponents.{HaveRoom}
use Rattle.jk_tile.specs.encoding.FallenTiles.{band_need, IsCodedTile}
use Rattle.jk_tile.specs.declared.encoding.fallen.FallenComponent.{FallenComponent}
use Rattle.jk_tile.proofs.encoding.fallen_tile.FallenTile.raise.Given as goal

-- raised by the components before
abbrev pub invariant-loop-c : goal.invariant-loop-c
invariant-loop-c l = record {
  needs : (f : ℕ → ℕ → ℕ → ℤ) → IsCodedTile l.source f l.self → (b : ℕ) → b < bands_in l.source → slice_index l.needs b ≡ max (slice_index l.fn.needs b) (most (λ c. band_need l.source (f c) b) l.c);
  room : (k : ℕ) (other : FallenComponent) → k < l.c → HaveRoom l.source (slice_index l.needs) (get_or l.self.components.items k other).bands.items;
  rise : (b : ℕ) → slice_index l.fn.needs b ≤ slice_index l.needs b;
}
