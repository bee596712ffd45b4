-- A tile of an image whose rows of samples come one below the other.
use Rattle.std.specs.Prelude.{◌≡◌, ℕ, ◌+◌, ◌<◌, ◌≤◌, Bool, length, slice_index_or, ℤ}
use Rattle.jk_math.specs.Picture.{Picture}
use Rattle.jk_geom.specs.Rectangles.{IsWithin}
use Rattle.jk_wave.specs.climbing.Held.{rows_between}
use Rattle.jk_tile.specs.encoding.Forward.{tile_value}
use Rattle.jk_tile.specs.encoding.Strips.{ComponentFrame}
use Rattle.jk_tile.specs.encoding.FallingComponents.{AreSixteen, IsStanding, HasSamples}
use Rattle.jk_tile.specs.declared.encoding.falling.FallingComponent.{FallingComponent}
use Rattle.jk_tile.specs.declared.encoding.falling_tile.FallingTile.{FallingTile}

-- how many components there are
abbrev pub components_in : FallingTile → ℕ
components_in t = length t.components.items

-- A component stands before row y.
pub record IsStandingAt (s : ComponentFrame) (y : ℕ) (c : FallingComponent) : Type 0 where
  pub standing : IsStanding s c
  pub next : c.y ≡ y

-- All components of a tile stand before the same row.
pub record IsStandingTile (s : ComponentFrame) (t : FallingTile) : Type 0 where
  pub each : (c : ℕ) (other : FallingComponent) → c < components_in t
      → IsStandingAt s t.y (slice_index_or t.components.items c other)

-- Their rows of samples above the next one are those of f, which gives them by component, column and
-- row.
pub record HasTileSamples (s : ComponentFrame) (f : ℕ → ℕ → ℕ → ℤ) (t : FallingTile) : Type 0 where
  pub each : (c : ℕ) (other : FallingComponent) → c < components_in t
      → HasSamples s (f c) (slice_index_or t.components.items c other)

-- ---- rows of the image

-- An image has rows y up to e of the tile.
pub record HasRowsFor (s : ComponentFrame) (y e : ℕ) (v : Picture) : Type 0 where
  pub left : v.x0 ≤ s.rect.x0
  pub right : s.rect.x1 ≤ v.x0 + v.width
  pub upper : v.y0 ≤ y
  pub order : y ≤ e
  pub lower : e ≤ v.y0 + v.height
  pub inside : e ≤ s.rect.y1

-- Its values there, behind the level shift and the component transform, are those of f.
abbrev pub GivesTile : ComponentFrame → (colours : Bool) → Picture → (y e : ℕ) → (ℕ → ℕ → ℕ → ℤ) → Type 0
GivesTile s colours v y e f = (c x z : ℕ) → c < length v.planes → IsWithin (rows_between s.rect y e) x z
    → tile_value v colours c x z ≡ f c x z

-- samples of 16 bits behind the component transform, of so many components
abbrev pub AreTileSixteen : ComponentFrame → (components : ℕ) → (ℕ → ℕ → ℕ → ℤ) → Type 0
AreTileSixteen s components f = (c : ℕ) → c < components → AreSixteen s (f c)
