-- A tile of an image behind the last of its rows.
use Rattle.std.specs.Prelude.{ℕ, ◌<◌, length, slice_index_or, ℤ}
use Rattle.jk_math.specs.BitLength.{bit_length}
use Rattle.jk_math.specs.Raster.{raster}
use Rattle.jk_block.specs.BlockWritten.{greatest}
use Rattle.jk_wave.specs.Analysis.{analysed}
use Rattle.jk_wave.specs.Bands.{numbered_area}
use Rattle.jk_tile.specs.encoding.Strips.{ComponentFrame}
use Rattle.jk_tile.specs.encoding.FallenComponents.{HaveRoom, IsFallen, IsCodedOf}
use Rattle.jk_tile.specs.declared.encoding.fallen.FallenComponent.{FallenComponent}
use Rattle.jk_tile.specs.declared.encoding.fallen_tile.FallenTile.{FallenTile}

-- how many components there are
abbrev pub fallen_in : FallenTile → ℕ
fallen_in t = length t.components.items

-- how many bits the greatest magnitude has in sub-band b, in the order of QCD, of samples f
abbrev pub band_need : ComponentFrame → (ℕ → ℕ → ℤ) → ℕ → ℕ
band_need s f b = bit_length (greatest
    (raster (numbered_area s.rect s.coding.levels b) (analysed s.rect s.coding.levels f b)))

-- All components of a tile.
pub record IsFallenTile (s : ComponentFrame) (t : FallenTile) : Type 0 where
  pub each : (c : ℕ) (other : FallenComponent) → c < fallen_in t → IsFallen s (slice_index_or t.components.items c other)

-- They are coded of the samples f, which gives them by component, column and row.
pub record IsCodedTile (s : ComponentFrame) (f : ℕ → ℕ → ℕ → ℤ) (t : FallenTile) : Type 0 where
  pub each : (c : ℕ) (other : FallenComponent) → c < fallen_in t
      → IsCodedOf s (f c) (slice_index_or t.components.items c other)

-- Each sub-band has as many bit-planes as it needs in each component.
pub record HasTileRoom (s : ComponentFrame) (planes : ℕ → ℕ) (t : FallenTile) : Type 0 where
  pub each : (c : ℕ) (other : FallenComponent) → c < fallen_in t
      → HaveRoom s planes (slice_index_or t.components.items c other).bands.items
