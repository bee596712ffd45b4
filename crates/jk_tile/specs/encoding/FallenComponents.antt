-- A component of a tile behind the last of its rows.
use Rattle.std.specs.Prelude.{◌≡◌, ℕ, ◌<◌, ◌≤◌, List, length, slice_index_or, ℤ}
use Rattle.jk_math.specs.BitLength.{bit_length}
use Rattle.jk_math.specs.Lists.{lists_of}
use Rattle.jk_math.specs.Raster.{raster}
use Rattle.jk_geom.specs.Precincts.{precinct_number}
use Rattle.jk_block.specs.BlockWritten.{greatest}
use Rattle.jk_wave.specs.Analysis.{analysed}
use Rattle.jk_wave.specs.Bands.{numbered_area}
use Rattle.jk_tile.specs.TileBlocks.{band_resolution, band_index}
use Rattle.jk_tile.specs.encoding.Strips.{ComponentFrame, IsFrame, band_at, bands_in, AreCodedAbove, HavePlanes}
use Rattle.jk_tile.specs.declared.encoding.strips.BandStrips.{BandStrips}
use Rattle.jk_tile.specs.declared.encoding.fallen.FallenBand.{FallenBand}
use Rattle.jk_tile.specs.declared.encoding.fallen.FallenComponent.{FallenComponent}

-- what is kept of the strips of a sub-band
abbrev pub fallen_band : BandStrips → FallenBand
fallen_band x = record { blocks = x.blocks; bits = x.bits }

-- Sub-band b, in the order of QCD, has a list of code-blocks for each precinct, none with more
-- bit-planes than it needs.
pub record IsFallenBand (s : ComponentFrame) (b : ℕ) (x : FallenBand) : Type 0 where
  pub count : length x.blocks.items ≡ precinct_number s.rect s.coding (band_resolution b)
  pub planes : HavePlanes x.bits (lists_of x.blocks.items)

-- They are all those of f, and so is how many bits the greatest magnitude has.
pub record IsCodedBand (s : ComponentFrame) (f : ℕ → ℕ → ℕ → ℤ) (b : ℕ) (x : FallenBand) : Type 0 where
  pub blocks : AreCodedAbove s f (band_resolution b) (band_index b) (band_at s (band_resolution b) (band_index b)).y1
      (lists_of x.blocks.items)
  pub bits : x.bits ≡ bit_length (greatest (raster (numbered_area s.rect s.coding.levels b) (f b)))

-- All sub-bands of a component.
pub record IsFallen (s : ComponentFrame) (c : FallenComponent) : Type 0 where
  pub frame : IsFrame s
  pub count : length c.bands.items ≡ bands_in s
  pub each : (b : ℕ) (other : FallenBand) → b < bands_in s → IsFallenBand s b (slice_index_or c.bands.items b other)

-- It is coded of the samples f.
abbrev pub IsCodedOf : ComponentFrame → (ℕ → ℕ → ℤ) → FallenComponent → Type 0
IsCodedOf s f c = (b : ℕ) (other : FallenBand) → b < bands_in s
    → IsCodedBand s (analysed s.rect s.coding.levels f) b (slice_index_or c.bands.items b other)

-- each sub-band has as many bit-planes as its rows need
abbrev pub HaveRoom : ComponentFrame → (planes : ℕ → ℕ) → List FallenBand → Type 0
HaveRoom s planes all = (b : ℕ) (other : FallenBand) → b < bands_in s → (slice_index_or all b other).bits ≤ planes b
