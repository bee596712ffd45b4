-- What is written of the code-blocks of a tile-component (T.800 B.7, Annex D).
use Rattle.std.specs.Prelude.{◌≡◌, ℕ, ◌+◌, ◌*◌, ◌^◌, ◌<◌, ◌≤◌, List, [], length, slice_index_or, All, ℤ, unsigned_abs}
use Rattle.jk_math.specs.declared.rect.Rect.{Rect}
use Rattle.jk_math.specs.Raster.{raster, places_of}
use Rattle.jk_marks.specs.declared.coding.Coding.{Coding}
use Rattle.jk_marks.specs.Coding.{IsCoding}
use Rattle.jk_geom.specs.Rectangles.{IsArea}
use Rattle.jk_params.specs.Coding.{HasPlanes}
use Rattle.jk_math.specs.BitLength.{bit_length}
use Rattle.jk_block.specs.BlockWritten.{greatest, Coded, coded}
use Rattle.jk_wave.specs.Bands.{numbered_area, coefficients_of}
use Rattle.jk_walk.specs.TilePackets.{band_number, planes_of}
use Rattle.jk_tile.specs.TileBlocks.{block_at_place, block_shape}

-- the coefficients of code-block j of sub-band i in precinct n of resolution r, row by row, where f
-- gives them by sub-band, column and row
abbrev pub block_list : Rect → Coding → (ℕ → ℕ → ℕ → ℤ) → (r n i j : ℕ) → List ℤ
block_list a k f r n i j = raster (block_at_place a k r n i j) (f (band_number r i))

-- the code-block as it is written
abbrev pub coded_at : Rect → Coding → (ℕ → ℕ → ℕ → ℤ) → (r n i j : ℕ) → Coded
coded_at a k f r n i j = coded (block_shape a k r n i j) (block_list a k f r n i j)

-- A component of a tile that is written: the tile's rectangle, the component's coding, the number
-- of layers, and its sub-bands in the order of QCD, each row by row.
pub record WrittenBands : Type 0 where
  pub rect : Rect
  pub coding : Coding
  pub layers : ℕ
  pub bands : List (List ℤ)

-- sub-band b
abbrev pub band_of : WrittenBands → ℕ → List ℤ
band_of s b = slice_index_or s.bands b []

-- the coefficients by sub-band, column and row
abbrev pub coefficient_of : WrittenBands → ℕ → ℕ → ℕ → ℤ
coefficient_of s = coefficients_of s.rect s.coding.levels s.bands

-- what holds of it: each coefficient has no more bits than its sub-band has bit-planes
pub record AreWrittenBands (s : WrittenBands) : Type 0 where
  pub area : IsArea s.rect
  pub coding : IsCoding s.coding
  pub planes : HasPlanes s.coding
  pub some_layers : 1 ≤ s.layers
  pub few_layers : s.layers ≤ 32
  pub count : length s.bands ≡ 3 * s.coding.levels + 1
  pub long : (b : ℕ) → b ≤ 3 * s.coding.levels
      → length (band_of s b) ≡ places_of (numbered_area s.rect s.coding.levels b)
  pub small : (b : ℕ) → b ≤ 3 * s.coding.levels → All (λ v. unsigned_abs v < 2 ^ 23) (band_of s b)
  pub room : (b : ℕ) → b ≤ 3 * s.coding.levels → bit_length (greatest (band_of s b)) ≤ planes_of s.coding b
