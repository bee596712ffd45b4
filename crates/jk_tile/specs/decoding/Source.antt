-- A part of a tile-component whose code-blocks are decoded.
use Rattle.std.specs.Prelude.{◌≡◌, ℕ, ◌+◌, ◌-◌, ◌^◌, ◌<◌, ◌≤◌, ◌⊎◌, List, length, ℤ, pos, Result}
use Rattle.std.specs.Prelude.{Ok}
use Rattle.std.specs.List.{AllByRecursion}
use Rattle.jk_math.specs.declared.rect.Rect.{Rect}
use Rattle.jk_math.specs.Raster.{raster}
use Rattle.jk_marks.specs.declared.coding.Coding.{Coding}
use Rattle.jk_marks.specs.Coding.{IsCoding}
use Rattle.jk_geom.specs.Rectangles.{IsWithin}
use Rattle.jk_geom.specs.Precincts.{precinct_number}
use Rattle.jk_geom.specs.Partitions.{block_number}
use Rattle.jk_params.specs.Coding.{HasPlanes}
use Rattle.jk_walk.specs.declared.places.PacketPlace.{PacketPlace}
use Rattle.jk_walk.specs.TilePackets.{Body, orientations, band_number}
use Rattle.jk_walk.specs.WalkReading.{place_end}
use Rattle.jk_tile.specs.TileBlocks.{grid_at, block_at_place}
use Rattle.jk_wave.specs.declared.region.Region.{Region}
use Rattle.jk_wave.specs.declared.places.BandRows.{BandRows}
use Rattle.jk_wave.specs.LevelRows.{coefficient_of}
use Rattle.jk_wave.specs.Regions.{IsRegion, held, part_area}
use Rattle.jk_wave.specs.RegionRows.{band_rows, low_rows, ShowsLow, IsLevel}
use Rattle.jk_wave.specs.Resolutions.{resolution_of}
use Rattle.jk_tile.specs.decoding.TileReading.{bodies_of, coefficient_at, each, resolution_part_tested}
use Rattle.jk_tile.specs.declared.bands.BandPart.{BandPart}
use Rattle.jk_math.specs.Answer.{◌>>=◌}
use Rattle.jk_math.specs.declared.fault.Fault.{Fault}

-- the codestream, the part of the tile-component, its coding, the packets of the tile, and which
-- component it is
pub record Source : Type 0 where
  pub bytes : List ℕ
  pub region : Region
  pub coding : Coding
  pub packets : List PacketPlace
  pub component : ℕ

-- what holds of it
pub record IsSource (s : Source) : Type 0 where
  pub region : IsRegion s.region
  pub levels : s.region.levels ≡ s.coding.levels
  pub coding : IsCoding s.coding
  pub planes : HasPlanes s.coding
  pub precincts : (r : ℕ) → r ≤ s.coding.levels → precinct_number s.region.rect s.coding r ≤ 2 ^ 24
  pub fits : length s.bytes < 2 ^ 64
  pub ends : AllByRecursion (λ w. place_end w ≤ length s.bytes) s.packets

-- what its packets have of precinct n of resolution r
abbrev pub source_bodies : Source → (r n : ℕ) → List Body
source_bodies s r n = bodies_of s.bytes s.packets s.component r n

-- its coefficients, by sub-band, column and row
abbrev pub source_coefficient : Source → (b x y : ℕ) → ℤ
source_coefficient s b x y = coefficient_at s.region.rect s.coding (source_bodies s) b x y

-- the part of sub-band i of resolution r that it depends on, and where that lies in the list of the
-- resolution
abbrev pub source_part : Source → (r i : ℕ) → Rect
source_part s r i = part_area s.region (band_number r i)

abbrev pub source_rows : Source → (r i : ℕ) → BandRows
source_rows s r i = band_rows s.region (band_number r i)

-- The list of resolution r has the coefficient of a place of sub-band i.
abbrev pub ShowsCoefficient : Source → (r i : ℕ) → List ℤ → (x y : ℕ) → Type 0
ShowsCoefficient s r i rows x y =
    coefficient_of (source_rows s r i) rows x y ≡ source_coefficient s (band_number r i) x y

-- What was shown is shown.
abbrev pub KeepsCoefficients : Source → (r : ℕ) → (old new : List ℤ) → Type 0
KeepsCoefficients s r old new = (i x y : ℕ) → i < length (orientations r) → IsWithin (source_part s r i) x y
    → ShowsCoefficient s r i old x y → ShowsCoefficient s r i new x y

-- What the part has of code-block j of precinct n in sub-band i of resolution r is shown, and of so
-- many.
abbrev pub ShowsBlock : Source → (r n i j : ℕ) → List ℤ → Type 0
ShowsBlock s r n i j rows = (x y : ℕ) → IsWithin (block_at_place s.region.rect s.coding r n i j) x y
    → IsWithin (source_part s r i) x y → ShowsCoefficient s r i rows x y

abbrev pub ShowsBlocks : Source → (r n i count : ℕ) → List ℤ → Type 0
ShowsBlocks s r n i count rows = (j : ℕ) → j < count → ShowsBlock s r n i j rows

-- the code-blocks of a sub-band in a precinct
abbrev pub block_count : Source → (r n i : ℕ) → ℕ
block_count s r n i = block_number (grid_at s.region.rect s.coding r n i)

-- all code-blocks of a precinct are shown
abbrev pub ShowsPrecinct : Source → (r n : ℕ) → List ℤ → Type 0
ShowsPrecinct s r n rows =
    (i : ℕ) → i < length (orientations r) → ShowsBlocks s r n i (block_count s r n i) rows

-- Samples can be made of the list of resolution r, and each of its coefficients is either shown or
-- zero.
pub record IsFilling (s : Source) (r : ℕ) (rows : List ℤ) : Type 0 where
  pub level : IsLevel s.region r rows
  pub due : (i x y : ℕ) → i < length (orientations r) → IsWithin (source_part s r i) x y
      → ShowsCoefficient s r i rows x y ⊎ (coefficient_of (source_rows s r i) rows x y ≡ pos 0)

-- What was shown in the list of resolution r is shown, and the resolution below stays.
pub record Fills (s : Source) (r : ℕ) (old new : List ℤ) : Type 0 where
  pub filling : IsFilling s r new
  pub keeps : KeepsCoefficients s r old new
  pub low : ShowsLow s.region r (coefficient_of (low_rows s.region r) old) new

-- what is looked at of resolution r, row by row
abbrev pub resolution_values : Source → ℕ → List ℤ
resolution_values s r =
    raster (held s.region (s.region.top - r)) (resolution_of s.region.rect s.region.levels (source_coefficient s) r)

-- the same after its code-blocks
unfoldable pub resolution_at : Source → ℕ → Result (List ℤ) Fault
resolution_at s r =
    resolution_part_tested s.region s.coding r (source_bodies s r) >>= λ _. Ok (resolution_values s r)

-- a part of a sub-band of the component
pub record IsBandPart (s : Source) (p : BandPart) : Type 0 where
  pub resolution : p.resolution ≤ s.region.top
  pub precinct : p.precinct < precinct_number s.region.rect s.coding p.resolution
  pub band : p.band < length (orientations p.resolution)

-- the values of the part, row by row
unfoldable pub source_values : Source → Result (List ℤ) Fault
source_values s =
    each (s.region.top + 1) (λ r. resolution_part_tested s.region s.coding r (source_bodies s r))
    >>= λ _. Ok (raster s.region.area
    (resolution_of s.region.rect s.region.levels (source_coefficient s) s.region.top))
