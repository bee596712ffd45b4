-- A sub-band in strips, each of which has the coefficients of a row of its code-blocks.
use Rattle.std.specs.Prelude.{◌≡◌, ℕ, ◌+◌, ◌-◌, ◌*◌, ◌/◌, ◌^◌, ◌<◌, ◌≤◌, min, max, List, length, ℤ, Ok, Err}
use Rattle.jk_math.specs.declared.fault.Fault.{Fault}
use Rattle.jk_math.specs.declared.rect.Rect.{Rect}
use Rattle.jk_math.specs.Raster.{raster, plane_at}
use Rattle.jk_marks.specs.declared.coding.Coding.{Coding}
use Rattle.jk_marks.specs.Coding.{precinct_size}
use Rattle.jk_geom.specs.Rectangles.{IsWithin, resolution_area, band_area}
use Rattle.jk_geom.specs.Precincts.{precinct_number, precincts_across, part_height}
use Rattle.jk_walk.specs.TilePackets.{orientations, band_number}
use Rattle.jk_tile.specs.declared.decoding.strips.BlockRow.{BlockRow}
use Rattle.jk_tile.specs.TileBlocks.{orientation_at, grid_at, block_at_place}
use Rattle.jk_tile.specs.decoding.TileReading.{tested, block_values}
use Rattle.jk_tile.specs.decoding.Source.{Source, source_bodies, source_coefficient, block_count}

-- the exponent of the height of the code-blocks of resolution r (B.7, equation B-18)
unfoldable pub block_exponent : Coding → ℕ → ℕ
block_exponent k r = min k.ycb (part_height k r)

-- the sub-band of a row of code-blocks
abbrev pub row_band : Source → BlockRow → Rect
row_band s w = band_area s.region.rect s.coding.levels w.resolution (orientation_at w.resolution w.band)

-- the row in which a code-block stands, counted from row 0 of the sub-band on
abbrev pub row_of_block : Source → (r n i j : ℕ) → ℕ
row_of_block s r n i j = let g = grid_at s.region.rect s.coding r n i in g.row + j / g.across

-- a row of code-blocks of a resolution that is asked for, which may lie outside the sub-band
pub record IsBlockRow (s : Source) (w : BlockRow) : Type 0 where
  pub resolution : w.resolution ≤ s.region.top
  pub band : w.band < length (orientations w.resolution)
  pub small : w.row * 2 ^ block_exponent s.coding w.resolution < 2 ^ 31

-- the rectangle of its strip: without a row, where it lies outside
unfoldable pub strip_area : Source → BlockRow → Rect
strip_area s w = let b = row_band s w in let e = block_exponent s.coding w.resolution in
    let first = max b.y0 (w.row * 2 ^ e) in record {
      x0 = b.x0;
      y0 = first;
      x1 = b.x1;
      y1 = max first (min b.y1 ((w.row + 1) * 2 ^ e));
    }

-- the first of the precincts that have code-blocks of the row
unfoldable pub first_precinct_of : Source → BlockRow → ℕ
first_precinct_of s w = let r = w.resolution in
    (w.row / 2 ^ (part_height s.coding r - block_exponent s.coding r)
    - (resolution_area s.region.rect s.coding.levels r).y0 / 2 ^ (precinct_size s.coding r).1)
    * precincts_across s.region.rect s.coding r

-- A list over a rectangle has the coefficient of a place of sub-band i of resolution r.
abbrev pub ShowsPlace : Source → (r i : ℕ) → Rect → List ℤ → (x y : ℕ) → Type 0
ShowsPlace s r i a strip x y = plane_at a strip x y ≡ source_coefficient s (band_number r i) x y

-- What was shown is shown.
abbrev pub KeepsPlaces : Source → (r i : ℕ) → Rect → (old new : List ℤ) → Type 0
KeepsPlaces s r i a old new = (x y : ℕ) → IsWithin a x y → ShowsPlace s r i a old x y → ShowsPlace s r i a new x y

-- the place of code-block j of precinct n is shown
abbrev pub ShowsBlockIn : Source → (r n i j : ℕ) → Rect → List ℤ → Type 0
ShowsBlockIn s r n i j a strip = (x y : ℕ) → IsWithin (block_at_place s.region.rect s.coding r n i j) x y → ShowsPlace s r i a strip x y

-- those of the code-blocks that precinct n has of the row
abbrev pub ShowsPartIn : Source → BlockRow → Rect → (n : ℕ) → List ℤ → Type 0
ShowsPartIn s w a n strip = (j : ℕ) → j < block_count s w.resolution n w.band
    → row_of_block s w.resolution n w.band j ≡ w.row → ShowsBlockIn s w.resolution n w.band j a strip

-- the strip of the row, row by row
abbrev pub IsStrip : Source → BlockRow → List ℤ → Type 0
IsStrip s w strip = strip ≡ raster (strip_area s w) (source_coefficient s (band_number w.resolution w.band))

-- A code-block has no fault: those that precinct n has of the row, and all of the row.
abbrev pub IsFine : Source → (r n i j : ℕ) → Type 0
IsFine s r n i j = tested (block_values s.region.rect s.coding r n i j (source_bodies s r n)) ≡ Ok tt

abbrev pub IsPartFine : Source → BlockRow → (n : ℕ) → Type 0
IsPartFine s w n = (j : ℕ) → j < block_count s w.resolution n w.band → row_of_block s w.resolution n w.band j ≡ w.row
    → IsFine s w.resolution n w.band j

abbrev pub IsRowFine : Source → BlockRow → Type 0
IsRowFine s w = (n : ℕ) → n < precinct_number s.region.rect s.coding w.resolution → IsPartFine s w n

-- A code-block that is asked for has this fault.
pub record HasFault (s : Source) (e : Fault) : Type 0 where
  pub resolution : ℕ
  pub precinct : ℕ
  pub band : ℕ
  pub block : ℕ
  pub asked : resolution ≤ s.region.top
  pub is_precinct : precinct < precinct_number s.region.rect s.coding resolution
  pub is_band : band < length (orientations resolution)
  pub is_block : block < block_count s resolution precinct band
  pub refuses : tested (block_values s.region.rect s.coding resolution precinct band block (source_bodies s resolution precinct)) ≡ Err e
