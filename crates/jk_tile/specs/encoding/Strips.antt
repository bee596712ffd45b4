-- A sub-band whose rows come one after another, and whose code-blocks are coded a row of them at a
-- time (T.800 B.7, Annex D).
use Rattle.std.specs.Prelude.{◌≡◌, ℕ, ◌+◌, ◌-◌, ◌*◌, ◌/◌, ◌^◌, ◌<◌, ◌≤◌, nat_le, min, max, if◌then◌else◌}
use Rattle.std.specs.Prelude.{List, [], ◌∷◌, length, map, slice_index_or, All, ℤ, unsigned_abs}
use Rattle.std.specs.List.{range_with_len}
use Rattle.jk_math.specs.declared.rect.Rect.{Rect}
use Rattle.jk_math.specs.BitLength.{bit_length}
use Rattle.jk_math.specs.Lists.{lists_of}
use Rattle.jk_math.specs.Raster.{places_of, plane_at, raster}
use Rattle.jk_marks.specs.declared.coding.Coding.{Coding}
use Rattle.jk_marks.specs.Coding.{IsCoding, precinct_size}
use Rattle.jk_geom.specs.declared.grid.BlockGrid.{BlockGrid}
use Rattle.jk_geom.specs.Blocks.{IsGrid}
use Rattle.jk_geom.specs.Partitions.{block_number}
use Rattle.jk_geom.specs.Rectangles.{IsArea, resolution_area, band_area}
use Rattle.jk_geom.specs.Precincts.{precinct_number, precincts_across, part_height}
use Rattle.jk_block.specs.BlockWritten.{greatest}
use Rattle.jk_wave.specs.climbing.Held.{rows_between}
use Rattle.jk_walk.specs.TilePackets.{orientations, band_number}
use Rattle.jk_tile.specs.TileBlocks.{orientation_at, grid_at}
use Rattle.jk_tile.specs.decoding.Strips.{block_exponent}
use Rattle.jk_tile.specs.encoding.TileWritten.{coded_at}
use Rattle.jk_tile.specs.encoding.Layered.{Layered, layered}
use Rattle.jk_tile.specs.declared.encoding.row_coding.Strip.{Strip}
use Rattle.jk_tile.specs.declared.encoding.row_coding.RowPart.{RowPart}
use Rattle.jk_tile.specs.declared.encoding.strips.WaitingRow.{WaitingRow}
use Rattle.jk_tile.specs.declared.encoding.strips.BandStrips.{BandStrips}

-- A component of a tile that is written: the tile's rectangle, how the component is coded, and the
-- number of layers. The exponents of the coding tell nothing here.
pub record ComponentFrame : Type 0 where
  pub rect : Rect
  pub coding : Coding
  pub layers : ℕ

-- what holds of it
pub record IsFrame (s : ComponentFrame) : Type 0 where
  pub area : IsArea s.rect
  pub coding : IsCoding s.coding
  pub few_levels : s.coding.levels ≤ 5
  pub precincts : (r : ℕ) → r ≤ s.coding.levels → precinct_number s.rect s.coding r ≤ 2 ^ 24

-- how many sub-bands there are
abbrev pub bands_in : ComponentFrame → ℕ
bands_in s = 3 * s.coding.levels + 1

-- sub-band i of resolution r
abbrev pub band_at : ComponentFrame → (r i : ℕ) → Rect
band_at s r i = band_area s.rect s.coding.levels r (orientation_at r i)

-- ---- rows of code-blocks

-- Row y is the first that a sub-band has in a row of code-blocks, which are 2^e high, or stands
-- behind its last row.
abbrev pub IsRowStart : Rect → (e y : ℕ) → Type 0
IsRowStart b e y = y < b.y1 → y ≡ max b.y0 (y / 2 ^ e * 2 ^ e)

-- where the row of code-blocks in which row y stands ends
abbrev pub row_end : Rect → (e y : ℕ) → ℕ
row_end b e y = min b.y1 ((y / 2 ^ e + 1) * 2 ^ e)

-- A row of code-blocks of sub-band i of resolution r, as wide as that is: its rectangle and the
-- coefficients there.
pub record IsRowOf (s : ComponentFrame) (r i : ℕ) (a : Rect) (values : List ℤ) : Type 0 where
  pub resolution : r ≤ s.coding.levels
  pub band : i < length (orientations r)
  pub left : a.x0 ≡ (band_at s r i).x0
  pub right : a.x1 ≡ (band_at s r i).x1
  pub upper : (band_at s r i).y0 ≤ a.y0
  pub inside : a.y0 < (band_at s r i).y1
  pub start : IsRowStart (band_at s r i) (block_exponent s.coding r) a.y0
  pub end : a.y1 ≡ row_end (band_at s r i) (block_exponent s.coding r) a.y0
  pub area_is : IsArea a
  pub long : length values ≡ places_of a
  pub small : All (λ v. unsigned_abs v < 2 ^ 23) values

abbrev pub IsWholeRow : ComponentFrame → Strip → Type 0
IsWholeRow s w = IsRowOf s w.resolution w.band w.area w.values.now

-- its coefficients by their places
abbrev pub row_values : Strip → (band x y : ℕ) → ℤ
row_values w = λ _. plane_at w.area w.values.now

-- the first of the precincts of resolution r that have row y of a sub-band
unfoldable pub first_precinct_at : ComponentFrame → (r y : ℕ) → ℕ
first_precinct_at s r y =
    (y / 2 ^ part_height s.coding r - (resolution_area s.rect s.coding.levels r).y0 / 2 ^ (precinct_size s.coding r).1)
    * precincts_across s.rect s.coding r

-- How many code-blocks of a grid lie in the rows of them that end above row y, which is the first of
-- a row of code-blocks or stands behind the last.
abbrev pub blocks_above : BlockGrid → ℕ → ℕ
blocks_above g y = (if nat_le g.area.y1 y then g.down else y / 2 ^ g.height - g.row) * g.across

-- Code-block j of precinct n is one of a row of code-blocks.
pub record IsOfPart (s : ComponentFrame) (w : Strip) (n j : ℕ) : Type 0 where
  pub block : j < block_number (grid_at s.rect s.coding w.resolution n w.band)
  pub row : (grid_at s.rect s.coding w.resolution n w.band).row + j / (grid_at s.rect s.coding w.resolution n w.band).across
      ≡ w.area.y0 / 2 ^ block_exponent s.coding w.resolution

-- ---- what is coded

-- code-block j of sub-band i in precinct n of resolution r, where f gives the coefficients by
-- sub-band, column and row
abbrev pub layered_at : ComponentFrame → (ℕ → ℕ → ℕ → ℤ) → (r n i j : ℕ) → Layered
layered_at s f r n i j = layered s.layers (coded_at s.rect s.coding f r n i j)

-- those of a precinct from row p up to row q
abbrev pub layered_between : ComponentFrame → (ℕ → ℕ → ℕ → ℤ) → (r n i p q : ℕ) → List Layered
layered_between s f r n i p q = let g = grid_at s.rect s.coding r n i in
    map (layered_at s f r n i) (range_with_len (blocks_above g p) (blocks_above g q - blocks_above g p))

-- The code-blocks that a precinct has of a row of them.
pub record IsRowPart (s : ComponentFrame) (w : Strip) (p : RowPart) : Type 0 where
  pub grid : p.grid ≡ grid_at s.rect s.coding w.resolution p.precinct w.band
  pub sound : IsGrid p.grid
  pub few : p.first + p.grid.across < 2 ^ 32
  pub each : (k : ℕ) → k < p.grid.across → IsOfPart s w p.precinct (p.first + k)
  pub all : map (layered_at s (row_values w) w.resolution p.precinct w.band) (range_with_len p.first p.grid.across)
      ≡ layered_between s (row_values w) w.resolution p.precinct w.band w.area.y0 w.area.y1

-- Of sub-band i of resolution r the code-blocks above row y are coded, precinct by precinct.
abbrev pub AreCodedAbove : ComponentFrame → (ℕ → ℕ → ℕ → ℤ) → (r i y : ℕ) → List (List Layered) → Type 0
AreCodedAbove s f r i y blocks = (n : ℕ) → n < precinct_number s.rect s.coding r → slice_index_or blocks n []
    ≡ map (layered_at s f r n i) (range_with_len 0 (blocks_above (grid_at s.rect s.coding r n i) y))

-- no code-block has more bit-planes than these
abbrev pub HavePlanes : (planes : ℕ) → List (List Layered) → Type 0
HavePlanes planes blocks = (n : ℕ) → All (λ b. b.planes ≤ planes) (slice_index_or blocks n [])

-- ---- rows of code-blocks that wait

-- one of a sub-band, whose magnitudes have so many bits
pub record IsWaitingRow (s : ComponentFrame) (r i bits : ℕ) (w : WaitingRow) : Type 0 where
  pub row : IsRowOf s r i w.area w.values.items
  pub below : All (λ v. unsigned_abs v < 2 ^ bits) w.values.items

-- all of them from row p up to row q
abbrev pub AreWaiting : ComponentFrame → (r i bits p q : ℕ) → List WaitingRow → Type 0
AreWaiting s r i bits p q [] = p ≡ q
AreWaiting s r i bits p q (w ∷ ws) = (w.area.y0 ≡ p) × IsWaitingRow s r i bits w × AreWaiting s r i bits w.area.y1 q ws

-- their coefficients are those of g
abbrev pub HaveValues : (ℕ → ℕ → ℤ) → List WaitingRow → Type 0
HaveValues g ws = All (λ w. w.values.items ≡ raster w.area g) ws

-- ---- a sub-band between its rows

-- the sub-band
abbrev pub own_band : ComponentFrame → BandStrips → Rect
own_band s b = band_at s b.resolution b.band

-- Whole rows of code-blocks wait behind those that are coded, and behind them rows of one row of
-- code-blocks, from its first one on.
pub record HoldsRows (s : ComponentFrame) (b : BandStrips) : Type 0 where
  pub resolution : b.resolution ≤ s.coding.levels
  pub band : b.band < length (orientations b.resolution)
  pub bounds : IsArea (own_band s b)
  pub left : b.area.x0 ≡ (own_band s b).x0
  pub right : b.area.x1 ≡ (own_band s b).x1
  pub upper : (own_band s b).y0 ≤ b.area.y0
  pub order : b.area.y0 ≤ b.area.y1
  pub lower : b.area.y1 ≤ (own_band s b).y1
  pub start : IsRowStart (own_band s b) (block_exponent s.coding b.resolution) b.area.y0
  pub within : b.area.y0 < b.area.y1
      → b.area.y1 ≤ row_end (own_band s b) (block_exponent s.coding b.resolution) b.area.y0
  pub long : length b.strip.items ≡ places_of b.area
  pub few : b.bits ≤ 23
  pub below : All (λ v. unsigned_abs v < 2 ^ b.bits) b.strip.items
  pub count : length b.blocks.items ≡ precinct_number s.rect s.coding b.resolution
  pub planes : HavePlanes b.bits (lists_of b.blocks.items)
  pub waiting : AreWaiting s b.resolution b.band b.bits b.top b.area.y0 b.waiting.items

-- and one of it is missing
abbrev pub IsOpen : ComponentFrame → BandStrips → Type 0
IsOpen s b = b.area.y0 < b.area.y1
    → b.area.y1 < row_end (own_band s b) (block_exponent s.coding b.resolution) b.area.y0

abbrev pub IsBetweenRows : ComponentFrame → BandStrips → Type 0
IsBetweenRows s b = HoldsRows s b × IsOpen s b

-- The rows above the next one are those of f: the code-blocks of whole rows of them are coded or
-- wait, the other rows wait, and how many bits the greatest magnitude has is known.
pub record HasRowsOf (s : ComponentFrame) (f : ℕ → ℕ → ℕ → ℤ) (b : BandStrips) : Type 0 where
  pub blocks : AreCodedAbove s f b.resolution b.band b.top (lists_of b.blocks.items)
  pub waiting : HaveValues (f (band_number b.resolution b.band)) b.waiting.items
  pub strip : b.strip.items ≡ raster b.area (f (band_number b.resolution b.band))
  pub bits : b.bits ≡ bit_length (greatest
      (raster (rows_between (own_band s b) (own_band s b).y0 b.area.y1) (f (band_number b.resolution b.band))))
