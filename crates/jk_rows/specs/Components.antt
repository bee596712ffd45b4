-- A component of a tile between two steps: its resolutions climb one over another, and of each
-- sub-band the code-blocks of one row of them are decoded.
use Rattle.std.specs.Prelude.{◌≡◌, ◌≢◌, ℕ, zero, suc, ◌+◌, ◌*◌, ◌/◌, ◌%◌, ◌^◌, ◌<◌, ◌≤◌, List, length, slice_index_or, ℤ}
use Rattle.jk_math.specs.declared.rect.Rect.{Rect}
use Rattle.jk_math.specs.Raster.{raster}
use Rattle.jk_marks.specs.declared.coding.Coding.{Coding}
use Rattle.jk_geom.specs.Rectangles.{resolution_area}
use Rattle.jk_geom.specs.Precincts.{precinct_number}
use Rattle.jk_walk.specs.TilePackets.{orientations}
use Rattle.jk_wave.specs.Resolutions.{resolution_of}
use Rattle.jk_wave.specs.climbing.Held.{rows_between}
use Rattle.jk_wave.specs.climbing.Intervals.{rows_asked}
use Rattle.jk_wave.specs.climbing.Stack.{taken_of, made_of}
use Rattle.jk_wave.specs.climbing.Standing.{IsStanding, HoldsPlanes}
use Rattle.jk_tile.specs.decoding.Gathered.{AreByPrecinct}
use Rattle.jk_tile.specs.decoding.Source.{Source, source_coefficient, block_count}
use Rattle.jk_tile.specs.decoding.Strips.{block_exponent, row_of_block, IsFine, IsStrip}
use Rattle.jk_tile.specs.declared.decoding.chains.PacketChains.{PacketChains}
use Rattle.jk_rows.specs.declared.level.RowLevel.{RowLevel}
use Rattle.jk_rows.specs.declared.lowest.LowestRows.{LowestRows}
use Rattle.jk_rows.specs.declared.component.ComponentRows.{ComponentRows}

-- the rectangle of resolution r
abbrev pub area_at : Source → (r : ℕ) → Rect
area_at s r = resolution_area s.region.rect s.region.levels r

-- how far the rows of resolution r are taken where the highest is made up to row e: the rows of its
-- coefficients, and those of the lowest
unfoldable pub taken_rows : Source → (r e : ℕ) → ℕ
taken_rows s zero e = rows_asked s.region.rect s.region.levels s.region.top e s.region.top
taken_rows s (suc q) e = taken_of s.region.rect s.region.levels s.region.top e q

-- and how far it is made
unfoldable pub made_rows : Source → (r e : ℕ) → ℕ
made_rows s zero e = rows_asked s.region.rect s.region.levels s.region.top e s.region.top
made_rows s (suc q) e = made_of s.region.rect s.region.levels s.region.top e (suc q)

-- the rows of resolution r that a step from row d to row e of the highest makes
abbrev pub step_rows : Source → (d e r : ℕ) → List ℤ
step_rows s d e r = raster (rows_between (area_at s r) (made_rows s r d) (made_rows s r e))
    (resolution_of s.region.rect s.region.levels (source_coefficient s) r)

-- The rows of resolution r whose coefficients stand in one row of code-blocks are as many as 2 to
-- this.
abbrev pub cell_exponent : Coding → (r : ℕ) → ℕ
cell_exponent k zero = block_exponent k 0
cell_exponent k (suc q) = block_exponent k (suc q) + 1

-- The code-blocks of the rows of them that begin above row v of resolution r have no fault, where
-- the resolution has a row above v.
abbrev pub IsFineAbove : Source → (r v : ℕ) → Type 0
IsFineAbove s r v = (area_at s r).y0 < v → (n i j : ℕ) → n < precinct_number s.region.rect s.coding r
    → i < length (orientations r) → j < block_count s r n i
    → row_of_block s r n i j * 2 ^ cell_exponent s.coding r < v → IsFine s r n i j

-- Strips of the sub-bands of resolution r have the row of code-blocks in which row v stands, where
-- v isn't the first that the resolution has of these.
abbrev pub HasStrips : Source → (r v : ℕ) → (strip : ℕ → List ℤ) → Type 0
HasStrips s r v strip = (area_at s r).y0 < v → v < (area_at s r).y1 → v % 2 ^ cell_exponent s.coding r ≢ 0 → (i : ℕ)
    → i < length (orientations r)
    → IsStrip s (record { resolution = r; band = i; row = v / 2 ^ cell_exponent s.coding r }) (strip i)

-- the packets of resolution r are told
abbrev pub AreChains : Source → (r : ℕ) → PacketChains → Type 0
AreChains s r chains = AreByPrecinct s.packets 0 s.component r (precinct_number s.region.rect s.coding r) chains

-- the strip of sub-band i of a level
abbrev pub strip_in : RowLevel → (i : ℕ) → List ℤ
strip_in l zero = l.hl.items
strip_in l (suc zero) = l.lh.items
strip_in l (suc (suc i)) = l.hh.items

-- the strips of a level are of row m of the code-blocks of resolution q + 1
abbrev pub HasRow : Source → (q m : ℕ) → RowLevel → Type 0
HasRow s q m l = (i : ℕ) → i < 3 → IsStrip s (record { resolution = q + 1; band = i; row = m }) (strip_in l i)

-- resolution r before row v of its coefficients: its packets, its strips, and its code-blocks so far
pub record AreBlocksAt (s : Source) (r v : ℕ) (chains : PacketChains) (strip : ℕ → List ℤ) : Type 0 where
  pub chained : AreChains s r chains
  pub strips : HasStrips s r v strip
  pub fine : IsFineAbove s r v

-- The level of resolution q + 1 before row v of its coefficients.
pub record StandsBefore (s : Source) (q v : ℕ) (l : RowLevel) : Type 0 where
  pub standing : IsStanding l.level
  pub is : l.level.area ≡ area_at s (q + 1)
  pub place : l.level.v ≡ v
  pub blocks : AreBlocksAt s (q + 1) v l.chains (strip_in l)

-- It is made of the planes of the source, and rows of resolution q wait up to row m.
abbrev pub WaitsUpto : Source → (q m : ℕ) → RowLevel → Type 0
WaitsUpto s q m l = HoldsPlanes (resolution_of s.region.rect s.region.levels (source_coefficient s) q)
    (λ o. source_coefficient s (3 * q + o)) m l.level

-- the same, and the lowest resolution, where steps up to row e leave them
pub record IsRowLevel (s : Source) (e q : ℕ) (l : RowLevel) : Type 0 where
  pub stands : StandsBefore s q (taken_rows s (q + 1) e) l
  pub waits : WaitsUpto s q (made_rows s q e) l

abbrev pub IsLowest : Source → (e : ℕ) → LowestRows → Type 0
IsLowest s e l = AreBlocksAt s 0 (taken_rows s 0 e) l.chains (λ i. l.strip.items)

-- a component
pub record IsComponentRows (s : Source) (e : ℕ) (c : ComponentRows) : Type 0 where
  pub lowest : IsLowest s e c.lowest
  pub count : length c.levels.items ≡ s.region.top
  pub each : (q : ℕ) (other : RowLevel) → q < s.region.top → IsRowLevel s e q (slice_index_or c.levels.items q other)

-- A step ends at an odd row that isn't the last, or at the end, so that each level makes the rows up
-- to there and no other.
pub record IsStepEnd (a : Rect) (e : ℕ) : Type 0 where
  pub from : a.y0 ≤ e
  pub to : e ≤ a.y1
  pub odd : a.y0 < e → e < a.y1 → e % 2 ≡ 1
  pub inside : a.y0 < e → e < a.y1 → e + 1 < a.y1
