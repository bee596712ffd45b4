-- Levels one under another, the highest first, which are given rows of samples.
use Rattle.std.specs.Prelude.{◌≡◌, ℕ, ◌+◌, ◌-◌, ◌*◌, ◌^◌, ◌<◌, ◌≤◌, ◌++◌, List, [], length, slice_index_or, ℤ}
use Rattle.jk_math.specs.declared.rect.Rect.{Rect}
use Rattle.jk_math.specs.Raster.{columns_of, raster}
use Rattle.jk_geom.specs.Rectangles.{IsArea, resolution_area}
use Rattle.jk_wave.specs.Bands.{numbered_area}
use Rattle.jk_wave.specs.Levels.{part_of, part_list}
use Rattle.jk_wave.specs.Analysis.{reduced, analysed}
use Rattle.jk_wave.specs.SourceRows.{AreBelow}
use Rattle.jk_wave.specs.climbing.Held.{rows_between}
use Rattle.jk_wave.specs.declared.falling.level.FallingLevel.{FallingLevel}
use Rattle.jk_wave.specs.declared.falling.stack.Falling.{Falling}
use Rattle.jk_wave.specs.falling.Intervals.{rows_fallen, rows_given}
use Rattle.jk_wave.specs.falling.Held.{half_rows, IsReady, IsFall}

-- a level is in order, and the rows that it made of the resolution below were taken
pub record IsFalling (s : FallingLevel) : Type 0 where
  pub area : IsArea s.area
  pub upper : s.area.y0 ≤ s.y
  pub lower : s.y ≤ s.area.y1
  pub ready : s.y < s.area.y1 → IsReady s.area s.y s.fall
  pub row : length s.row.items ≡ columns_of s.area
  pub none : s.parts.ll.items ≡ []

-- the rows held are those of f
abbrev pub HoldsSamples : (f : ℕ → ℕ → ℤ) → FallingLevel → Type 0
HoldsSamples f s = s.y < s.area.y1 → IsFall s.area f s.y s.fall

-- the rows of part o that come of the rows of f from row y up to t
abbrev pub part_fallen : Rect → (y t : ℕ) → (f : ℕ → ℕ → ℤ) → (o : ℕ) → List ℤ
part_fallen a y t f o = raster (half_rows a (rows_fallen a y) (rows_fallen a t) o) (part_of a f o)

-- how far the coefficients of the resolution n below the highest are made, where that one is given
-- up to row e
abbrev pub fallen_of : Rect → (levels e n : ℕ) → ℕ
fallen_of rect levels e n = rows_fallen (resolution_area rect levels (levels - n)) (rows_given rect levels e n)

-- The rows of the resolution n below the highest that come of rows d up to e of that one, and those
-- of its sub-bands: HL is 1, LH 2 and HH 3.
abbrev pub reduced_rows : Rect → (levels d e : ℕ) → (ℕ → ℕ → ℤ) → (n : ℕ) → List ℤ
reduced_rows rect levels d e f n =
    raster (rows_between (resolution_area rect levels (levels - n)) (rows_given rect levels d n) (rows_given rect levels e n)) (reduced rect levels f n)

abbrev pub fallen_rows : Rect → (levels d e : ℕ) → (ℕ → ℕ → ℤ) → (n o : ℕ) → List ℤ
fallen_rows rect levels d e f n o =
    raster (half_rows (resolution_area rect levels (levels - n)) (fallen_of rect levels d n) (fallen_of rect levels e n) o)
    (analysed rect levels f (3 * (levels - (n + 1)) + o))

-- Level n stands where the highest is given the rows of f up to row e.
pub record IsFallenTo (rect : Rect) (levels e : ℕ) (f : ℕ → ℕ → ℤ) (n : ℕ) (s : FallingLevel) : Type 0 where
  pub standing : IsFalling s
  pub is : s.area ≡ resolution_area rect levels (levels - n)
  pub place : s.y ≡ rows_given rect levels e n
  pub holds : HoldsSamples (reduced rect levels f n) s

-- all levels
pub record AreFallenTo (rect : Rect) (levels e : ℕ) (f : ℕ → ℕ → ℤ) (all : List FallingLevel) : Type 0 where
  pub count : length all ≡ levels
  pub each : (n : ℕ) (other : FallingLevel) → n < levels → IsFallenTo rect levels e f n (slice_index_or all n other)

-- behind the rows of all sub-bands stand those that come of rows d up to e
abbrev pub GivesBands : Rect → (levels d e : ℕ) → (ℕ → ℕ → ℤ) → (old new : List FallingLevel) → Type 0
GivesBands rect levels d e f old new = (n o : ℕ) (other : FallingLevel) → n < levels → 0 < o → o < 4 →
    part_list (slice_index_or new n other).parts o ≡ part_list (slice_index_or old n other).parts o ++ fallen_rows rect levels d e f n o

-- The levels stand where the rows of f above row y were given.
pub record IsGiven (f : ℕ → ℕ → ℤ) (s : Falling) : Type 0 where
  pub area : IsArea s.rect
  pub few : s.levels ≤ 10
  pub upper : s.rect.y0 ≤ s.y
  pub lower : s.y ≤ s.rect.y1
  pub at : AreFallenTo s.rect s.levels s.y f s.all.items

-- They were given rows of samples below 2^17.
abbrev pub IsGivenSmall : Falling → Type 0
IsGivenSmall s = (f : ℕ → ℕ → ℤ) × AreBelow (2 ^ 17) s.rect f × IsGiven f s

-- They keep all rows of the sub-bands that come of them.
pub record KeepsAll (f : ℕ → ℕ → ℤ) (s : Falling) : Type 0 where
  pub high : (n o : ℕ) (other : FallingLevel) → n < s.levels → 0 < o → o < 4 →
      part_list (slice_index_or s.all.items n other).parts o ≡ fallen_rows s.rect s.levels s.rect.y0 s.y f n o
  pub low : s.low.items ≡ reduced_rows s.rect s.levels s.rect.y0 s.y f s.levels

-- They have all rows of the sub-bands.
abbrev pub HaveBands : Rect → (levels : ℕ) → (f : ℕ → ℕ → ℤ) → List FallingLevel → Type 0
HaveBands rect levels f all = (n o : ℕ) (other : FallingLevel) → n < levels → 0 < o → o < 4 →
    (let b = 3 * (levels - (n + 1)) + o in part_list (slice_index_or all n other).parts o ≡ raster (numbered_area rect levels b) (analysed rect levels f b))
