-- Levels one over another, between two steps.
use Rattle.std.specs.Prelude.{◌≡◌, ℕ, zero, suc, ◌+◌, ◌-◌, ◌*◌, ◌^◌, ◌<◌, ◌≤◌, List, length, slice_index_or, ℤ, unsigned_abs}
use Rattle.jk_math.specs.declared.rect.Rect.{Rect}
use Rattle.jk_math.specs.Raster.{raster}
use Rattle.jk_geom.specs.Rectangles.{IsWithin, resolution_area}
use Rattle.jk_wave.specs.Bands.{numbered_area}
use Rattle.jk_wave.specs.Levels.{half_bound}
use Rattle.jk_wave.specs.Resolutions.{resolution_of}
use Rattle.jk_wave.specs.declared.climbing.level.ClimbingLevel.{ClimbingLevel}
use Rattle.jk_wave.specs.climbing.Held.{rows_between}
use Rattle.jk_wave.specs.climbing.Intervals.{rows_taken, rows_reached, rows_asked}
use Rattle.jk_wave.specs.climbing.Standing.{IsStanding, HoldsPlanes}

-- how far the coefficients of resolution q + 1 are taken, where the highest one is made up to row e
abbrev pub taken_of : Rect → (levels top e q : ℕ) → ℕ
taken_of rect levels top e q = rows_taken (resolution_area rect levels (q + 1)) (rows_asked rect levels top e (top - (q + 1)))

-- and how far resolution q is made; of the lowest as much as is taken
unfoldable pub made_of : Rect → (levels top e : ℕ) → (q : ℕ) → ℕ
made_of rect levels top e zero = half_bound (taken_of rect levels top e 0) 0
made_of rect levels top e (suc q) = rows_reached (resolution_area rect levels (q + 1)) (taken_of rect levels top e q)

-- the rows of resolution q that a step from row d to row e of the highest one makes
abbrev pub rows_of_step : Rect → (levels top d e : ℕ) → (bands : ℕ → ℕ → ℕ → ℤ) → (q : ℕ) → List ℤ
rows_of_step rect levels top d e bands q =
    raster (rows_between (resolution_area rect levels q) (made_of rect levels top d q) (made_of rect levels top e q)) (resolution_of rect levels bands q)

-- the coefficients of the sub-bands up to resolution `top` are 2^23 in magnitude at most
abbrev pub AreSmallBands : Rect → (levels top : ℕ) → (bands : ℕ → ℕ → ℕ → ℤ) → Type 0
AreSmallBands rect levels top bands =
    (b x y : ℕ) → b ≤ 3 * top → IsWithin (numbered_area rect levels b) x y → unsigned_abs (bands b x y) ≤ 2 ^ 23

-- The level that makes resolution q + 1 stands where steps up to row e leave it.
pub record IsLevelAt (rect : Rect) (levels top e : ℕ) (bands : ℕ → ℕ → ℕ → ℤ) (q : ℕ) (s : ClimbingLevel) : Type 0 where
  pub standing : IsStanding s
  pub is : s.area ≡ resolution_area rect levels (q + 1)
  pub place : s.v ≡ taken_of rect levels top e q
  pub holds : HoldsPlanes (resolution_of rect levels bands q) (λ o. bands (3 * q + o)) (made_of rect levels top e q) s

-- all levels
pub record AreLevelsAt (rect : Rect) (levels top e : ℕ) (bands : ℕ → ℕ → ℕ → ℤ) (all : List ClimbingLevel) : Type 0 where
  pub count : length all ≡ top
  pub each : (q : ℕ) (other : ClimbingLevel) → q < top → IsLevelAt rect levels top e bands q (slice_index_or all q other)
