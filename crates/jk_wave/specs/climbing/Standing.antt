-- A level between two steps.
use Rattle.std.specs.Prelude.{◌≡◌, ℕ, zero, suc, ◌+◌, ◌-◌, ◌*◌, ◌%◌, ◌^◌, ◌<◌, ◌≤◌, length, List, ℤ}
use Rattle.std.specs.List.{All}
use Rattle.jk_math.specs.declared.rect.Rect.{Rect}
use Rattle.jk_math.specs.Raster.{raster}
use Rattle.jk_math.specs.Signed.{IsBelow, signed_at}
use Rattle.jk_geom.specs.Rectangles.{IsArea, IsWithin}
use Rattle.jk_wave.specs.Levels.{half_bound, half_area}
use Rattle.jk_wave.specs.Resolutions.{woven_plane}
use Rattle.jk_wave.specs.declared.climbing.parts.GivenRows.{GivenRows}
use Rattle.jk_wave.specs.declared.climbing.level.HighRows.{HighRows}
use Rattle.jk_wave.specs.declared.climbing.level.ClimbingLevel.{ClimbingLevel}
use Rattle.jk_wave.specs.climbing.Held.{rows_between, HasRoom, IsClimb}
use Rattle.jk_wave.specs.climbing.PartRows.{half_width, across, ArePartRows, ShowPartRows}

-- sub-band o: HL is 1, LH 2 and HH 3
abbrev pub rows_of_band : HighRows → (o : ℕ) → GivenRows
rows_of_band h zero = h.hl
rows_of_band h (suc zero) = h.hl
rows_of_band h (suc (suc zero)) = h.lh
rows_of_band h (suc (suc (suc o))) = h.hh

-- the rows of the sub-bands that make rows v up to t
pub record AreHigh (a : Rect) (v t : ℕ) (h : HighRows) : Type 0 where
  pub rows : (o : ℕ) → 0 < o → o < 4 → ArePartRows a v t o (rows_of_band h o)
  pub small : (o : ℕ) → 0 < o → o < 4 → All (IsBelow (2 ^ 23)) (rows_of_band h o).values.now

-- and these coefficients
abbrev pub ShowHigh : Rect → (v t : ℕ) → (bands : ℕ → ℕ → ℕ → ℤ) → HighRows → Type 0
ShowHigh a v t bands h = (o : ℕ) → 0 < o → o < 4 → ShowPartRows a v t o (bands o) (rows_of_band h o)

-- rows of the resolution below that make rows v up to t
abbrev pub ShowLow : Rect → (v t : ℕ) → (low : ℕ → ℕ → ℤ) → List ℤ → Type 0
ShowLow a v t low values = (u n : ℕ) → IsWithin (half_area a 0) u n → half_bound v 0 ≤ n → n < half_bound t 0
    → signed_at values ((n - half_bound v 0) * half_width a 0 + (u - half_bound a.x0 0)) ≡ low u n

-- a level is in order
pub record IsStanding (s : ClimbingLevel) : Type 0 where
  pub area : IsArea s.area
  pub upper : s.area.y0 ≤ s.v
  pub lower : s.v ≤ s.area.y1
  pub pairs : s.area.y0 < s.v → s.v < s.area.y1 → s.v % 2 ≡ 0
  pub ready : s.v < s.area.y1 → HasRoom s.area s.climb s.next
  pub small : All (IsBelow (2 ^ 29 - 2 ^ 26)) s.low.items

-- A step may take rows up to t, an even place or the end, with further rows below: with those that
-- wait they are enough.
pub record MayTake (s : ClimbingLevel) (fresh : List ℤ) (t : ℕ) : Type 0 where
  pub small : All (IsBelow (2 ^ 29 - 2 ^ 26)) fresh
  pub order : s.v ≤ t
  pub inside : t ≤ s.area.y1
  pub pairs : s.area.y0 < t → t < s.area.y1 → t % 2 ≡ 0
  pub enough : (half_bound t 0 - half_bound s.v 0) * half_width s.area 0 ≤ length s.low.items + length fresh

-- it is made of these planes, and the rows of the one below wait up to row e
pub record HoldsPlanes (low : ℕ → ℕ → ℤ) (bands : ℕ → ℕ → ℕ → ℤ) (e : ℕ) (s : ClimbingLevel) : Type 0 where
  pub climbs : s.v < s.area.y1 → IsClimb s.area (across s.area (woven_plane low bands)) s.v s.climb
  pub waits : s.low.items ≡ raster (rows_between (half_area s.area 0) (half_bound s.v 0) e) low
