-- A region of a resolution, and the parts of the sub-bands that it depends on.
use Rattle.std.specs.Prelude.{◌≡◌, ℕ, zero, suc, ◌+◌, ◌-◌, ◌*◌, ◌/◌, ◌%◌, ◌^◌, ◌<◌, ◌≤◌, List, [], length}
use Rattle.std.specs.Prelude.{slice_index_or, ℤ, All}
use Rattle.jk_math.specs.declared.rect.Rect.{Rect}
use Rattle.jk_math.specs.Raster.{places_of, plane_at, raster}
use Rattle.jk_math.specs.Signed.{IsBelow}
use Rattle.jk_geom.specs.Rectangles.{IsArea, IsWithin, resolution_area}
use Rattle.jk_lift.specs.Pieces.{near_area}
use Rattle.jk_wave.specs.Levels.{half_area}
use Rattle.jk_wave.specs.Resolutions.{resolution_of}
use Rattle.jk_wave.specs.declared.region.Region.{Region}

-- a part of a rectangle, with its ends in order
pub record IsPartOf (part area : Rect) : Type 0 where
  pub left : area.x0 ≤ part.x0
  pub across : part.x0 ≤ part.x1
  pub right : part.x1 ≤ area.x1
  pub upper : area.y0 ≤ part.y0
  pub down : part.y0 ≤ part.y1
  pub lower : part.y1 ≤ area.y1

-- a part of a resolution
pub record IsRegion (s : Region) : Type 0 where
  pub rect : IsArea s.rect
  pub levels : s.levels ≤ 10
  pub top : s.top ≤ s.levels
  pub inside : IsPartOf s.area (resolution_area s.rect s.levels s.top)

-- What is looked at n resolutions below the highest, so that all of the region can be made: of the
-- highest the region itself, and of each lower one the places of its next one's low-pass
-- coefficients that are at most two places away from what is looked at there (2D_SR, T.800 F.3.2).
unfoldable pub held : Region → ℕ → Rect
held s zero = s.area
held s (suc n) = half_area (near_area (resolution_area s.rect s.levels (s.top - n)) (held s n)) 0

-- what is near that in its resolution
abbrev pub around : Region → ℕ → Rect
around s n = near_area (resolution_area s.rect s.levels (s.top - n)) (held s n)

-- The part of sub-band b, in the order of QCD, that the region depends on: of LL what is looked at
-- of resolution 0, and of each other sub-band the places of its coefficients near what is looked at
-- of its resolution.
unfoldable pub part_area : Region → ℕ → Rect
part_area s zero = held s s.top
part_area s (suc b) = half_area (around s (s.top - (b / 3 + 1))) (b % 3 + 1)

-- The lists have the parts of the sub-bands of the resolutions up to the highest, each coefficient
-- below 2^23 in magnitude.
pub record AreBandParts (s : Region) (lists : List (List ℤ)) : Type 0 where
  pub count : 3 * s.top < length lists
  pub lengths : (b : ℕ) → b ≤ 3 * s.top → length (slice_index_or lists b []) ≡ places_of (part_area s b)
  pub small : (b : ℕ) → b ≤ 3 * s.top → All (IsBelow (2 ^ 23)) (slice_index_or lists b [])

-- The lists have these coefficients, by sub-band, column and row, at the places of the parts.
abbrev pub ShowsParts : Region → List (List ℤ) → (ℕ → ℕ → ℕ → ℤ) → Type 0
ShowsParts s lists c = (b x y : ℕ) → b ≤ 3 * s.top → IsWithin (part_area s b) x y
    → plane_at (part_area s b) (slice_index_or lists b []) x y ≡ c b x y

-- The list has the samples of what is looked at of resolution r, whatever the coefficients are
-- elsewhere.
abbrev pub IsHeld : Region → List (List ℤ) → (r : ℕ) → List ℤ → Type 0
IsHeld s lists r plane = (c : ℕ → ℕ → ℕ → ℤ) → ShowsParts s lists c
    → plane ≡ raster (held s (s.top - r)) (resolution_of s.rect s.levels c r)
