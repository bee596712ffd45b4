-- Laws of the transform of a tile-component, for every rectangle and number of levels.
use Rattle.std.specs.Prelude.{◌≡◌, ◌≢◌, ℕ, ℤ, List, length, ◌+◌, ◌-◌, ◌*◌, ◌/◌, ◌%◌, ◌^◌, ◌<◌, ◌≤◌, ◌⊎◌, unsigned_abs}
use Rattle.jk_math.specs.declared.rect.Rect.{Rect}
use Rattle.jk_math.specs.Raster.{columns_of}
use Rattle.jk_math.specs.Signed.{IsBelow, signed_at}
use Rattle.jk_geom.specs.Rectangles.{IsWithin, resolution_area}
use Rattle.jk_lift.specs.Pieces.{near_area}
use Rattle.jk_wave.specs.declared.region.Region.{Region}
use Rattle.jk_wave.specs.Levels.{half_area, unlifted_over}
use Rattle.jk_wave.specs.Resolutions.{woven_plane, resolution_of}
use Rattle.jk_wave.specs.Analysis.{reduced, analysed}
use Rattle.jk_wave.specs.Bands.{numbered_area}
use Rattle.jk_wave.specs.LevelRows.{index_in, coefficient_of, FitsIn}
use Rattle.jk_wave.specs.Regions.{part_area}
use Rattle.jk_wave.specs.RegionRows.{resolution_with, level_places, band_rows, low_rows, ShowsLow, IsLevel}

-- a place is in a rectangle or at most two places away from it
abbrev pub IsNear : Rect → ℕ → ℕ → Type 0
IsNear u x y = (u.x0 ≤ x + 2) × (x < u.x1 + 2) × (u.y0 ≤ y + 2) × (y < u.y1 + 2)

-- Where resolutions are looked at in the rectangles u alone, each two places around which stands in
-- the one below, they are the same for sub-bands that agree there.
abbrev pub IsLocalResolution : Type 0
IsLocalResolution = (a : Rect) (levels : ℕ) (u : ℕ → Rect) (bands other : ℕ → ℕ → ℕ → ℤ) (r : ℕ) → r ≤ levels →
    ((x y : ℕ) → IsWithin (resolution_area a levels 0) x y → IsWithin (u 0) x y → bands 0 x y ≡ other 0 x y) →
    ((q x y : ℕ) → q < r → IsWithin (resolution_area a levels (q + 1)) x y → IsNear (u (q + 1)) x y → x % 2 ≡ 0
    → y % 2 ≡ 0 → IsWithin (u q) (x / 2) (y / 2)) →
    ((q x y : ℕ) → q < r → IsWithin (resolution_area a levels (q + 1)) x y → IsNear (u (q + 1)) x y
    → (x % 2 ≡ 1) ⊎ (y % 2 ≡ 1) →
    (let b = 3 * q + (x % 2 + 2 * (y % 2)) in bands b (x / 2) (y / 2) ≡ other b (x / 2) (y / 2))) →
    (x y : ℕ) → IsWithin (resolution_area a levels r) x y → IsWithin (u r) x y
    → resolution_of a levels bands r x y ≡ resolution_of a levels other r x y

-- Sub-bands that agree at their places give the same resolutions.
abbrev pub IsDecided : Type 0
IsDecided = (a : Rect) (levels : ℕ) (bands other : ℕ → ℕ → ℕ → ℤ) (r : ℕ) → r ≤ levels →
    ((b x y : ℕ) → b ≤ 3 * r → IsWithin (numbered_area a levels b) x y → bands b x y ≡ other b x y) →
    (x y : ℕ) → IsWithin (resolution_area a levels r) x y
    → resolution_of a levels bands r x y ≡ resolution_of a levels other r x y

-- Synthesis of all levels undoes analysis, and of r levels gives what was left above the other
-- levels.
abbrev pub IsUndone : Type 0
IsUndone = (a : Rect) (levels : ℕ) (f : ℕ → ℕ → ℤ) (x y : ℕ) → IsWithin a x y
    → resolution_of a levels (analysed a levels f) levels x y ≡ f x y

abbrev pub IsReduced : Type 0
IsReduced = (a : Rect) (levels : ℕ) (f : ℕ → ℕ → ℤ) (r x y : ℕ) → r ≤ levels → IsWithin (resolution_area a levels r) x y
    →
    resolution_of a levels (analysed a levels f) r x y ≡ reduced a levels f (levels - r) x y

-- Forwards: samples whose magnitude and 2 are at most m, after n levels, and their sub-bands.
abbrev pub IsBounded : Rect → (ℕ → ℕ → ℤ) → ℕ → Type 0
IsBounded a f m = (x y : ℕ) → IsWithin a x y → unsigned_abs (f x y) + 2 ≤ m

abbrev pub GrowsLevels : Type 0
GrowsLevels = (a : Rect) (levels : ℕ) (f : ℕ → ℕ → ℤ) (m : ℕ) → IsBounded a f m →
    ((n x y : ℕ) → n ≤ levels → IsWithin (resolution_area a levels (levels - n)) x y
    → 4 ^ n * (unsigned_abs (reduced a levels f n x y) + 2) ≤ 9 ^ n * m)
    × ((n b x y : ℕ) → n < levels → b < 3 → IsWithin (numbered_area a levels (3 * (levels - (n + 1)) + b + 1)) x y →
    4 ^ n * (unsigned_abs (analysed a levels f (3 * (levels - (n + 1)) + b + 1) x y) + 2) ≤ 4 * (9 ^ n * m))

-- Samples of magnitude up to 65535 and at most five levels: 23 bit-planes suffice. Samples below
-- 2^17 and at most ten levels: each coefficient is below 2^30.
abbrev pub HasEnoughPlanes : Type 0
HasEnoughPlanes = (a : Rect) (levels : ℕ) (f : ℕ → ℕ → ℤ) (b x y : ℕ) → levels ≤ 5 → b ≤ 3 * levels →
    ((u v : ℕ) → IsWithin a u v → unsigned_abs (f u v) ≤ 65535) → IsWithin (numbered_area a levels b) x y
    → unsigned_abs (analysed a levels f b x y) < 2 ^ 23

abbrev pub HasWidth : Type 0
HasWidth = (a : Rect) (levels : ℕ) (f : ℕ → ℕ → ℤ) (b x y : ℕ) → levels ≤ 10 → b ≤ 3 * levels →
    ((u v : ℕ) → IsWithin a u v → unsigned_abs (f u v) < 2 ^ 17) → IsWithin (numbered_area a levels b) x y
    → unsigned_abs (analysed a levels f b x y) < 2 ^ 30

-- Backwards: coefficients of magnitude up to 2^23 and at most ten levels.
abbrev pub BoundsResolutions : Type 0
BoundsResolutions = (a : Rect) (levels : ℕ) (bands : ℕ → ℕ → ℕ → ℤ) (r : ℕ) → levels ≤ 10 → r ≤ levels →
    ((b x y : ℕ) → b ≤ 3 * r → IsWithin (numbered_area a levels b) x y → unsigned_abs (bands b x y) ≤ 2 ^ 23) →
    (x y : ℕ) → IsWithin (resolution_area a levels r) x y → unsigned_abs (resolution_of a levels bands r x y) < 2 ^ 29

-- In each resolution up to `top` a rectangle u is looked at: that of a lower one is the low half of
-- what is near that of the next. p is made level by level of what is near alone. Then p is the
-- resolution there.
abbrev pub IsClimbing : Type 0
IsClimbing = (a : Rect) (levels top : ℕ) (u : ℕ → Rect) (bands : ℕ → ℕ → ℕ → ℤ) (p : ℕ → ℕ → ℕ → ℤ) → top ≤ levels →
    ((r : ℕ) → r < top → u r ≡ half_area (near_area (resolution_area a levels (r + 1)) (u (r + 1))) 0) →
    ((r x y : ℕ) → r ≤ top → IsWithin (u r) x y → IsWithin (resolution_area a levels r) x y) →
    ((x y : ℕ) → IsWithin (u 0) x y → p 0 x y ≡ bands 0 x y) →
    ((r x y : ℕ) → r < top → IsWithin (u (r + 1)) x y →
    p (r + 1) x y
    ≡ unlifted_over (near_area (resolution_area a levels (r + 1)) (u (r + 1)))
    (woven_plane (p r) (λ o. bands (3 * r + o))) x y) →
    (r x y : ℕ) → r ≤ top → IsWithin (u r) x y → p r x y ≡ resolution_of a levels bands r x y

-- In the list of a resolution: a place of a sub-band's part lies in it; places that lie at one
-- place are one, of one sub-band; none lies at a place of LL, above the lowest resolution; and the
-- rows of a part don't overlap, and end in the list.
abbrev pub LiesInLevel : Type 0
LiesInLevel = (s : Region) (b x y : ℕ) → IsWithin (part_area s b) x y
    → index_in (band_rows s b) x y < level_places s (resolution_with b)

abbrev pub LiesApart : Type 0
LiesApart = (s : Region) (b d x y u v : ℕ) → resolution_with b ≡ resolution_with d → IsWithin (part_area s b) x y
    → IsWithin (part_area s d) u v →
    index_in (band_rows s b) x y ≡ index_in (band_rows s d) u v → (b ≡ d) × (x ≡ u) × (y ≡ v)

abbrev pub LiesOffLow : Type 0
LiesOffLow = (s : Region) (b x y u v : ℕ) → 0 < resolution_with b → IsWithin (part_area s b) x y
    → IsWithin (low_rows s (resolution_with b)).area u v →
    index_in (band_rows s b) x y ≢ index_in (low_rows s (resolution_with b)) u v

abbrev pub HasRows : Type 0
HasRows = (s : Region) (b : ℕ)
    → (columns_of (part_area s b) ≤ (band_rows s b).step) × FitsIn (band_rows s b) (level_places s (resolution_with b))

-- Where n places of a row of a part are written, from column x on, all other coefficients stay: of
-- the part, of the other sub-bands of the resolution, and of LL.
abbrev pub IsOther : (b x y n d u v : ℕ) → Type 0
IsOther b x y n d u v = (d ≢ b) ⊎ (v ≢ y) ⊎ (u < x) ⊎ (x + n ≤ u)

abbrev pub KeepsOthers : Type 0
KeepsOthers = (s : Region) (b x y n : ℕ) (old new : List ℤ) → IsWithin (part_area s b) x y → x + n ≤ (part_area s b).x1
    →
    ((k : ℕ) → (k < index_in (band_rows s b) x y) ⊎ (index_in (band_rows s b) x y + n ≤ k)
    → signed_at new k ≡ signed_at old k) →
    ((d u v : ℕ) → resolution_with d ≡ resolution_with b → IsWithin (part_area s d) u v → IsOther b x y n d u v →
    coefficient_of (band_rows s d) new u v ≡ coefficient_of (band_rows s d) old u v)
    × ShowsLow s (resolution_with b) (coefficient_of (low_rows s (resolution_with b)) old) new

-- A list with the length and the samples of the resolution below of one from which samples can be
-- made, and with coefficients below 2^23 at the places of the sub-bands, is such a list.
abbrev pub StaysLevel : Type 0
StaysLevel = (s : Region) (r : ℕ) (old new : List ℤ) → IsLevel s r old → length new ≡ length old
    → ShowsLow s r (coefficient_of (low_rows s r) old) new →
    ((b x y : ℕ) → resolution_with b ≡ r → IsWithin (part_area s b) x y
    → IsBelow (2 ^ 23) (coefficient_of (band_rows s b) new x y)) → IsLevel s r new
