-- One level of the transform over a rectangle, and the lists of its four parts.
use Rattle.std.specs.Prelude.{◌≡◌, ℕ, zero, suc, ◌+◌, ◌-◌, ◌*◌, ◌/◌, ◌%◌, ◌<◌, List, take, drop, length, ℤ}
use Rattle.jk_math.specs.declared.rect.Rect.{Rect}
use Rattle.jk_math.specs.Raster.{columns_of, plane_at}
use Rattle.jk_geom.specs.Rectangles.{IsWithin}
use Rattle.jk_wave.specs.declared.parts.LevelParts.{LevelParts}
use Rattle.jk_lift.specs.Lifting.{lifted}
use Rattle.jk_lift.specs.Planes.{lifted_plane, unlifted_plane}

-- half of a bound, so that the places of this parity are counted
abbrev pub half_bound : (bound parity : ℕ) → ℕ
half_bound bound parity = (bound + 1 - parity) / 2

-- Part o of a rectangle: its places of even or odd x and y, both halved. LL is 0, HL 1, LH 2 and HH
-- 3.
abbrev pub half_area : Rect → ℕ → Rect
half_area a o = record {
  x0 = half_bound a.x0 (o % 2);
  y0 = half_bound a.y0 (o / 2);
  x1 = half_bound a.x1 (o % 2);
  y1 = half_bound a.y1 (o / 2);
}

-- one level back over a rectangle, and one level forwards
abbrev pub unlifted_over : Rect → (ℕ → ℕ → ℤ) → ℕ → ℕ → ℤ
unlifted_over area c x y = unlifted_plane area.x0 area.x1 area.y0 area.y1 c x y

abbrev pub lifted_over : Rect → (ℕ → ℕ → ℤ) → ℕ → ℕ → ℤ
lifted_over area f x y = lifted_plane area.x0 area.x1 area.y0 area.y1 f x y

-- row v of a list of rows of this width
abbrev pub row_of : (width v : ℕ) → List ℤ → List ℤ
row_of width v values = take width (drop (v * width) values)

-- part o of a level of f
abbrev pub part_of : Rect → (ℕ → ℕ → ℤ) → ℕ → ℕ → ℕ → ℤ
part_of area f o x y = lifted_over area f (2 * x + o % 2) (2 * y + o / 2)

-- A list has part o of the rows above place y, where f has the columns analysed already.
abbrev pub part_below : Rect → (o y : ℕ) → (f : ℕ → ℕ → ℤ) → (part : List ℤ) → Type 0
part_below area o y f part = (u v : ℕ) → IsWithin (half_area area o) u v → 2 * v + o / 2 < y →
    plane_at (half_area area o) part u v ≡ lifted area.x0 area.x1 (λ i. f i (2 * v + o / 2)) (2 * u + o % 2)

-- and it is as long as its rows
pub record IsPartUpto (area : Rect) (o y : ℕ) (f : ℕ → ℕ → ℤ) (part : List ℤ) : Type 0 where
  pub long : length part ≡ (half_bound y (o / 2) - half_bound area.y0 (o / 2)) * columns_of (half_area area o)
  pub below : part_below area o y f part

-- part o of a level
abbrev pub part_list : LevelParts → (o : ℕ) → List ℤ
part_list parts zero = parts.ll.items
part_list parts (suc zero) = parts.hl.items
part_list parts (suc (suc zero)) = parts.lh.items
part_list parts (suc (suc (suc o))) = parts.hh.items
