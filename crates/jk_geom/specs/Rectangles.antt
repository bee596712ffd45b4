-- Tiles, resolutions and sub-bands (T.800 Annex B), by its formulas on whole numbers.
-- A difference is 0 where its second number is the greater one.
use Rattle.std.specs.Prelude.{ℕ, ◌+◌, ◌-◌, ◌*◌, ◌/◌, ◌%◌, ◌^◌, ◌<◌, ◌≤◌, min, max, Bool, not, ◌||◌, nat_le}
use Rattle.jk_math.specs.declared.rect.Rect.{Rect}
use Rattle.jk_marks.specs.declared.siz.Siz.{Siz}
use Rattle.jk_marks.specs.Siz.{tiles_across}
use Rattle.jk_math.specs.declared.orientation.Orientation.{Orientation}
use Rattle.jk_math.specs.declared.orientation.Orientation.TheVariants.{LL, HL, LH, HH}

-- a / b rounded up
abbrev pub ceil_div : ℕ → ℕ → ℕ
ceil_div a b = (a + b - 1) / b

-- a rectangle whose ends are in order, below 2^31
pub record IsArea (a : Rect) : Type 0 where
  pub left : a.x0 ≤ a.x1
  pub upper : a.y0 ≤ a.y1
  pub right : a.x1 < 2 ^ 31
  pub lower : a.y1 < 2 ^ 31

-- a place lies in a rectangle
pub record IsWithin (a : Rect) (x y : ℕ) : Type 0 where
  pub left : a.x0 ≤ x
  pub right : x < a.x1
  pub upper : a.y0 ≤ y
  pub lower : y < a.y1

-- a rectangle has no place
abbrev pub is_empty : Rect → Bool
is_empty a = nat_le a.x1 a.x0 || nat_le a.y1 a.y0

-- what two rectangles have in common
abbrev pub meet : Rect → Rect → Rect
meet a b = record { x0 = max a.x0 b.x0; y0 = max a.y0 b.y0; x1 = min a.x1 b.x1; y1 = min a.y1 b.y1 }

-- two rectangles have a place in common
abbrev pub touches : Rect → Rect → Bool
touches a b = not (is_empty (meet a b))

-- The rectangle of column a and row b where the plane is cut, from 0 on, into rectangles 2^ex wide
-- and 2^ey high.
abbrev pub cell : (a b ex ey : ℕ) → Rect
cell a b ex ey = record { x0 = a * 2 ^ ex; y0 = b * 2 ^ ey; x1 = (a + 1) * 2 ^ ex; y1 = (b + 1) * 2 ^ ey }

-- tile t, in column p and row q of the tiles (B.3, equations B-6 to B-10)
unfoldable pub tile_area : Siz → ℕ → Rect
tile_area s t =
    let p = t % tiles_across s in
    let q = t / tiles_across s in
    record {
      x0 = max (s.tile_x0 + p * s.tile_width) s.x0;
      y0 = max (s.tile_y0 + q * s.tile_height) s.y0;
      x1 = min (s.tile_x0 + (p + 1) * s.tile_width) s.x1;
      y1 = min (s.tile_y0 + (q + 1) * s.tile_height) s.y1;
    }

-- resolution r of a tile-component with so many decomposition levels (B.5, equation B-14)
unfoldable pub resolution_area : Rect → (levels r : ℕ) → Rect
resolution_area a levels r = record {
  x0 = ceil_div a.x0 (2 ^ (levels - r));
  y0 = ceil_div a.y0 (2 ^ (levels - r));
  x1 = ceil_div a.x1 (2 ^ (levels - r));
  y1 = ceil_div a.y1 (2 ^ (levels - r));
}

-- xob and yob: 1 where a sub-band is high-pass across, or down (table B.1)
abbrev pub across_offset : Orientation → ℕ
across_offset LL = 0
across_offset HL = 1
across_offset LH = 0
across_offset HH = 1

abbrev pub down_offset : Orientation → ℕ
down_offset LL = 0
down_offset HL = 0
down_offset LH = 1
down_offset HH = 1

-- a bound of a sub-band of level nb with the offset 0 or 1, from that of the tile-component (B.5,
-- equation B-15)
abbrev pub band_bound : (value nb offset : ℕ) → ℕ
band_bound value nb offset = ceil_div (value - 2 ^ (nb - 1) * offset) (2 ^ nb)

-- a sub-band of level nb that isn't LL
abbrev pub level_area : Rect → ℕ → Orientation → Rect
level_area a nb o = record {
  x0 = band_bound a.x0 nb (across_offset o);
  y0 = band_bound a.y0 nb (down_offset o);
  x1 = band_bound a.x1 nb (across_offset o);
  y1 = band_bound a.y1 nb (down_offset o);
}

-- The sub-bands of resolution r: LL of resolution 0, which is that resolution; HL, LH and HH of
-- each other one, which stand on level nb = levels - r + 1 (B.5).
unfoldable pub band_area : Rect → (levels r : ℕ) → Orientation → Rect
band_area a levels r LL = resolution_area a levels 0
band_area a levels r o = level_area a (levels - r + 1) o
