-- Which precincts the samples of a window depend on (T.800 B.5, B.6, F.3).
use Rattle.std.specs.Prelude.{◌<◌, ◌≤◌, ℕ, zero, suc, ◌+◌, ◌-◌, ◌/◌, Bool, not, ◌&&◌, nat_le, List}
use Rattle.std.specs.List.{list_any}
use Rattle.jk_math.specs.declared.rect.Rect.{Rect}
use Rattle.jk_marks.specs.declared.coding.Coding.{Coding}
use Rattle.jk_math.specs.declared.orientation.Orientation.{Orientation}
use Rattle.jk_math.specs.declared.orientation.Orientation.TheVariants.{LL, HL, LH, HH}
use Rattle.jk_geom.specs.Rectangles.{is_empty, meet, touches, across_offset, down_offset}
use Rattle.jk_geom.specs.Precincts.{precinct_area}
use Rattle.jk_geom.specs.Partitions.{reduced_area}
use Rattle.jk_geom.specs.TileShapes.{coding_of}
use Rattle.jk_walk.specs.TilePackets.{orientations}

-- The half of a line, low-pass (offset 0) or high-pass (offset 1), whose place u is place 2 u +
-- offset of the line: from which place on, and up to which, it is within two places of the places
-- from a up to b. A difference is 0 where its second number is the greater one.
abbrev pub half_start : (offset a : ℕ) → ℕ
half_start offset a = (a - 1 - offset) / 2

abbrev pub half_end : (offset b : ℕ) → ℕ
half_end offset b = (b + 3 - offset) / 2

-- the part of a sub-band of a resolution that a stretch of the resolution depends on
abbrev pub part_of_band : Rect → Orientation → Rect
part_of_band u o = record {
  x0 = half_start (across_offset o) u.x0;
  y0 = half_start (down_offset o) u.y0;
  x1 = half_end (across_offset o) u.x1;
  y1 = half_end (down_offset o) u.y1;
}

-- The stretch of the n-th resolution below that a stretch depends on. It isn't cut with that
-- resolution.
unfoldable pub stretch : Rect → ℕ → Rect
stretch u zero = u
stretch u (suc n) = part_of_band (stretch u n) LL

-- of the sub-bands of the n-th resolution below: LL is that of the lowest resolution, which is the
-- resolution itself
abbrev pub needed_part : Rect → ℕ → Orientation → Rect
needed_part u n LL = stretch u n
needed_part u n HL = part_of_band (stretch u n) HL
needed_part u n LH = part_of_band (stretch u n) LH
needed_part u n HH = part_of_band (stretch u n) HH

-- A stretch u of a tile-component, which is reduced by d levels, needs precinct k of resolution r:
-- a sub-band has a place that belongs to the precinct and that the stretch depends on.
abbrev pub needs : Rect → Coding → (u : Rect) → (d r k : ℕ) → Bool
needs rect coding u d r k =
    nat_le (r + d) coding.levels
    && list_any (λ o. touches (precinct_area rect coding r k o) (needed_part u (coding.levels - (r + d)) o))
    (orientations r)

-- A window w of the image that is reduced by d levels needs precinct k of resolution r of component
-- c of a tile.
abbrev pub is_needed : Rect → List Coding → (w : Rect) → (d c r k : ℕ) → Bool
is_needed rect codings w d c r k = let u = meet w (reduced_area rect d) in not (is_empty u)
    && needs rect (coding_of codings c) u d r k

-- a place is within two places of a rectangle
abbrev pub IsNear : Rect → (x y : ℕ) → Type 0
IsNear u x y = (u.x0 ≤ x + 2) × (x < u.x1 + 2) × (u.y0 ≤ y + 2) × (y < u.y1 + 2)
