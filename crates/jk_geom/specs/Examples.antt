-- Examples: an image of 17 by 13 at (3, 5) in tiles of 8 by 8, with one level and precincts of 2 by
-- 2 and 4 by 4.
use Rattle.std.specs.Prelude.{◌≡◌, ℕ, [], ◌∷◌, false, refl}
use Rattle.jk_math.specs.declared.rect.Rect.{Rect}
use Rattle.jk_math.specs.Styles.{plain_style}
use Rattle.jk_marks.specs.declared.siz.Siz.{Siz}
use Rattle.jk_marks.specs.declared.coding.Coding.{Coding}
use Rattle.jk_marks.specs.Siz.{tile_count}
use Rattle.jk_math.specs.declared.orientation.Orientation.TheVariants.{HL, LH, HH}
use Rattle.jk_geom.specs.Rectangles.{tile_area, resolution_area, band_area}
use Rattle.jk_geom.specs.Precincts.{precincts_across, precincts_down, precinct_column, precinct_row, precinct_area}
use Rattle.jk_geom.specs.Blocks.{grid_of, block_grid, block_area}

abbrev image : Siz
image = record {
  rsiz = 0;
  x1 = 20;
  y1 = 18;
  x0 = 3;
  y0 = 5;
  tile_width = 8;
  tile_height = 8;
  tile_x0 = 0;
  tile_y0 = 0;
  components = 1;
  depth = 8;
  signed = false;
}

abbrev small : Coding
small = record {
  levels = 1;
  xcb = 6;
  ycb = 6;
  precincts = (1, 1) ∷ (2, 2) ∷ [];
  style = plain_style;
  guard = 2;
  exponents = [];
}

abbrev rect : (x0 y0 x1 y1 : ℕ) → Rect
rect x0 y0 x1 y1 = record { x0 = x0; y0 = y0; x1 = x1; y1 = y1 }

tiles : tile_count image ≡ 9
tiles = refl

first_tile : tile_area image 0 ≡ rect 3 5 8 8
unfolding tile_area
first_tile = refl

middle_tile : tile_area image 4 ≡ rect 8 8 16 16
unfolding tile_area
middle_tile = refl

last_tile : tile_area image 8 ≡ rect 16 16 20 18
unfolding tile_area
last_tile = refl

lowest : resolution_area (rect 3 5 8 8) 1 0 ≡ rect 2 3 4 4
unfolding resolution_area
lowest = refl

across : band_area (rect 3 5 8 8) 1 1 HL ≡ rect 1 3 4 4
unfolding band_area
across = refl

down : band_area (rect 3 5 8 8) 1 1 LH ≡ rect 2 2 4 4
unfolding band_area
down = refl

both : band_area (rect 3 5 8 8) 1 1 HH ≡ rect 1 2 4 4
unfolding band_area
both = refl

-- the bound of a sub-band whose offset is greater than it
at_origin : band_area (rect 0 0 5 1) 2 1 HH ≡ rect 0 0 1 0
unfolding band_area
at_origin = refl

one_precinct : (precincts_across (rect 3 5 8 8) small 0 ≡ 1) × (precincts_down (rect 3 5 8 8) small 0 ≡ 1)
unfolding precincts_across precincts_down resolution_area
one_precinct = (refl, refl)

two_precincts : (precincts_across (rect 3 5 8 8) small 1 ≡ 2) × (precincts_down (rect 3 5 8 8) small 1 ≡ 1)
unfolding precincts_across precincts_down resolution_area
two_precincts = (refl, refl)

second_part : precinct_area (rect 3 5 8 8) small 1 1 HL ≡ rect 2 3 4 4
unfolding precinct_area precinct_column precinct_row precincts_across resolution_area band_area
second_part = refl

one_block : block_area (block_grid (rect 3 5 8 8) small 1 1 HL) 0 ≡ rect 2 3 4 4
unfolding block_grid grid_of block_area precinct_area precinct_column precinct_row precincts_across resolution_area
    band_area
one_block = refl
