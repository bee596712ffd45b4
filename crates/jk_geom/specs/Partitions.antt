-- How tiles, sub-bands and code-blocks share the places of an image among them.
use Rattle.std.specs.Prelude.{◌≡◌, ℕ, ◌+◌, ◌-◌, ◌*◌, ◌/◌, ◌^◌, ◌<◌}
use Rattle.jk_math.specs.declared.rect.Rect.{Rect}
use Rattle.jk_marks.specs.declared.siz.Siz.{Siz}
use Rattle.jk_marks.specs.declared.coding.Coding.{Coding}
use Rattle.jk_marks.specs.Siz.{tiles_across, tile_count}
use Rattle.jk_marks.specs.Coding.{precinct_size}
use Rattle.jk_math.specs.declared.orientation.Orientation.{Orientation}
use Rattle.jk_math.specs.declared.orientation.Orientation.TheVariants.{LL, HL, LH, HH}
use Rattle.jk_geom.specs.declared.grid.BlockGrid.{BlockGrid}
use Rattle.jk_geom.specs.Rectangles.{IsWithin, ceil_div, across_offset, down_offset, tile_area, resolution_area}
use Rattle.jk_geom.specs.Rectangles.{band_area}
use Rattle.jk_geom.specs.Precincts.{precincts_across, precinct_number, part_width, part_height}
use Rattle.jk_geom.specs.Blocks.{block_grid, block_area}

-- the image on the reference grid (B.2)
abbrev pub image_area : Siz → Rect
image_area s = record { x0 = s.x0; y0 = s.y0; x1 = s.x1; y1 = s.y1 }

-- a rectangle on the grid that is reduced by d levels
abbrev pub reduced_area : Rect → ℕ → Rect
reduced_area a d = resolution_area a d 0

-- Tile t has the place (x, y) of the image that is reduced by d levels.
pub record TileHolds (s : Siz) (d t x y : ℕ) : Type 0 where
  pub tile : t < tile_count s
  pub place : IsWithin (reduced_area (tile_area s t) d) x y

-- the number of the tile that has a place of the image
abbrev pub tile_of : Siz → (x y : ℕ) → ℕ
tile_of s x y = (y - s.tile_y0) / s.tile_height * tiles_across s + (x - s.tile_x0) / s.tile_width

-- resolution r has such a sub-band
abbrev pub IsBand : ℕ → Orientation → Type 0
IsBand r LL = r ≡ 0
IsBand r HL = 0 < r
IsBand r LH = 0 < r
IsBand r HH = 0 < r

-- what resolution r + 1 is woven of: resolution r, as LL, and its own sub-bands
abbrev pub woven_area : Rect → (levels r : ℕ) → Orientation → Rect
woven_area a levels r LL = resolution_area a levels r
woven_area a levels r o = band_area a levels (r + 1) o

-- where place u across, or v down, of such a part goes
abbrev pub woven_x : Orientation → ℕ → ℕ
woven_x o u = 2 * u + across_offset o

abbrev pub woven_y : Orientation → ℕ → ℕ
woven_y o v = 2 * v + down_offset o

-- A place of resolution r + 1, and the place of a part that goes there.
pub record IsWoven (x y : ℕ) : Type 0 where
  pub part : Orientation
  pub u : ℕ
  pub v : ℕ
  pub across : x ≡ woven_x part u
  pub down : y ≡ woven_y part v

-- how many code-blocks a grid has
abbrev pub block_number : BlockGrid → ℕ
block_number g = g.across * g.down

-- the number of the precinct that has a place of a sub-band of resolution r
abbrev pub precinct_of : Rect → Coding → (r x y : ℕ) → ℕ
precinct_of a k r x y =
    (y / 2 ^ part_height k r - (resolution_area a k.levels r).y0 / 2 ^ (precinct_size k r).1) * precincts_across a k r
    + (x / 2 ^ part_width k r - (resolution_area a k.levels r).x0 / 2 ^ (precinct_size k r).0)

-- the number of the code-block, 2^w wide and 2^h high, that has a place of the rectangle
abbrev pub block_of : Rect → (w h x y : ℕ) → ℕ
block_of a w h x y = (y / 2 ^ h - a.y0 / 2 ^ h) * (ceil_div a.x1 (2 ^ w) - a.x0 / 2 ^ w) + (x / 2 ^ w - a.x0 / 2 ^ w)

-- Code-block i of precinct n has the place (x, y) of a sub-band of resolution r.
pub record BlockHolds (a : Rect) (k : Coding) (r : ℕ) (o : Orientation) (n i x y : ℕ) : Type 0 where
  pub precinct : n < precinct_number a k r
  pub block : i < block_number (block_grid a k r n o)
  pub place : IsWithin (block_area (block_grid a k r n o) i) x y
