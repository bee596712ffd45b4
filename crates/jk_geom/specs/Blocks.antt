-- Code-blocks (T.800 B.7).
use Rattle.std.specs.Prelude.{◌≡◌, ℕ, ◌+◌, ◌-◌, ◌/◌, ◌%◌, ◌^◌, ◌<◌, ◌≤◌, min, if◌then◌else◌}
use Rattle.jk_math.specs.declared.rect.Rect.{Rect}
use Rattle.jk_marks.specs.declared.coding.Coding.{Coding}
use Rattle.jk_math.specs.declared.orientation.Orientation.{Orientation}
use Rattle.jk_geom.specs.declared.grid.BlockGrid.{BlockGrid}
use Rattle.jk_geom.specs.Rectangles.{ceil_div, is_empty, meet, cell}
use Rattle.jk_geom.specs.Precincts.{part_width, part_height, precinct_area}

-- no code-blocks
abbrev pub no_blocks : Rect → (width height : ℕ) → BlockGrid
no_blocks area width height =
    record { area = area; width = width; height = height; column = 0; row = 0; across = 0; down = 0 }

-- The code-blocks of a rectangle: those of the cells, 2^width wide and 2^height high, that have a
-- place in it.
unfoldable pub grid_of : Rect → (width height : ℕ) → BlockGrid
grid_of area width height = if is_empty area then no_blocks area width height else record {
  area = area;
  width = width;
  height = height;
  column = area.x0 / 2 ^ width;
  row = area.y0 / 2 ^ height;
  across = ceil_div area.x1 (2 ^ width) - area.x0 / 2 ^ width;
  down = ceil_div area.y1 (2 ^ height) - area.y0 / 2 ^ height;
}

-- the code-blocks of a precinct's part of a sub-band; they are no larger than the precinct
-- (equations B-17 and B-18)
unfoldable pub block_grid : Rect → Coding → (r n : ℕ) → Orientation → BlockGrid
block_grid a k r n o = grid_of (precinct_area a k r n o) (min k.xcb (part_width k r)) (min k.ycb (part_height k r))

-- code-block i, in raster order
unfoldable pub block_area : BlockGrid → ℕ → Rect
block_area g i = meet (cell (g.column + i % g.across) (g.row + i / g.across) g.width g.height) g.area

-- the code-blocks of a rectangle below 2^31
pub record IsGrid (g : BlockGrid) : Type 0 where
  pub made : g ≡ grid_of g.area g.width g.height
  pub right : g.area.x1 < 2 ^ 31
  pub lower : g.area.y1 < 2 ^ 31
  pub narrow : g.width ≤ 10
  pub low : g.height ≤ 10
