-- What a grid of code-blocks is made of.
use Rattle.std.proofs.Common.{◌≡◌, ℕ, ◌+◌, ◌-◌, ◌*◌, ◌/◌, ◌^◌, ◌<◌, ◌≤◌, Bool, true, false, refl, ap, sym, subst, ◌∙◌, arith}
use Rattle.jk_math.specs.declared.rect.Rect.{Rect}
use Rattle.jk_geom.specs.declared.grid.BlockGrid.{BlockGrid}
use Rattle.jk_geom.specs.Rectangles.{ceil_div, is_empty}
use Rattle.jk_geom.specs.Blocks.{IsGrid, grid_of, no_blocks}
use Rattle.jk_geom.proofs.Ceilings.{cell_small, number_small}

-- the grid of some code-blocks
abbrev pub full_grid : Rect → (width height : ℕ) → BlockGrid
full_grid area width height = record {
  area = area;
  width = width;
  height = height;
  column = area.x0 / 2 ^ width;
  row = area.y0 / 2 ^ height;
  across = ceil_div area.x1 (2 ^ width) - area.x0 / 2 ^ width;
  down = ceil_div area.y1 (2 ^ height) - area.y0 / 2 ^ height;
}

pub grid_empty : (area : Rect) (width height : ℕ) → is_empty area ≡ true → grid_of area width height ≡ no_blocks area width height
unfolding grid_of
grid_empty area width height e = rw e refl

pub grid_full : (area : Rect) (width height : ℕ) → is_empty area ≡ false → grid_of area width height ≡ full_grid area width height
unfolding grid_of
grid_full area width height e = rw e refl

-- the grid of a rectangle is of that rectangle
pub grid_made : (area : Rect) (width height : ℕ) → grid_of (grid_of area width height).area (grid_of area width height).width (grid_of area width height).height ≡ grid_of area width height
grid_made area width height = by (is_empty area) refl
  where
    by : (b : Bool) → is_empty area ≡ b → grid_of (grid_of area width height).area (grid_of area width height).width (grid_of area width height).height ≡ grid_of area width height
    by true e = ap (λ (g : BlockGrid). grid_of g.area g.width g.height) (grid_empty area width height e)
    by false e = ap (λ (g : BlockGrid). grid_of g.area g.width g.height) (grid_full area width height e)

pub grid_area : (area : Rect) (width height : ℕ) → (grid_of area width height).area ≡ area
grid_area area width height = by (is_empty area) refl
  where
    by : (b : Bool) → is_empty area ≡ b → (grid_of area width height).area ≡ area
    by true e = ap (λ (g : BlockGrid). g.area) (grid_empty area width height e)
    by false e = ap (λ (g : BlockGrid). g.area) (grid_full area width height e)

pub grid_width : (area : Rect) (width height : ℕ) → (grid_of area width height).width ≡ width
grid_width area width height = by (is_empty area) refl
  where
    by : (b : Bool) → is_empty area ≡ b → (grid_of area width height).width ≡ width
    by true e = ap (λ (g : BlockGrid). g.width) (grid_empty area width height e)
    by false e = ap (λ (g : BlockGrid). g.width) (grid_full area width height e)

pub grid_height : (area : Rect) (width height : ℕ) → (grid_of area width height).height ≡ height
grid_height area width height = by (is_empty area) refl
  where
    by : (b : Bool) → is_empty area ≡ b → (grid_of area width height).height ≡ height
    by true e = ap (λ (g : BlockGrid). g.height) (grid_empty area width height e)
    by false e = ap (λ (g : BlockGrid). g.height) (grid_full area width height e)

-- the columns of a grid that has them end soon after its rectangle
pub column_small : (g : BlockGrid) (n : ℕ) → IsGrid g → n < g.across → (g.column + n + 1) * 2 ^ g.width < 2 ^ 32
column_small g n grid h = by (is_empty g.area) refl
  where
    by : (b : Bool) → is_empty g.area ≡ b → (g.column + n + 1) * 2 ^ g.width < 2 ^ 32
    by true e =
        let none : g.across ≡ 0 = ap (λ (x : BlockGrid). x.across) (grid.made ∙ grid_empty g.area g.width g.height e) in
        absurd (omega arith)
    by false e =
        let is = grid.made ∙ grid_full g.area g.width g.height e in
        let first : g.column ≡ g.area.x0 / 2 ^ g.width = ap (λ (x : BlockGrid). x.column) is in
        let count : g.across ≡ ceil_div g.area.x1 (2 ^ g.width) - g.area.x0 / 2 ^ g.width = ap (λ (x : BlockGrid). x.across) is in
        let few : g.width ≤ 15 = omega arith in
        let small = cell_small g.area.x0 g.area.x1 g.width n (omega arith) grid.right few in
        subst (λ c. (c + n + 1) * 2 ^ g.width < 2 ^ 32) (sym first) small

pub row_small : (g : BlockGrid) (n : ℕ) → IsGrid g → n < g.down → (g.row + n + 1) * 2 ^ g.height < 2 ^ 32
row_small g n grid h = by (is_empty g.area) refl
  where
    by : (b : Bool) → is_empty g.area ≡ b → (g.row + n + 1) * 2 ^ g.height < 2 ^ 32
    by true e =
        let none : g.down ≡ 0 = ap (λ (x : BlockGrid). x.down) (grid.made ∙ grid_empty g.area g.width g.height e) in
        absurd (omega arith)
    by false e =
        let is = grid.made ∙ grid_full g.area g.width g.height e in
        let first : g.row ≡ g.area.y0 / 2 ^ g.height = ap (λ (x : BlockGrid). x.row) is in
        let count : g.down ≡ ceil_div g.area.y1 (2 ^ g.height) - g.area.y0 / 2 ^ g.height = ap (λ (x : BlockGrid). x.down) is in
        let few : g.height ≤ 15 = omega arith in
        let small = cell_small g.area.y0 g.area.y1 g.height n (omega arith) grid.lower few in
        subst (λ c. (c + n + 1) * 2 ^ g.height < 2 ^ 32) (sym first) small

-- and their numbers are small
pub column_fits : (g : BlockGrid) (n : ℕ) → IsGrid g → n < g.across → g.column + n < 2 ^ 32
column_fits g n grid h =
    let small = number_small (g.column + n) g.width (2 ^ 32) (column_small g n grid h) in
    omega arith

pub row_fits : (g : BlockGrid) (n : ℕ) → IsGrid g → n < g.down → g.row + n < 2 ^ 32
row_fits g n grid h =
    let small = number_small (g.row + n) g.height (2 ^ 32) (row_small g n grid h) in
    omega arith

-- the code-blocks of a rectangle below 2^31 are such a grid
pub grid_is : (area : Rect) (width height : ℕ) → area.x1 < 2 ^ 31 → area.y1 < 2 ^ 31 → width ≤ 10 → height ≤ 10 → IsGrid (grid_of area width height)
grid_is area width height right lower narrow low = record {
  made = sym (grid_made area width height);
  right = subst (λ (a : Rect). a.x1 < 2 ^ 31) (sym (grid_area area width height)) right;
  lower = subst (λ (a : Rect). a.y1 < 2 ^ 31) (sym (grid_area area width height)) lower;
  narrow = subst (λ (n : ℕ). n ≤ 10) (sym (grid_width area width height)) narrow;
  low = subst (λ (n : ℕ). n ≤ 10) (sym (grid_height area width height)) low;
}
