-- Code-blocks at their places, and the coefficients there.
use Rattle.std.proofs.Common.{◌≡◌, ℕ, zero, suc, ◌+◌, ◌*◌, ◌/◌, ◌%◌, ◌^◌, ◌<◌, ◌≤◌, min, Bool, true, false, leb, if◌then◌else◌, List, length, refl, sym, ap, subst, ◌∙◌, arith}
use Rattle.std.proofs.lemmas.Bool.{leb-false, or_parts}
use Rattle.std.proofs.Math.Nat.{mul-le-mul}
use Rattle.std.proofs.Math.Pow.{pow_mono}
use Rattle.std.proofs.lemmas.Nat.{pow-add}
use Rattle.jk_math.specs.declared.rect.Rect.{Rect}
use Rattle.jk_math.specs.Raster.{columns_of, rows_of}
use Rattle.jk_marks.specs.declared.coding.Coding.{Coding}
use Rattle.jk_marks.specs.Coding.{IsCoding}
use Rattle.jk_geom.specs.declared.grid.BlockGrid.{BlockGrid}
use Rattle.jk_geom.specs.Rectangles.{IsWithin, is_empty, meet, cell, band_area}
use Rattle.jk_geom.specs.Precincts.{precinct_number, precinct_area, part_width, part_height, precinct_column, precinct_row}
use Rattle.jk_geom.specs.Blocks.{grid_of, block_grid, block_area}
use Rattle.jk_geom.specs.Partitions.{IsBand, block_number, BlockHolds, precinct_of}
use Rattle.jk_geom.proofs.Laws.{precinct_found, grid_found, blocks_one, blocks_inside, blocks_some}
use Rattle.jk_walk.specs.TilePackets.{Body, orientations, band_number}
use Rattle.jk_tile.specs.TileBlocks.{orientation_at, grid_at, block_at_place, block_shape, band_resolution, band_index, IsBlockShape}
use Rattle.jk_tile.specs.decoding.TileReading.{block_with, block_value, coefficient_at}
use Rattle.jk_tile.specs.Filling.{IsPartOf}

-- ---- sub-bands by number

pub resolution_is : (r i : ℕ) → i < length (orientations r) → band_resolution (band_number r i) ≡ r
resolution_is zero i lt = refl
resolution_is (suc r) i lt =
    let e : 3 * r + 1 + i ≡ suc (3 * r + i) = omega arith in
    ap band_resolution e ∙ (let d : (3 * r + i) / 3 + 1 ≡ suc r = omega (arith, lt) in d)

pub index_is : (r i : ℕ) → i < length (orientations r) → band_index (band_number r i) ≡ i
index_is zero i lt = omega (arith, lt)
index_is (suc r) i lt =
    let e : 3 * r + 1 + i ≡ suc (3 * r + i) = omega arith in
    ap band_index e ∙ (let d : (3 * r + i) % 3 ≡ i = omega (arith, lt) in d)

pub is_band : (r i : ℕ) → i < length (orientations r) → IsBand r (orientation_at r i)
is_band zero zero lt = refl
is_band zero (suc i) lt = absurd (omega (arith, lt))
is_band (suc r) zero lt = omega arith
is_band (suc r) (suc zero) lt = omega arith
is_band (suc r) (suc (suc zero)) lt = omega arith
is_band (suc r) (suc (suc (suc i))) lt = absurd (omega (arith, lt))

-- ---- the place of a code-block

either : {X : Type 0} (f : BlockGrid → X) (v : X) (b : Bool) (p q : BlockGrid) → f p ≡ v → f q ≡ v → f (if b then p else q) ≡ v
either f v true p q here there = here
either f v false p q here there = there

pub grid_area : (a : Rect) (w h : ℕ) → (grid_of a w h).area ≡ a
unfolding grid_of
grid_area a w h = either (λ g. g.area) a (is_empty a) _ _ refl refl

grid_width : (a : Rect) (w h : ℕ) → (grid_of a w h).width ≡ w
unfolding grid_of
grid_width a w h = either (λ g. g.width) w (is_empty a) _ _ refl refl

pub grid_height : (a : Rect) (w h : ℕ) → (grid_of a w h).height ≡ h
unfolding grid_of
grid_height a w h = either (λ g. g.height) h (is_empty a) _ _ refl refl

-- the grid of a precinct's part of a sub-band
abbrev part_of : Rect → Coding → (r n i : ℕ) → Rect
part_of a k r n i = precinct_area a k r n (orientation_at r i)

pub grid_is : (a : Rect) (k : Coding) (r n i : ℕ) → grid_at a k r n i ≡ grid_of (part_of a k r n i) (min k.xcb (part_width k r)) (min k.ycb (part_height k r))
unfolding block_grid
grid_is a k r n i = refl

block_is : (g : BlockGrid) (i : ℕ) → block_area g i ≡ meet (cell (g.column + i % g.across) (g.row + i / g.across) g.width g.height) g.area
unfolding block_area
block_is g i = refl

part_is : (a : Rect) (k : Coding) (r n i : ℕ) → part_of a k r n i ≡ meet (cell (precinct_column a k r n) (precinct_row a k r n) (part_width k r) (part_height k r)) (band_area a k.levels r (orientation_at r i))
unfolding precinct_area
part_is a k r n i = refl

-- a cell's part of a rectangle isn't wider than the cell
record IsCut (area b : Rect) (w h : ℕ) : Type 0 where
  narrow : columns_of b ≤ 2 ^ w
  low : rows_of b ≤ 2 ^ h
  left : area.x0 ≤ b.x0
  right : b.x1 ≤ area.x1
  upper : area.y0 ≤ b.y0
  lower : b.y1 ≤ area.y1

cut_is : (area : Rect) (c d w h : ℕ) → IsCut area (meet (cell c d w h) area) w h
cut_is area c d w h =
    let across : (c + 1) * 2 ^ w ≡ c * 2 ^ w + 2 ^ w = omega arith in
    let down : (d + 1) * 2 ^ h ≡ d * 2 ^ h + 2 ^ h = omega arith in
    record { narrow = omega (arith, across); low = omega (arith, down); left = omega arith; right = omega arith; upper = omega arith; lower = omega arith }

-- what holds of the place of a code-block
pub record IsBlockPlace (k : Coding) (band b : Rect) : Type 0 where
  pub wide : b.x0 < b.x1
  pub high : b.y0 < b.y1
  pub narrow : columns_of b ≤ 2 ^ k.xcb
  pub low : rows_of b ≤ 2 ^ k.ycb
  pub left : band.x0 ≤ b.x0
  pub right : b.x1 ≤ band.x1
  pub upper : band.y0 ≤ b.y0
  pub lower : b.y1 ≤ band.y1

pub block_place : (a : Rect) (k : Coding) (r n i j : ℕ) → j < block_number (grid_at a k r n i) → IsBlockPlace k (band_area a k.levels r (orientation_at r i)) (block_at_place a k r n i j)
block_place a k r n i j lt =
    let g = grid_at a k r n i in
    let band = band_area a k.levels r (orientation_at r i) in
    let cut : IsCut g.area (block_area g j) g.width g.height = subst (λ (b : Rect). IsCut g.area b g.width g.height) (sym (block_is g j)) (cut_is g.area (g.column + j % g.across) (g.row + j / g.across) g.width g.height) in
    let area : g.area ≡ part_of a k r n i = ap (λ (x : BlockGrid). x.area) (grid_is a k r n i) ∙ grid_area _ _ _ in
    let width : g.width ≡ min k.xcb (part_width k r) = ap (λ (x : BlockGrid). x.width) (grid_is a k r n i) ∙ grid_width _ _ _ in
    let height : g.height ≡ min k.ycb (part_height k r) = ap (λ (x : BlockGrid). x.height) (grid_is a k r n i) ∙ grid_height _ _ _ in
    let outer : IsCut band g.area (part_width k r) (part_height k r) = subst (λ (b : Rect). IsCut band b (part_width k r) (part_height k r)) (sym (area ∙ part_is a k r n i)) (cut_is band (precinct_column a k r n) (precinct_row a k r n) (part_width k r) (part_height k r)) in
    let b = block_at_place a k r n i j in
    let some : (leb b.x1 b.x0 ≡ false) × (leb b.y1 b.y0 ≡ false) = or_parts (leb b.x1 b.x0) (leb b.y1 b.y0) (blocks_some a k r n j (orientation_at r i) lt) in
    let few_across : 2 ^ g.width ≤ 2 ^ k.xcb = pow_mono (omega (arith, width)) in
    let few_down : 2 ^ g.height ≤ 2 ^ k.ycb = pow_mono (omega (arith, height)) in
    record {
      wide = leb-false b.x1 b.x0 some.0;
      high = leb-false b.y1 b.y0 some.1;
      narrow = omega (arith, cut.narrow, few_across);
      low = omega (arith, cut.low, few_down);
      left = omega (arith, cut.left, outer.left);
      right = omega (arith, cut.right, outer.right);
      upper = omega (arith, cut.upper, outer.upper);
      lower = omega (arith, cut.lower, outer.lower);
    }

-- its shape is one of the profile
pub block_is_shape : (a : Rect) (k : Coding) (r n i j : ℕ) → IsCoding k → j < block_number (grid_at a k r n i) → IsBlockShape (block_shape a k r n i j)
block_is_shape a k r n i j coding lt =
    let p = block_place a k r n i j lt in
    let b = block_at_place a k r n i j in
    let wide = p.wide in let high = p.high in
    let x_most : 2 ^ k.xcb ≤ 2 ^ 10 = pow_mono coding.wide in
    let y_most : 2 ^ k.ycb ≤ 2 ^ 10 = pow_mono coding.high in
    let both : 2 ^ (k.xcb + k.ycb) ≤ 2 ^ 12 = pow_mono coding.area in
    let product : columns_of b * rows_of b ≤ 2 ^ k.xcb * 2 ^ k.ycb = mul-le-mul p.narrow p.low in
    record {
      wide = omega (arith, wide);
      narrow = omega (arith, p.narrow, x_most);
      high = omega (arith, high);
      low = omega (arith, p.low, y_most);
      area = omega (arith, product, both, pow-add 2 k.xcb k.ycb);
    }

-- it is a part of its sub-band
pub block_is_part : (a : Rect) (k : Coding) (r n i j : ℕ) → j < block_number (grid_at a k r n i) → IsPartOf (block_at_place a k r n i j) (band_area a k.levels r (orientation_at r i))
block_is_part a k r n i j lt =
    let p = block_place a k r n i j lt in
    record { left = p.left; across = omega (arith, p.wide); right = p.right; upper = p.upper; down = omega (arith, p.high); lower = p.lower }

-- ---- coefficients

-- the code-block that has a place
pub block_found : (a : Rect) (k : Coding) (r i x y : ℕ) → IsCoding k → r ≤ k.levels → i < length (orientations r) → IsWithin (band_area a k.levels r (orientation_at r i)) x y
    → BlockHolds a k r (orientation_at r i) (precinct_of a k r x y) (block_with a k r (precinct_of a k r x y) i x y) x y
block_found a k r i x y coding few lt h =
    let o = orientation_at r i in
    let n = precinct_of a k r x y in
    let found = precinct_found a k r o x y coding few (is_band r i lt) h in
    let held = subst (λ (g : BlockGrid). (block_with a k r n i x y < block_number g) × IsWithin (block_area g (block_with a k r n i x y)) x y) (sym (grid_is a k r n i))
    (grid_found (part_of a k r n i) (min k.xcb (part_width k r)) (min k.ycb (part_height k r)) x y found.1) in
    record { precinct = found.0; block = held.0; place = held.1 }

pub coefficient_by : (a : Rect) (k : Coding) (bodies : ℕ → ℕ → List Body) (b x y : ℕ) → coefficient_at a k bodies b x y
    ≡ block_value a k (band_resolution b) (precinct_of a k (band_resolution b) x y) (band_index b) (block_with a k (band_resolution b) (precinct_of a k (band_resolution b) x y) (band_index b) x y) (bodies (band_resolution b) (precinct_of a k (band_resolution b) x y)) x y
unfolding coefficient_at
coefficient_by a k bodies b x y = refl

-- The coefficient at a place of a code-block is that of the code-block.
pub coefficient_is : (a : Rect) (k : Coding) (bodies : ℕ → ℕ → List Body) (r n i j x y : ℕ) → IsCoding k → r ≤ k.levels → i < length (orientations r) → n < precinct_number a k r
    → j < block_number (grid_at a k r n i) → IsWithin (block_at_place a k r n i j) x y → coefficient_at a k bodies (band_number r i) x y ≡ block_value a k r n i j (bodies r n) x y
coefficient_is a k bodies r n i j x y coding few lt precinct block h =
    let o = orientation_at r i in
    let holds : BlockHolds a k r o n j x y = record { precinct = precinct; block = block; place = h } in
    let found = block_found a k r i x y coding few lt (blocks_inside a k r o n j x y holds) in
    let one = blocks_one a k r o (precinct_of a k r x y) (block_with a k r (precinct_of a k r x y) i x y) n j x y found holds in
    coefficient_by a k bodies (band_number r i) x y
    ∙ ap (λ s. block_value a k s (precinct_of a k s x y) (band_index (band_number r i)) (block_with a k s (precinct_of a k s x y) (band_index (band_number r i)) x y) (bodies s (precinct_of a k s x y)) x y) (resolution_is r i lt)
    ∙ ap (λ s. block_value a k r (precinct_of a k r x y) s (block_with a k r (precinct_of a k r x y) s x y) (bodies r (precinct_of a k r x y)) x y) (index_is r i lt)
    ∙ ap (λ s. block_value a k r (precinct_of a k r x y) i s (bodies r (precinct_of a k r x y)) x y) one.1
    ∙ ap (λ s. block_value a k r s i j (bodies r s) x y) one.0
