-- Each place of a sub-band is in one code-block of one precinct, and no code-block is empty.
use Rattle.std.proofs.Common.{◌≡◌, ℕ, ◌+◌, ◌-◌, ◌*◌, ◌/◌, ◌%◌, ◌^◌, ◌<◌, ◌≤◌, min, Bool, true, false, refl, ap, sym, ◌∙◌, subst, arith}
use Rattle.std.proofs.lemmas.Nat.{pow_pos, mul-add-lt, div-mul-add, mod-mul-add}
use Rattle.std.proofs.lemmas.Bool.{lt-ltb, le-ltb, leb-false, or_parts}
use Rattle.jk_math.specs.declared.rect.Rect.{Rect}
use Rattle.jk_marks.specs.declared.coding.Coding.{Coding}
use Rattle.jk_marks.specs.Coding.{IsCoding, precinct_size}
use Rattle.jk_math.specs.declared.orientation.Orientation.{Orientation}
use Rattle.jk_math.specs.declared.orientation.Orientation.TheVariants.{LL, HL, LH, HH}
use Rattle.jk_geom.specs.declared.grid.BlockGrid.{BlockGrid}
use Rattle.jk_geom.specs.Rectangles.{ceil_div, is_empty, IsWithin, meet, cell, across_offset, down_offset, resolution_area, band_area}
use Rattle.jk_geom.specs.Precincts.{span, precincts_across, precincts_down, precinct_number, precinct_column, precinct_row, band_exponent, part_width, part_height, precinct_area}
use Rattle.jk_geom.specs.Blocks.{grid_of, block_grid, block_area, no_blocks}
use Rattle.jk_geom.specs.Partitions.{IsBand, woven_area, woven_x, woven_y, block_number, BlockHolds, block_of, precinct_of}
use Rattle.jk_geom.proofs.Ceilings.{raster_column, raster_row}
use Rattle.jk_geom.proofs.GridLaws.{full_grid, grid_empty, grid_full}
use Rattle.jk_geom.proofs.Cells.{ceil_above, cell_to, cell_after, cell_before, span_some, half_cell, raster_one, within_cell, IsCellOf, cell_within, within_some, sides_some}
use Rattle.jk_geom.proofs.Weaving.{woven}

-- ---- the code-blocks of a rectangle

block_is : (g : BlockGrid) (i : ℕ) → block_area g i ≡ meet (cell (g.column + i % g.across) (g.row + i / g.across) g.width g.height) g.area
unfolding block_area
block_is g i = refl

-- in the full grid of a rectangle
full_found : (a : Rect) (w h x y : ℕ) → IsWithin a x y
    → (block_of a w h x y < block_number (full_grid a w h)) × IsWithin (block_area (full_grid a w h) (block_of a w h x y)) x y
full_found a w h x y is =
    let pw = pow_pos w in
    let ph = pow_pos h in
    let n = ceil_div a.x1 (2 ^ w) - a.x0 / 2 ^ w in
    let m = ceil_div a.y1 (2 ^ h) - a.y0 / 2 ^ h in
    let c = x / 2 ^ w - a.x0 / 2 ^ w in
    let r = y / 2 ^ h - a.y0 / 2 ^ h in
    let after_x = cell_after a.x0 x (2 ^ w) pw is.left in
    let after_y = cell_after a.y0 y (2 ^ h) ph is.upper in
    let before_x = cell_before a.x1 x (2 ^ w) pw is.right in
    let before_y = cell_before a.y1 y (2 ^ h) ph is.lower in
    let few_x : c < n = omega arith in
    let few_y : r < m = omega arith in
    let i = block_of a w h x y in
    let column : i % n ≡ c = mod-mul-add r n c few_x in
    let row : i / n ≡ r = div-mul-add r n c few_x in
    let hc : a.x0 / 2 ^ w + i % n ≡ x / 2 ^ w = omega arith in
    let hr : a.y0 / 2 ^ h + i / n ≡ y / 2 ^ h = omega arith in (
      mul-add-lt r n c m few_y few_x,
      subst (λ (b : Rect). IsWithin b x y) (sym (block_is (full_grid a w h) i)) (within_cell a (a.x0 / 2 ^ w + i % n) (a.y0 / 2 ^ h + i / n) w h x y hc hr is),
    )

pub grid_found : (a : Rect) (w h x y : ℕ) → IsWithin a x y
    → (block_of a w h x y < block_number (grid_of a w h)) × IsWithin (block_area (grid_of a w h) (block_of a w h x y)) x y
grid_found a w h x y is =
    subst (λ (g : BlockGrid). (block_of a w h x y < block_number g) × IsWithin (block_area g (block_of a w h x y)) x y)
    (sym (grid_full a w h (within_some a x y is))) (full_found a w h x y is)

-- a code-block's places are in its own cell of the rectangle
grid_cell : (g : BlockGrid) (i x y : ℕ) → IsWithin (block_area g i) x y → IsCellOf g.area (g.column + i % g.across) (g.row + i / g.across) g.width g.height x y
grid_cell g i x y is = cell_within g.area (g.column + i % g.across) (g.row + i / g.across) g.width g.height x y (subst (λ (b : Rect). IsWithin b x y) (block_is g i) is)

pub block_one : (g : BlockGrid) (i j x y : ℕ) → IsWithin (block_area g i) x y → IsWithin (block_area g j) x y → i ≡ j
block_one g i j x y a b =
    let first = grid_cell g i x y a in
    let second = grid_cell g j x y b in
    let column : g.column + i % g.across ≡ g.column + j % g.across = first.column ∙ sym second.column in
    let row : g.row + i / g.across ≡ g.row + j / g.across = first.row ∙ sym second.row in
    raster_one i j g.across (omega arith) (omega arith)

grid_rect : (a : Rect) (w h : ℕ) → (grid_of a w h).area ≡ a
grid_rect a w h = by (is_empty a) refl
  where
    by : (b : Bool) → is_empty a ≡ b → (grid_of a w h).area ≡ a
    by true e = ap (λ (g : BlockGrid). g.area) (grid_empty a w h e)
    by false e = ap (λ (g : BlockGrid). g.area) (grid_full a w h e)

pub block_inside : (a : Rect) (w h i x y : ℕ) → IsWithin (block_area (grid_of a w h) i) x y → IsWithin a x y
block_inside a w h i x y is = subst (λ (b : Rect). IsWithin b x y) (grid_rect a w h) (grid_cell (grid_of a w h) i x y is).within

-- no code-block is empty
full_some : (a : Rect) (w h i : ℕ) → is_empty a ≡ false → i < block_number (full_grid a w h) → is_empty (block_area (full_grid a w h) i) ≡ false
full_some a w h i e few =
    let pw = pow_pos w in
    let ph = pow_pos h in
    let n = ceil_div a.x1 (2 ^ w) - a.x0 / 2 ^ w in
    let m = ceil_div a.y1 (2 ^ h) - a.y0 / 2 ^ h in
    let parts = or_parts _ _ e in
    let wide : a.x0 < a.x1 = leb-false a.x1 a.x0 parts.0 in
    let high : a.y0 < a.y1 = leb-false a.y1 a.y0 parts.1 in
    let c = i % n in
    let r = i / n in
    let few_x : c < n = raster_column i n m few in
    let few_y : r < m = raster_row i n m few in
    let x_end : (a.x0 / 2 ^ w + c) * 2 ^ w < a.x1 = ceil_above a.x1 (2 ^ w) (a.x0 / 2 ^ w + c) pw (omega arith) in
    let y_end : (a.y0 / 2 ^ h + r) * 2 ^ h < a.y1 = ceil_above a.y1 (2 ^ h) (a.y0 / 2 ^ h + r) ph (omega arith) in
    let x_first : a.x0 < (a.x0 / 2 ^ w + 1) * 2 ^ w = cell_to a.x0 (2 ^ w) pw in
    let y_first : a.y0 < (a.y0 / 2 ^ h + 1) * 2 ^ h = cell_to a.y0 (2 ^ h) ph in
    let x_next : (a.x0 / 2 ^ w + c + 1) * 2 ^ w ≡ (a.x0 / 2 ^ w + 1) * 2 ^ w + c * 2 ^ w = omega arith in
    let y_next : (a.y0 / 2 ^ h + r + 1) * 2 ^ h ≡ (a.y0 / 2 ^ h + 1) * 2 ^ h + r * 2 ^ h = omega arith in
    let x_more : (a.x0 / 2 ^ w + c + 1) * 2 ^ w ≡ (a.x0 / 2 ^ w + c) * 2 ^ w + 2 ^ w = omega arith in
    let y_more : (a.y0 / 2 ^ h + r + 1) * 2 ^ h ≡ (a.y0 / 2 ^ h + r) * 2 ^ h + 2 ^ h = omega arith in
    subst (λ (b : Rect). is_empty b ≡ false) (sym (block_is (full_grid a w h) i))
    (sides_some (meet (cell (a.x0 / 2 ^ w + c) (a.y0 / 2 ^ h + r) w h) a) (omega arith) (omega arith))

pub block_some : (a : Rect) (w h i : ℕ) → i < block_number (grid_of a w h) → is_empty (block_area (grid_of a w h) i) ≡ false
block_some a w h i few = by (is_empty a) refl
  where
    by : (b : Bool) → is_empty a ≡ b → is_empty (block_area (grid_of a w h) i) ≡ false
    by true e =
        let none : i < block_number (no_blocks a w h) = subst (λ (g : BlockGrid). i < block_number g) (grid_empty a w h e) few in
        absurd (omega arith)
    by false e =
        subst (λ (g : BlockGrid). is_empty (block_area g i) ≡ false) (sym (grid_full a w h e))
        (full_some a w h i e (subst (λ (g : BlockGrid). i < block_number g) (grid_full a w h e) few))

-- ---- the precincts of a resolution

-- a place of a sub-band lies in the resolution, in the precinct of the same cell
pub record IsSeen (lo hi e u part : ℕ) : Type 0 where
  pub seen : ℕ
  pub left : lo ≤ seen
  pub right : seen < hi
  pub same : seen / 2 ^ e ≡ u / 2 ^ part

same_exponent : (e r : ℕ) → r ≡ 0 → band_exponent e r ≡ e
same_exponent e r h = rw (le-ltb 0 r (omega arith)) refl

half_exponent : (e r : ℕ) → 0 < r → band_exponent e r ≡ e - 1
half_exponent e r h = rw (lt-ltb 0 r h) refl

record IsSeenPlace (a : Rect) (k : Coding) (r x y : ℕ) : Type 0 where
  pub across : IsSeen (resolution_area a k.levels r).x0 (resolution_area a k.levels r).x1 (precinct_size k r).0 x (part_width k r)
  pub down : IsSeen (resolution_area a k.levels r).y0 (resolution_area a k.levels r).y1 (precinct_size k r).1 y (part_height k r)

-- where the sub-band is LL
seen_low : (a : Rect) (k : Coding) (r x y : ℕ) → r ≡ 0 → IsWithin (resolution_area a k.levels 0) x y → IsSeenPlace a k r x y
seen_low a k r x y none is =
    let at : IsWithin (resolution_area a k.levels r) x y = subst (λ q. IsWithin (resolution_area a k.levels q) x y) (sym none) is in
    record {
      across = record { seen = x; left = at.left; right = at.right; same = ap (λ e. x / 2 ^ e) (sym (same_exponent (precinct_size k r).0 r none)) };
      down = record { seen = y; left = at.upper; right = at.lower; same = ap (λ e. y / 2 ^ e) (sym (same_exponent (precinct_size k r).1 r none)) };
    }

-- where it is another one
seen_high : (a : Rect) (k : Coding) (r : ℕ) (o : Orientation) (x y : ℕ) → IsCoding k → 0 < r → r ≤ k.levels → across_offset o ≤ 1 → down_offset o ≤ 1
    → IsWithin (resolution_area a k.levels r) (woven_x o x) (woven_y o y) → IsSeenPlace a k r x y
seen_high a k r o x y coding some few bx by is =
    let whole = coding.whole r some few in
    record {
      across = record {
        seen = woven_x o x;
        left = is.left;
        right = is.right;
        same = half_cell x (across_offset o) (precinct_size k r).0 bx whole.0 ∙ ap (λ e. x / 2 ^ e) (sym (half_exponent (precinct_size k r).0 r some));
      };
      down = record {
        seen = woven_y o y;
        left = is.upper;
        right = is.lower;
        same = half_cell y (down_offset o) (precinct_size k r).1 by whole.1 ∙ ap (λ e. y / 2 ^ e) (sym (half_exponent (precinct_size k r).1 r some));
      };
    }

-- the resolution's place of a place of a sub-band that isn't LL
band_place : (a : Rect) (k : Coding) (r : ℕ) (o : Orientation) (x y : ℕ) → (woven_area a k.levels (r - 1) o ≡ band_area a k.levels (r - 1 + 1) o) → 0 < r → r ≤ k.levels
    → IsWithin (band_area a k.levels r o) x y → IsWithin (resolution_area a k.levels r) (woven_x o x) (woven_y o y)
band_place a k r o x y same some few is =
    let back : r - 1 + 1 ≡ r = omega arith in
    let at : IsWithin (band_area a k.levels (r - 1 + 1) o) x y = subst (λ q. IsWithin (band_area a k.levels q o) x y) (sym back) is in
    let on : IsWithin (woven_area a k.levels (r - 1) o) x y = subst (λ (b : Rect). IsWithin b x y) (sym same) at in
    let there = (woven a k.levels (r - 1) o x y (omega arith)).1 on in
    subst (λ q. IsWithin (resolution_area a k.levels q) (woven_x o x) (woven_y o y)) back there

low_is : (a : Rect) (levels r : ℕ) → band_area a levels r LL ≡ resolution_area a levels 0
unfolding band_area
low_is a levels r = refl

seen_place : (a : Rect) (k : Coding) (r : ℕ) (o : Orientation) (x y : ℕ) → IsCoding k → r ≤ k.levels → IsBand r o → IsWithin (band_area a k.levels r o) x y → IsSeenPlace a k r x y
seen_place a k r LL x y coding few band is = seen_low a k r x y band (subst (λ (b : Rect). IsWithin b x y) (low_is a k.levels r) is)
seen_place a k r HL x y coding few band is = seen_high a k r HL x y coding band few (omega arith) (omega arith) (band_place a k r HL x y refl band few is)
seen_place a k r LH x y coding few band is = seen_high a k r LH x y coding band few (omega arith) (omega arith) (band_place a k r LH x y refl band few is)
seen_place a k r HH x y coding few band is = seen_high a k r HH x y coding band few (omega arith) (omega arith) (band_place a k r HH x y refl band few is)

-- the precinct's column and row, counted from the first
seen_after : (lo hi e u part : ℕ) → IsSeen lo hi e u part → lo / 2 ^ e ≤ u / 2 ^ part
seen_after lo hi e u part s = subst (λ n. lo / 2 ^ e ≤ n) s.same (cell_after lo s.seen (2 ^ e) (pow_pos e) s.left)

seen_before : (lo hi e u part : ℕ) → IsSeen lo hi e u part → u / 2 ^ part - lo / 2 ^ e < span lo hi e
seen_before lo hi e u part s =
    let less : s.seen / 2 ^ e < ceil_div hi (2 ^ e) = cell_before hi s.seen (2 ^ e) (pow_pos e) s.right in
    let under : u / 2 ^ part < ceil_div hi (2 ^ e) = subst (λ n. n < ceil_div hi (2 ^ e)) s.same less in
    let after = seen_after lo hi e u part s in
    let left = s.left in
    let right = s.right in
    subst (λ n. u / 2 ^ part - lo / 2 ^ e < n) (sym (span_some lo hi e (omega arith))) (omega arith)

part_is_cell : (a : Rect) (k : Coding) (r n : ℕ) (o : Orientation)
    → precinct_area a k r n o ≡ meet (cell (precinct_column a k r n) (precinct_row a k r n) (part_width k r) (part_height k r)) (band_area a k.levels r o)
unfolding precinct_area
part_is_cell a k r n o = refl

pub precinct_found : (a : Rect) (k : Coding) (r : ℕ) (o : Orientation) (x y : ℕ) → IsCoding k → r ≤ k.levels → IsBand r o → IsWithin (band_area a k.levels r o) x y
    → (precinct_of a k r x y < precinct_number a k r) × IsWithin (precinct_area a k r (precinct_of a k r x y) o) x y
unfolding precincts_across precincts_down precinct_column precinct_row
precinct_found a k r o x y coding few band is =
    let area = resolution_area a k.levels r in
    let seen = seen_place a k r o x y coding few band is in
    let w = precincts_across a k r in
    let h = precincts_down a k r in
    let c = x / 2 ^ part_width k r - area.x0 / 2 ^ (precinct_size k r).0 in
    let q = y / 2 ^ part_height k r - area.y0 / 2 ^ (precinct_size k r).1 in
    let few_x : c < w = seen_before area.x0 area.x1 (precinct_size k r).0 x (part_width k r) seen.across in
    let few_y : q < h = seen_before area.y0 area.y1 (precinct_size k r).1 y (part_height k r) seen.down in
    let after_x = seen_after area.x0 area.x1 (precinct_size k r).0 x (part_width k r) seen.across in
    let after_y = seen_after area.y0 area.y1 (precinct_size k r).1 y (part_height k r) seen.down in
    let n = precinct_of a k r x y in
    let column : n % w ≡ c = mod-mul-add q w c few_x in
    let row : n / w ≡ q = div-mul-add q w c few_x in
    let hc : area.x0 / 2 ^ (precinct_size k r).0 + n % w ≡ x / 2 ^ part_width k r = omega arith in
    let hr : area.y0 / 2 ^ (precinct_size k r).1 + n / w ≡ y / 2 ^ part_height k r = omega arith in (
      mul-add-lt q w c h few_y few_x,
      subst (λ (b : Rect). IsWithin b x y) (sym (part_is_cell a k r n o))
          (within_cell (band_area a k.levels r o) (area.x0 / 2 ^ (precinct_size k r).0 + n % w) (area.y0 / 2 ^ (precinct_size k r).1 + n / w) (part_width k r) (part_height k r) x y hc hr is),
    )

precinct_cell : (a : Rect) (k : Coding) (r n : ℕ) (o : Orientation) (x y : ℕ) → IsWithin (precinct_area a k r n o) x y
    → IsCellOf (band_area a k.levels r o) (precinct_column a k r n) (precinct_row a k r n) (part_width k r) (part_height k r) x y
precinct_cell a k r n o x y is =
    cell_within (band_area a k.levels r o) (precinct_column a k r n) (precinct_row a k r n) (part_width k r) (part_height k r) x y (subst (λ (b : Rect). IsWithin b x y) (part_is_cell a k r n o) is)

pub precinct_one : (a : Rect) (k : Coding) (r n m : ℕ) (o : Orientation) (x y : ℕ) → IsWithin (precinct_area a k r n o) x y → IsWithin (precinct_area a k r m o) x y → n ≡ m
unfolding precinct_column precinct_row
precinct_one a k r n m o x y p q =
    let first = precinct_cell a k r n o x y p in
    let second = precinct_cell a k r m o x y q in
    let column : (resolution_area a k.levels r).x0 / 2 ^ (precinct_size k r).0 + n % precincts_across a k r ≡ (resolution_area a k.levels r).x0 / 2 ^ (precinct_size k r).0 + m % precincts_across a k r = first.column ∙ sym second.column in
    let row : (resolution_area a k.levels r).y0 / 2 ^ (precinct_size k r).1 + n / precincts_across a k r ≡ (resolution_area a k.levels r).y0 / 2 ^ (precinct_size k r).1 + m / precincts_across a k r = first.row ∙ sym second.row in
    raster_one n m (precincts_across a k r) (omega arith) (omega arith)

-- ---- the laws

grid_is_of : (a : Rect) (k : Coding) (r n : ℕ) (o : Orientation) → block_grid a k r n o ≡ grid_of (precinct_area a k r n o) (min k.xcb (part_width k r)) (min k.ycb (part_height k r))
unfolding block_grid
grid_is_of a k r n o = refl

pub blocks_cover : (a : Rect) (k : Coding) (r : ℕ) (o : Orientation) (x y : ℕ) → IsCoding k → r ≤ k.levels → IsBand r o → IsWithin (band_area a k.levels r o) x y
    → (n : ℕ) × (i : ℕ) × BlockHolds a k r o n i x y
blocks_cover a k r o x y coding few band is =
    let n = precinct_of a k r x y in
    let found = precinct_found a k r o x y coding few band is in
    let part = precinct_area a k r n o in
    let w = min k.xcb (part_width k r) in
    let h = min k.ycb (part_height k r) in
    let i = block_of part w h x y in
    let held = subst (λ (g : BlockGrid). (i < block_number g) × IsWithin (block_area g i) x y) (sym (grid_is_of a k r n o)) (grid_found part w h x y found.1) in
    (n, i, record { precinct = found.0; block = held.0; place = held.1 })

pub block_part : (a : Rect) (k : Coding) (r : ℕ) (o : Orientation) (n i x y : ℕ) → BlockHolds a k r o n i x y → IsWithin (precinct_area a k r n o) x y
block_part a k r o n i x y b =
    block_inside (precinct_area a k r n o) (min k.xcb (part_width k r)) (min k.ycb (part_height k r)) i x y
    (subst (λ (g : BlockGrid). IsWithin (block_area g i) x y) (grid_is_of a k r n o) b.place)

pub blocks_one : (a : Rect) (k : Coding) (r : ℕ) (o : Orientation) (n i m j x y : ℕ) → BlockHolds a k r o n i x y → BlockHolds a k r o m j x y → (n ≡ m) × (i ≡ j)
blocks_one a k r o n i m j x y b c =
    let same = precinct_one a k r n m o x y (block_part a k r o n i x y b) (block_part a k r o m j x y c) in
    let there : IsWithin (block_area (block_grid a k r n o) j) x y = subst (λ p. IsWithin (block_area (block_grid a k r p o) j) x y) (sym same) c.place in
    (same, block_one (block_grid a k r n o) i j x y b.place there)

pub blocks_inside : (a : Rect) (k : Coding) (r : ℕ) (o : Orientation) (n i x y : ℕ) → BlockHolds a k r o n i x y → IsWithin (band_area a k.levels r o) x y
blocks_inside a k r o n i x y b = (precinct_cell a k r n o x y (block_part a k r o n i x y b)).within

pub blocks_some : (a : Rect) (k : Coding) (r n i : ℕ) (o : Orientation) → i < block_number (block_grid a k r n o) → is_empty (block_area (block_grid a k r n o) i) ≡ false
blocks_some a k r n i o few =
    subst (λ (g : BlockGrid). is_empty (block_area g i) ≡ false) (sym (grid_is_of a k r n o))
    (block_some (precinct_area a k r n o) (min k.xcb (part_width k r)) (min k.ycb (part_height k r)) i (subst (λ (g : BlockGrid). i < block_number g) (grid_is_of a k r n o) few))
