-- A precinct's part of a sub-band has few code-blocks.
use Rattle.std.proofs.Common.{◌≡◌, ℕ, ◌+◌, ◌-◌, ◌*◌, ◌/◌, ◌^◌, ◌<◌, ◌≤◌, ◌⊎◌, inl, inr, min, max, Bool, true, false, refl, ap, sym, ◌∙◌, subst, arith}
use Rattle.std.specs.Prelude.{nat_lt}
use Rattle.std.proofs.Math.Nat.{pow-le-pow_right}
use Rattle.std.proofs.lemmas.Nat.{pow_pos, pow-add, le-div}
use Rattle.std.proofs.lemmas.Bool.{cases_lt, lt-ltb, le-ltb}
use Rattle.jk_math.specs.declared.rect.Rect.{Rect}
use Rattle.jk_marks.specs.declared.coding.Coding.{Coding}
use Rattle.jk_marks.specs.Coding.{IsCoding, precinct_size}
use Rattle.jk_math.specs.declared.orientation.Orientation.{Orientation}
use Rattle.jk_geom.specs.declared.grid.BlockGrid.{BlockGrid}
use Rattle.jk_geom.specs.Rectangles.{ceil_div, is_empty, meet, cell, band_area}
use Rattle.jk_geom.specs.Precincts.{precinct_column, precinct_row, band_exponent, part_width, part_height, precinct_area}
use Rattle.jk_geom.specs.Blocks.{grid_of, block_grid}
use Rattle.jk_geom.proofs.Ceilings.{ceil_least}
use Rattle.jk_geom.proofs.GridLaws.{grid_empty, grid_full}

-- the cells of 2^w places in a stretch of one cell of 2^p places
few_cells : (c lo hi p w : ℕ) → w ≤ p → c * 2 ^ p ≤ lo → hi ≤ (c + 1) * 2 ^ p → ceil_div hi (2 ^ w) - lo / 2 ^ w ≤ 2 ^ (p - w)
few_cells c lo hi p w le from to =
    let k = 2 ^ (p - w) in
    let power : 2 ^ p ≡ k * 2 ^ w = ap (λ n. 2 ^ n) (let is : p ≡ (p - w) + w = omega (arith, le) in is) ∙ pow-add 2 (p - w) w in
    let first : c * 2 ^ p ≡ c * k * 2 ^ w = ap (λ n. c * n) power ∙ omega arith in
    let last : (c + 1) * 2 ^ p ≡ (c + 1) * k * 2 ^ w = ap (λ n. (c + 1) * n) power ∙ omega arith in
    let low : c * k ≤ lo / 2 ^ w = le-div (c * k) lo (2 ^ w) (pow_pos w) (omega (arith, first, from)) in
    let high : ceil_div hi (2 ^ w) ≤ (c + 1) * k = ceil_least hi (2 ^ w) ((c + 1) * k) (pow_pos w) (omega (arith, last, to)) in
    let more : (c + 1) * k ≡ c * k + k = omega arith in
    omega (arith, low, high, more)

-- a side of a code-block is at least 4 places, or that of the part
few_side : (c lo hi p e : ℕ) → 2 ≤ e → p ≤ 15 → c * 2 ^ p ≤ lo → hi ≤ (c + 1) * 2 ^ p → ceil_div hi (2 ^ min e p) - lo / 2 ^ min e p ≤ 2 ^ 13
few_side c lo hi p e some few from to =
    let w = min e p in
    let le : w ≤ p = omega arith in
    let near : p - w ≤ 13 = omega arith in
    let cells = few_cells c lo hi p w le from to in
    let small : 2 ^ (p - w) ≤ 2 ^ 13 = pow-le-pow_right (omega arith) near in
    omega (arith, cells, small)

part_exponent : (e r : ℕ) → e < 16 → band_exponent e r ≤ 15
part_exponent e r few = by (cases_lt 0 r)
  where
    by : (0 < r) ⊎ (r ≤ 0) → band_exponent e r ≤ 15
    by (inl some) = rw (lt-ltb 0 r some) (omega (arith, few))
    by (inr none) = rw (le-ltb 0 r none) (omega (arith, few))

part_is_cell : (a : Rect) (k : Coding) (r n : ℕ) (o : Orientation)
    → precinct_area a k r n o ≡ meet (cell (precinct_column a k r n) (precinct_row a k r n) (part_width k r) (part_height k r)) (band_area a k.levels r o)
unfolding precinct_area
part_is_cell a k r n o = refl

-- the full grid of a part
few_full : (a : Rect) (c d p q xcb ycb : ℕ) → 2 ≤ xcb → 2 ≤ ycb → p ≤ 15 → q ≤ 15 → c * 2 ^ p ≤ a.x0 → a.x1 ≤ (c + 1) * 2 ^ p → d * 2 ^ q ≤ a.y0 → a.y1 ≤ (d + 1) * 2 ^ q
    → ((grid_of a (min xcb p) (min ycb q)).across ≤ 2 ^ 13) × ((grid_of a (min xcb p) (min ycb q)).down ≤ 2 ^ 13)
few_full a c d p q xcb ycb sx sy fp fq left right upper lower = by (is_empty a) refl
  where
    w : ℕ
    w = min xcb p

    h : ℕ
    h = min ycb q

    by : (b : Bool) → is_empty a ≡ b → ((grid_of a (min xcb p) (min ycb q)).across ≤ 2 ^ 13) × ((grid_of a (min xcb p) (min ycb q)).down ≤ 2 ^ 13)
    by true e =
        subst (λ (g : BlockGrid). (g.across ≤ 2 ^ 13) × (g.down ≤ 2 ^ 13)) (sym (grid_empty a (min xcb p) (min ycb q) e)) (omega arith, omega arith)
    by false e =
        subst (λ (g : BlockGrid). (g.across ≤ 2 ^ 13) × (g.down ≤ 2 ^ 13)) (sym (grid_full a (min xcb p) (min ycb q) e))
        (few_side c a.x0 a.x1 p xcb sx fp left right, few_side d a.y0 a.y1 q ycb sy fq upper lower)

pub few_blocks : (a : Rect) (k : Coding) (r n : ℕ) (o : Orientation) → IsCoding k → r ≤ k.levels
    → ((block_grid a k r n o).across ≤ 2 ^ 13) × ((block_grid a k r n o).down ≤ 2 ^ 13)
unfolding block_grid
few_blocks a k r n o is few =
    let band = band_area a k.levels r o in
    let c = precinct_column a k r n in
    let d = precinct_row a k r n in
    let part = meet (cell c d (part_width k r) (part_height k r)) band in
    let sizes = is.small r few in
    let narrow = part_exponent (precinct_size k r).0 r sizes.0 in
    let low = part_exponent (precinct_size k r).1 r sizes.1 in
    let all = few_full part c d (part_width k r) (part_height k r) k.xcb k.ycb is.narrow is.low narrow low (omega arith) (omega arith) (omega arith) (omega arith) in
    subst (λ (p : Rect). ((grid_of p (min k.xcb (part_width k r)) (min k.ycb (part_height k r))).across ≤ 2 ^ 13) × ((grid_of p (min k.xcb (part_width k r)) (min k.ycb (part_height k r))).down ≤ 2 ^ 13))
    (sym (part_is_cell a k r n o)) all
