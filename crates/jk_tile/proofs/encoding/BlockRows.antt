-- Rows of the code-blocks of a sub-band: where they end, and how many of the code-blocks of a precinct lie above them.
use Rattle.std.proofs.Common.{◌≡◌, ℕ, ◌+◌, ◌-◌, ◌*◌, ◌/◌, ◌^◌, ◌<◌, ◌≤◌, ◌⊎◌, inl, inr, min, true, false, Bool, leb, cond, refl, sym, ap, subst, ◌∙◌, arith}
use Rattle.std.proofs.Math.Nat.{mul-le-mul_right, mul_comm}
use Rattle.std.proofs.lemmas.Bool.{cases_lt, le-leb, lt-leb, leb-false, or_parts}
use Rattle.std.proofs.lemmas.Nat.{pow_pos, pow-add, div_below}
use Rattle.jk_math.specs.declared.rect.Rect.{Rect}
use Rattle.jk_marks.specs.declared.coding.Coding.{Coding}
use Rattle.jk_geom.specs.declared.grid.BlockGrid.{BlockGrid}
use Rattle.jk_geom.specs.Rectangles.{ceil_div, is_empty, meet, cell, band_area}
use Rattle.jk_geom.specs.Precincts.{precinct_area, precinct_column, precinct_row, part_width, part_height}
use Rattle.jk_geom.specs.Partitions.{block_number}
use Rattle.jk_geom.proofs.Ceilings.{ceil_covers, ceil_least}
use Rattle.jk_geom.proofs.Cells.{above_ceil, cell_from, cell_to, cell_one, div_mono}
use Rattle.jk_geom.proofs.GridLaws.{full_grid, grid_empty, grid_full}
use Rattle.jk_tile.specs.TileBlocks.{orientation_at, grid_at}
use Rattle.jk_tile.specs.decoding.Strips.{block_exponent}
use Rattle.jk_tile.specs.encoding.Strips.{row_end, blocks_above}
use Rattle.jk_tile.proofs.Places.{grid_is, grid_area, grid_height}
use Rattle.jk_tile.proofs.decoding.StripLaws.{exponent_is}

-- how many rows of code-blocks of a grid end above row y
abbrev pub rows_over : BlockGrid → ℕ → ℕ
rows_over g y = cond (leb g.area.y1 y) g.down (y / 2 ^ g.height - g.row)

-- what is known of the rows of a grid that has code-blocks: those of its area, which is cut out of a sub-band with rows
-- from b0 up to b1 and ends with that or between two rows of code-blocks
pub record HasRows (p b0 b1 a0 a1 row down : ℕ) : Type 0 where
  pub some : 0 < p
  pub first : row ≡ a0 / p
  pub last : row + down ≡ ceil_div a1 p
  pub high : a0 < a1
  pub upper : b0 ≤ a0
  pub lower : a1 ≤ b1
  pub end : (a1 ≡ b1) ⊎ (a1 ≡ a1 / p * p)

-- a whole number of rows has as many as it has
whole_rows : (a p : ℕ) → 0 < p → a ≡ a / p * p → ceil_div a p ≡ a / p
whole_rows a p some whole =
    let least : ceil_div a p ≤ a / p = ceil_least a p (a / p) some (omega (arith, whole)) in
    let covers = ceil_covers a p some in
    let reach : a / p ≤ ceil_div a p = over (a / p) (ceil_div a p) p some (omega (arith, whole, covers)) in
    omega (arith, least, reach)
  where
    over : (m n p : ℕ) → 0 < p → m * p ≤ n * p → m ≤ n
    over m n p some le = elim (cases_lt n m) [
      | inl less ↦ let more : (n + 1) * p ≤ m * p = mul-le-mul_right p (omega (arith, less)) in let one : (n + 1) * p ≡ n * p + p = omega arith in absurd (omega (arith, more, one, le, some))
      | inr ge ↦ ge
    ]

-- the row of code-blocks in which row y stands is one of the grid's: y lies above the end of the grid
pub row_inside : (p b0 b1 a0 a1 row down y : ℕ) → HasRows p b0 b1 a0 a1 row down → y < b1 → y / p < row + down → y < a1
row_inside p b0 b1 a0 a1 row down y is less within = elim (cases_lt y a1) [
  | inl above ↦ above
  | inr past ↦ elim is.end [
    | inl e ↦ absurd (omega (arith, e, past, less))
    | inr whole ↦
        let same = whole_rows a1 p is.some whole in
        let last = is.last in
        let one : (y / p + 1) * p ≤ a1 / p * p = mul-le-mul_right p (omega (arith, within, last, same)) in
        let to = cell_to y p is.some in
        absurd (omega (arith, one, to, whole, past))
  ]
]

-- the next row of code-blocks
pub end_inside : (p b0 b1 a0 a1 row down y t : ℕ) → HasRows p b0 b1 a0 a1 row down → y < b1 → y / p < row + down → t ≡ min b1 ((y / p + 1) * p) → a1 ≤ t → row + down ≡ y / p + 1
end_inside p b0 b1 a0 a1 row down y t is less within at all =
    let last = is.last in
    let least : ceil_div a1 p ≤ y / p + 1 = ceil_least a1 p (y / p + 1) is.some (omega (arith, at, all)) in
    omega (arith, last, least, within)

pub end_whole : (p b0 b1 a0 a1 row down y t : ℕ) → HasRows p b0 b1 a0 a1 row down → t ≡ min b1 ((y / p + 1) * p) → t < a1 → t / p ≡ y / p + 1
end_whole p b0 b1 a0 a1 row down y t is at less =
    let lower = is.lower in
    let whole : t ≡ (y / p + 1) * p = omega (arith, at, less, lower) in
    let some = is.some in
    let next : (y / p + 1 + 1) * p ≡ (y / p + 1) * p + p = omega arith in
    sym (cell_one (y / p + 1) t p is.some (omega (arith, whole)) (omega (arith, whole, next, some)))

-- of a row above the grid
pub row_above : (p b0 b1 a0 a1 row down y t : ℕ) → HasRows p b0 b1 a0 a1 row down → y / p < row → t ≡ min b1 ((y / p + 1) * p) → (y < a1) × (t < a1) × (t / p ≤ row)
row_above p b0 b1 a0 a1 row down y t is above at =
    let to = cell_to y p is.some in
    let up : (y / p + 1) * p ≤ row * p = mul-le-mul_right p (omega (arith, above)) in
    let from = cell_from a0 p in
    let same : row * p ≡ a0 / p * p = ap (λ n. n * p) is.first in
    let high = is.high in
    let low : t ≤ row * p = omega (arith, at, up) in
    let some = is.some in
    let wide : (row + 1) * p ≡ row * p + p = omega arith in
    let under : t / p < row + 1 = div_below t p (row + 1) is.some (omega (arith, low, wide, some)) in
    (omega (arith, to, up, from, same, high), omega (arith, low, from, same, high), omega (arith, under))

-- of a row below it
pub row_below : (p b0 b1 a0 a1 row down y t : ℕ) → HasRows p b0 b1 a0 a1 row down → y < b1 → row + down ≤ y / p → t ≡ min b1 ((y / p + 1) * p) → (a1 ≤ y) × (a1 ≤ t)
row_below p b0 b1 a0 a1 row down y t is less below at =
    let covers = ceil_covers a1 p is.some in
    let last = is.last in
    let up : ceil_div a1 p * p ≤ y / p * p = mul-le-mul_right p (omega (arith, last, below)) in
    let from = cell_from y p in
    let to = cell_to y p is.some in
    (omega (arith, covers, up, from), omega (arith, covers, up, from, at, to, less))

-- ---- the grids of a sub-band

-- the part of a sub-band that belongs to precinct n
abbrev pub part_at : Rect → Coding → (r n i : ℕ) → Rect
part_at a k r n i = precinct_area a k r n (orientation_at r i)

part_is : (a : Rect) (k : Coding) (r n i : ℕ) → part_at a k r n i ≡ meet (cell (precinct_column a k r n) (precinct_row a k r n) (part_width k r) (part_height k r)) (band_area a k.levels r (orientation_at r i))
unfolding precinct_area
part_is a k r n i = refl

-- how high its code-blocks are
pub grid_high : (a : Rect) (k : Coding) (r n i : ℕ) → (grid_at a k r n i).height ≡ block_exponent k r
grid_high a k r n i = ap (λ (g : BlockGrid). g.height) (grid_is a k r n i) ∙ grid_height _ _ _ ∙ sym (exponent_is k r)

grid_part : (a : Rect) (k : Coding) (r n i : ℕ) → (grid_at a k r n i).area ≡ part_at a k r n i
grid_part a k r n i = ap (λ (g : BlockGrid). g.area) (grid_is a k r n i) ∙ grid_area _ _ _

-- an empty part has no code-block
pub none_across : (a : Rect) (k : Coding) (r n i : ℕ) → is_empty (part_at a k r n i) ≡ true → (grid_at a k r n i).across ≡ 0
none_across a k r n i none = ap (λ (g : BlockGrid). g.across) (grid_is a k r n i ∙ grid_empty (part_at a k r n i) (min k.xcb (part_width k r)) (min k.ycb (part_height k r)) none)

-- any other has rows of them
multiple : (m e high : ℕ) → e ≤ high → m * 2 ^ high ≡ m * 2 ^ high / 2 ^ e * 2 ^ e
multiple m e high le =
    let split : high ≡ high - e + e = omega (arith, le) in
    let power : m * 2 ^ high ≡ m * 2 ^ (high - e) * 2 ^ e = ap (λ x. m * 2 ^ x) split ∙ ap (λ x. m * x) (pow-add 2 (high - e) e) ∙ (let turn : m * (2 ^ (high - e) * 2 ^ e) ≡ m * 2 ^ (high - e) * 2 ^ e = grind arith in turn) in
    let some = pow_pos e in
    let next : (m * 2 ^ (high - e) + 1) * 2 ^ e ≡ m * 2 ^ (high - e) * 2 ^ e + 2 ^ e = omega arith in
    let whole : m * 2 ^ (high - e) ≡ m * 2 ^ high / 2 ^ e = cell_one (m * 2 ^ (high - e)) (m * 2 ^ high) (2 ^ e) some (omega (arith, power)) (omega (arith, power, next, some)) in
    power ∙ ap (λ x. x * 2 ^ e) whole

pub some_rows : (a : Rect) (k : Coding) (r n i : ℕ) → is_empty (part_at a k r n i) ≡ false → (let g = grid_at a k r n i in let b = band_area a k.levels r (orientation_at r i) in HasRows (2 ^ block_exponent k r) b.y0 b.y1 g.area.y0 g.area.y1 g.row g.down)
some_rows a k r n i some =
    let g = grid_at a k r n i in
    let b = band_area a k.levels r (orientation_at r i) in
    let part = part_at a k r n i in
    let e : ℕ = min k.ycb (part_height k r) in
    let full : g ≡ full_grid part (min k.xcb (part_width k r)) e = grid_is a k r n i ∙ grid_full part (min k.xcb (part_width k r)) e some in
    let area = grid_part a k r n i in
    let sides = or_parts (leb part.x1 part.x0) (leb part.y1 part.y0) some in
    let high : part.y0 < part.y1 = leb-false part.y1 part.y0 sides.1 in
    let exponent = exponent_is k r in
    let row : g.row ≡ g.area.y0 / 2 ^ block_exponent k r = ap (λ (x : BlockGrid). x.row) full ∙ ap (λ (x : Rect). x.y0 / 2 ^ e) (sym area) ∙ ap (λ x. g.area.y0 / 2 ^ x) (sym exponent) in
    let down : g.down ≡ ceil_div g.area.y1 (2 ^ block_exponent k r) - g.area.y0 / 2 ^ block_exponent k r =
    ap (λ (x : BlockGrid). x.down) full ∙ ap (λ (x : Rect). ceil_div x.y1 (2 ^ e) - x.y0 / 2 ^ e) (sym area) ∙ ap (λ x. ceil_div g.area.y1 (2 ^ x) - g.area.y0 / 2 ^ x) (sym exponent) in
    let p = 2 ^ block_exponent k r in
    let from = cell_from g.area.y0 p in
    let tall : g.area.y0 < g.area.y1 = subst (λ (x : Rect). x.y0 < x.y1) (sym area) high in
    let covers = above_ceil g.area.y1 p (g.area.y0 / p) (pow_pos (block_exponent k r)) (omega (arith, from, tall)) in
    let top = ap (λ (x : Rect). x.y0) (area ∙ part_is a k r n i) in
    let bottom = ap (λ (x : Rect). x.y1) (area ∙ part_is a k r n i) in
    record {
      some = pow_pos (block_exponent k r);
      first = row;
      last = omega (arith, row, down, covers);
      high = tall;
      upper = omega (arith, top);
      lower = omega (arith, bottom);
      end = elim (cases_lt ((precinct_row a k r n + 1) * 2 ^ part_height k r) b.y1) [
        | inl less ↦
            let is : g.area.y1 ≡ (precinct_row a k r n + 1) * 2 ^ part_height k r = omega (arith, bottom, less) in
            inr (is ∙ multiple (precinct_row a k r n + 1) (block_exponent k r) (part_height k r) (omega (arith, exponent)) ∙ ap (λ x. x / p * p) (sym is))
        | inr ge ↦ inl (omega (arith, bottom, ge))
      ];
    }

-- ---- how many code-blocks lie above a row

pub all_over : (g : BlockGrid) (y : ℕ) → g.area.y1 ≤ y → rows_over g y ≡ g.down
all_over g y h = ap (λ b. cond b g.down (y / 2 ^ g.height - g.row)) (le-leb g.area.y1 y h)

pub some_over : (g : BlockGrid) (y : ℕ) → y < g.area.y1 → rows_over g y ≡ y / 2 ^ g.height - g.row
some_over g y h = ap (λ b. cond b g.down (y / 2 ^ g.height - g.row)) (lt-leb g.area.y1 y h)

-- of a row of code-blocks of which a precinct has some, and of one of which it has none
record Grows (g : BlockGrid) (y t : ℕ) : Type 0 where
  inside : g.row ≤ y / 2 ^ g.height → y / 2 ^ g.height < g.row + g.down → (rows_over g y ≡ y / 2 ^ g.height - g.row) × (rows_over g t ≡ y / 2 ^ g.height - g.row + 1)
  beside : (y / 2 ^ g.height < g.row) ⊎ (g.row + g.down ≤ y / 2 ^ g.height) → rows_over g t ≡ rows_over g y

grows : (g : BlockGrid) (b0 b1 y t : ℕ) → HasRows (2 ^ g.height) b0 b1 g.area.y0 g.area.y1 g.row g.down → y < b1 → t ≡ min b1 ((y / 2 ^ g.height + 1) * 2 ^ g.height) → Grows g y t
grows g b0 b1 y t is less at =
    let p = 2 ^ g.height in record {
      inside = λ from to.
          let above = row_inside p b0 b1 g.area.y0 g.area.y1 g.row g.down y is less to in (
            some_over g y above,
            elim (cases_lt t g.area.y1) [
              | inl short ↦ let whole = end_whole p b0 b1 g.area.y0 g.area.y1 g.row g.down y t is at short in some_over g t short ∙ (let e : t / p - g.row ≡ y / p - g.row + 1 = omega (arith, whole, from) in e)
              | inr past ↦ let whole = end_inside p b0 b1 g.area.y0 g.area.y1 g.row g.down y t is less to at past in all_over g t past ∙ (let e : g.down ≡ y / p - g.row + 1 = omega (arith, whole, from) in e)
            ],
          );
      beside = λ out. elim out [
        | inl high ↦ let at = row_above p b0 b1 g.area.y0 g.area.y1 g.row g.down y t is high at in
            some_over g t at.1 ∙ (let last = at.2 in let e : t / p - g.row ≡ y / p - g.row = omega (arith, last, high) in e) ∙ sym (some_over g y at.0)
        | inr low ↦ let at = row_below p b0 b1 g.area.y0 g.area.y1 g.row g.down y t is less low at in all_over g t at.1 ∙ sym (all_over g y at.0)
      ];
    }

-- the code-blocks of such a row
pub record IsGrown (g : BlockGrid) (y t : ℕ) : Type 0 where
  pub inside : g.row ≤ y / 2 ^ g.height → y / 2 ^ g.height < g.row + g.down → (blocks_above g y ≡ (y / 2 ^ g.height - g.row) * g.across) × (blocks_above g t ≡ blocks_above g y + g.across)
  pub beside : (y / 2 ^ g.height < g.row) ⊎ (g.row + g.down ≤ y / 2 ^ g.height) → blocks_above g t ≡ blocks_above g y

pub is_grown : (a : Rect) (k : Coding) (r n i y t : ℕ) → y < (band_area a k.levels r (orientation_at r i)).y1 → t ≡ row_end (band_area a k.levels r (orientation_at r i)) (block_exponent k r) y → IsGrown (grid_at a k r n i) y t
is_grown a k r n i y t less at = by (is_empty (part_at a k r n i)) refl
  where
    by : (b : Bool) → is_empty (part_at a k r n i) ≡ b → IsGrown (grid_at a k r n i) y t
    by true e =
        let g = grid_at a k r n i in
        let none = none_across a k r n i e in
        let zero_of : (m : ℕ) → m * g.across ≡ 0 = (λ m. ap (λ n. m * n) none ∙ (let z : m * 0 ≡ 0 = omega arith in z)) in
        record {
          inside = λ from to. (zero_of (rows_over g y) ∙ sym (zero_of (y / 2 ^ g.height - g.row)), zero_of (rows_over g t) ∙ (let z : 0 ≡ blocks_above g y + g.across = (let own = zero_of (rows_over g y) in omega (arith, own, none)) in z));
          beside = λ out. zero_of (rows_over g t) ∙ sym (zero_of (rows_over g y));
        }
    by false e =
        let g = grid_at a k r n i in
        let b = band_area a k.levels r (orientation_at r i) in
        let high = grid_high a k r n i in
        let rows = subst (λ x. HasRows (2 ^ x) b.y0 b.y1 g.area.y0 g.area.y1 g.row g.down) (sym high) (some_rows a k r n i e) in
        let end = at ∙ ap (λ x. min b.y1 ((y / 2 ^ x + 1) * 2 ^ x)) (sym high) in
        let own = grows g b.y0 b.y1 y t rows less end in
        record {
          inside = λ from to. (let is = own.inside from to in (
            ap (λ m. m * g.across) is.0,
            ap (λ m. m * g.across) (is.1 ∙ ap (λ m. m + 1) (sym is.0)) ∙ (let one : (rows_over g y + 1) * g.across ≡ rows_over g y * g.across + g.across = omega arith in one),
          ));
          beside = λ out. ap (λ m. m * g.across) (own.beside out);
        }

-- before the first row, and behind the last
pub none_above : (a : Rect) (k : Coding) (r n i y : ℕ) → y ≡ (band_area a k.levels r (orientation_at r i)).y0 → blocks_above (grid_at a k r n i) y ≡ 0
none_above a k r n i y at = by (is_empty (part_at a k r n i)) refl
  where
    by : (b : Bool) → is_empty (part_at a k r n i) ≡ b → blocks_above (grid_at a k r n i) y ≡ 0
    by true e = let g = grid_at a k r n i in ap (λ n. rows_over g y * n) (none_across a k r n i e) ∙ (let z : rows_over g y * 0 ≡ 0 = omega arith in z)
    by false e =
        let g = grid_at a k r n i in
        let is = some_rows a k r n i e in
        let p = 2 ^ block_exponent k r in
        let upper = is.upper in let high = is.high in let first = is.first in
        let mono = div_mono y g.area.y0 p is.some (omega (arith, at, upper)) in
        let power = ap (λ x. y / 2 ^ x) (grid_high a k r n i) in
        ap (λ m. m * g.across) (some_over g y (omega (arith, at, upper, high)) ∙ (let z : y / 2 ^ g.height - g.row ≡ 0 = omega (arith, mono, first, power) in z)) ∙ (let z : 0 * g.across ≡ 0 = omega arith in z)

pub all_above : (a : Rect) (k : Coding) (r n i y : ℕ) → y ≡ (band_area a k.levels r (orientation_at r i)).y1 → blocks_above (grid_at a k r n i) y ≡ block_number (grid_at a k r n i)
all_above a k r n i y at = by (is_empty (part_at a k r n i)) refl
  where
    by : (b : Bool) → is_empty (part_at a k r n i) ≡ b → blocks_above (grid_at a k r n i) y ≡ block_number (grid_at a k r n i)
    by true e =
        let g = grid_at a k r n i in
        let none = none_across a k r n i e in
        ap (λ n. rows_over g y * n) none ∙ (let z : rows_over g y * 0 ≡ 0 * g.down = omega arith in z) ∙ ap (λ n. n * g.down) (sym none)
    by false e =
        let g = grid_at a k r n i in
        let is = some_rows a k r n i e in
        let lower = is.lower in
        ap (λ m. m * g.across) (all_over g y (omega (arith, at, lower))) ∙ mul_comm g.down g.across
