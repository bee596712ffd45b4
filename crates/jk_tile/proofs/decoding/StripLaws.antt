-- A strip and the code-blocks of its row: which they are, and that they have all of it.
use Rattle.std.proofs.Common.{◌≡◌, ℕ, zero, suc, ◌+◌, ◌-◌, ◌*◌, ◌/◌, ◌%◌, ◌^◌, ◌<◌, ◌≤◌, ◌⊎◌, inl, inr, min, max, true, false, leb, get_or, List, [], ◌∷◌, length, All, Result, Ok, Err, ℤ, pos, refl, sym, ap, subst, ◌∙◌, arith}
use Rattle.std.proofs.lemmas.Bool.{leb-false, or_parts}
use Rattle.std.proofs.lemmas.Bool.Decides.{nat_tests}
use Rattle.std.specs.Prelude.{unsigned_abs}
use Rattle.std.specs.List.{AllByRecursion}
use Rattle.std.proofs.lemmas.List.Elements.{All-from_get_or, All-nil}
use Rattle.std.proofs.Math.Nat.{mul-le-mul_right, mul_comm, div-div-eq-div-mul}
use Rattle.std.proofs.lemmas.Nat.{pow_pos, pow-add, mod_below, div-add-mod', div-mul-add, mul-add-lt}
use Rattle.jk_math.specs.declared.rect.Rect.{Rect}
use Rattle.jk_math.specs.Raster.{columns_of, rows_of, places_of, raster, plane_at}
use Rattle.jk_math.specs.Answer.{Refuses}
use Rattle.jk_math.specs.Memory.{IsMemory}
use Rattle.jk_math.specs.declared.fault.Fault.TheVariants.{Memory}
use Rattle.jk_math.specs.Signed.{IsBelow}
use Rattle.jk_math.proofs.Laws.{raster_is, raster_length, raster_entry}
use Rattle.jk_marks.specs.declared.coding.Coding.{Coding}
use Rattle.jk_marks.specs.Coding.{precinct_size}
use Rattle.jk_params.specs.Coding.{HasPlanes}
use Rattle.jk_geom.specs.declared.grid.BlockGrid.{BlockGrid}
use Rattle.jk_geom.specs.Rectangles.{IsWithin, is_empty, meet, cell, resolution_area, band_area}
use Rattle.jk_geom.specs.Precincts.{precinct_number, precincts_across, precincts_down, precinct_area, precinct_column, precinct_row, part_width, part_height}
use Rattle.jk_geom.specs.Blocks.{block_area}
use Rattle.jk_geom.specs.Partitions.{BlockHolds, precinct_of}
use Rattle.jk_geom.proofs.BlockLaws.{block_part}
use Rattle.jk_geom.proofs.Cells.{cell_within, cell_one}
use Rattle.jk_geom.proofs.Laws.{raster_row, sides_some}
use Rattle.jk_math.specs.declared.fault.Fault.{Fault}
use Rattle.jk_scan.specs.declared.shape.BlockShape.{BlockShape}
use Rattle.jk_scan.specs.Neighbours.{is_inside}
use Rattle.jk_block.specs.Reading.{block_at}
use Rattle.jk_block.proofs.Laws.{block_found as block_found_meaning}
use Rattle.jk_walk.specs.TilePackets.{Body, orientations, band_number, planes_of}
use Rattle.jk_tile.specs.declared.decoding.strips.BlockRow.{BlockRow}
use Rattle.jk_tile.specs.Filling.{IsPartOf}
use Rattle.jk_tile.specs.TileBlocks.{orientation_at, grid_at, block_at_place, block_shape, block_bodies, block_bytes, passes_in, zeros_in, band_index}
use Rattle.jk_tile.specs.decoding.TileReading.{block_with, block_value, block_values, bodies_values, values_or}
use Rattle.jk_tile.specs.decoding.Source.{Source, IsSource, source_bodies, source_coefficient, block_count}
use Rattle.jk_tile.specs.decoding.Strips.{block_exponent, row_band, row_of_block, IsBlockRow, strip_area, first_precinct_of, ShowsPartIn, IsStrip, IsPartFine, IsRowFine, HasFault}
use Rattle.jk_tile.proofs.Places.{grid_is, grid_height, block_place, block_found, coefficient_by, resolution_is, index_is}
use Rattle.jk_tile.proofs.decoding.Blocks.{block_length, all_below}
use Rattle.jk_tile.proofs.decoding.Filled.{entry_small}
use Rattle.jk_tile.proofs.Showing.{few_levels, number_under}

pub exponent_is : (k : Coding) (r : ℕ) → block_exponent k r ≡ min k.ycb (part_height k r)
unfolding block_exponent
exponent_is k r = refl

pub grid_high : (s : Source) (r n i : ℕ) → (grid_at s.region.rect s.coding r n i).height ≡ block_exponent s.coding r
grid_high s r n i =
    ap (λ (g : BlockGrid). g.height) (grid_is s.region.rect s.coding r n i) ∙ grid_height _ _ _ ∙ sym (exponent_is s.coding r)

block_is : (g : BlockGrid) (j : ℕ) → block_area g j ≡ meet (cell (g.column + j % g.across) (g.row + j / g.across) g.width g.height) g.area
unfolding block_area
block_is g j = refl

part_is : (a : Rect) (k : Coding) (r n i : ℕ)
    → precinct_area a k r n (orientation_at r i) ≡ meet (cell (precinct_column a k r n) (precinct_row a k r n) (part_width k r) (part_height k r)) (band_area a k.levels r (orientation_at r i))
unfolding precinct_area
part_is a k r n i = refl

row_is : (a : Rect) (k : Coding) (r n : ℕ) → precinct_row a k r n ≡ (resolution_area a k.levels r).y0 / 2 ^ (precinct_size k r).1 + n / precincts_across a k r
unfolding precinct_row
row_is a k r n = refl

pub strip_is : (s : Source) (w : BlockRow) → strip_area s w ≡ record {
  x0 = (row_band s w).x0;
  y0 = max (row_band s w).y0 (w.row * 2 ^ block_exponent s.coding w.resolution);
  x1 = (row_band s w).x1;
  y1 = max (max (row_band s w).y0 (w.row * 2 ^ block_exponent s.coding w.resolution)) (min (row_band s w).y1 ((w.row + 1) * 2 ^ block_exponent s.coding w.resolution));
}
unfolding strip_area
strip_is s w = refl

pub first_is : (s : Source) (w : BlockRow) → first_precinct_of s w
    ≡ (w.row / 2 ^ (part_height s.coding w.resolution - block_exponent s.coding w.resolution) - (resolution_area s.region.rect s.coding.levels w.resolution).y0 / 2 ^ (precinct_size s.coding w.resolution).1)
    * precincts_across s.region.rect s.coding w.resolution
unfolding first_precinct_of
first_is s w = refl

-- the row of a code-block is that of its places
pub block_row_is : (s : Source) (r n i j x y : ℕ) → IsWithin (block_at_place s.region.rect s.coding r n i j) x y → row_of_block s r n i j ≡ y / 2 ^ block_exponent s.coding r
block_row_is s r n i j x y h =
    let g = grid_at s.region.rect s.coding r n i in
    let c = cell_within g.area (g.column + j % g.across) (g.row + j / g.across) g.width g.height x y (subst (λ (b : Rect). IsWithin b x y) (block_is g j) h) in
    c.row ∙ ap (λ e. y / 2 ^ e) (grid_high s r n i)

-- where a place stands in the strip
pub record IsInRow (s : Source) (w : BlockRow) (x y : ℕ) : Type 0 where
  pub band : IsWithin (row_band s w) x y
  pub row : y / 2 ^ block_exponent s.coding w.resolution ≡ w.row

pub in_strip : (s : Source) (w : BlockRow) (x y : ℕ) → IsWithin (strip_area s w) x y → IsInRow s w x y
in_strip s w x y h =
    let e : ℕ = block_exponent s.coding w.resolution in
    let is = strip_is s w in
    let left = ap (λ (a : Rect). a.x0) is in let right = ap (λ (a : Rect). a.x1) is in
    let upper = ap (λ (a : Rect). a.y0) is in let lower = ap (λ (a : Rect). a.y1) is in
    let hl = h.left in let hr = h.right in let hu = h.upper in let hw = h.lower in
    record {
      band = record { left = omega (arith, left, hl); right = omega (arith, right, hr); upper = omega (arith, upper, hu); lower = omega (arith, upper, lower, hu, hw) };
      row = sym (cell_one w.row y (2 ^ e) (pow_pos e) (omega (arith, upper, hu)) (omega (arith, upper, lower, hu, hw)));
    }

-- a block of the row lies in the strip
pub block_in_strip : (s : Source) (w : BlockRow) (n j : ℕ) → j < block_count s w.resolution n w.band → row_of_block s w.resolution n w.band j ≡ w.row
    → IsPartOf (block_at_place s.region.rect s.coding w.resolution n w.band j) (strip_area s w)
block_in_strip s w n j lt row =
    let r = w.resolution in
    let e : ℕ = block_exponent s.coding r in
    let g = grid_at s.region.rect s.coding r n w.band in
    let b = block_at_place s.region.rect s.coding r n w.band j in
    let p = block_place s.region.rect s.coding r n w.band j lt in
    let is = strip_is s w in
    let left = ap (λ (a : Rect). a.x0) is in let right = ap (λ (a : Rect). a.x1) is in
    let upper = ap (λ (a : Rect). a.y0) is in let lower = ap (λ (a : Rect). a.y1) is in
    let top = ap (λ (a : Rect). a.y0) (block_is g j) in
    let bottom = ap (λ (a : Rect). a.y1) (block_is g j) in
    let first : (g.row + j / g.across) * 2 ^ g.height ≡ w.row * 2 ^ e = ap (λ m. m * 2 ^ g.height) row ∙ ap (λ m. w.row * 2 ^ m) (grid_high s r n w.band) in
    let last : (g.row + j / g.across + 1) * 2 ^ g.height ≡ (w.row + 1) * 2 ^ e = ap (λ m. (m + 1) * 2 ^ g.height) row ∙ ap (λ m. (w.row + 1) * 2 ^ m) (grid_high s r n w.band) in
    let pw = p.wide in let ph = p.high in let pl = p.left in let pr = p.right in let pu = p.upper in let pd = p.lower in
    record {
      left = omega (arith, left, pl);
      across = omega (arith, pw);
      right = omega (arith, right, pr);
      upper = omega (arith, upper, top, first, pu);
      down = omega (arith, ph);
      lower = omega (arith, lower, upper, bottom, last, pd);
    }

-- a quotient by a larger power
pub div_powers : (y h k : ℕ) → h ≤ k → y / 2 ^ k ≡ y / 2 ^ h / 2 ^ (k - h)
div_powers y h k le =
    let split : k ≡ h + (k - h) = omega (arith, le) in
    ap (λ n. y / 2 ^ n) split ∙ ap (λ n. y / n) (pow-add 2 h (k - h)) ∙ sym (div-div-eq-div-mul y (2 ^ h) (2 ^ (k - h)))

-- the precincts that have a block of the row
pub record IsBeside (s : Source) (w : BlockRow) (n : ℕ) : Type 0 where
  pub after : (resolution_area s.region.rect s.coding.levels w.resolution).y0 / 2 ^ (precinct_size s.coding w.resolution).1
      ≤ w.row / 2 ^ (part_height s.coding w.resolution - block_exponent s.coding w.resolution)
  pub row : n / precincts_across s.region.rect s.coding w.resolution ≡ w.row / 2 ^ (part_height s.coding w.resolution - block_exponent s.coding w.resolution)
      - (resolution_area s.region.rect s.coding.levels w.resolution).y0 / 2 ^ (precinct_size s.coding w.resolution).1

pub block_beside : (s : Source) (w : BlockRow) (n j x y : ℕ) → n < precinct_number s.region.rect s.coding w.resolution → j < block_count s w.resolution n w.band
    → IsWithin (block_at_place s.region.rect s.coding w.resolution n w.band j) x y → row_of_block s w.resolution n w.band j ≡ w.row → IsBeside s w n
block_beside s w n j x y precinct lt h row =
    let r = w.resolution in
    let e : ℕ = block_exponent s.coding r in
    let o = orientation_at r w.band in
    let holds : BlockHolds s.region.rect s.coding r o n j x y = record { precinct = precinct; block = lt; place = h } in
    let part = block_part s.region.rect s.coding r o n j x y holds in
    let c = cell_within (band_area s.region.rect s.coding.levels r o) (precinct_column s.region.rect s.coding r n) (precinct_row s.region.rect s.coding r n) (part_width s.coding r) (part_height s.coding r) x y
    (subst (λ (b : Rect). IsWithin b x y) (part_is s.region.rect s.coding r n w.band) part) in
    let low : e ≤ part_height s.coding r = (let x = exponent_is s.coding r in omega (arith, x)) in
    let down : y / 2 ^ part_height s.coding r ≡ w.row / 2 ^ (part_height s.coding r - e) = div_powers y e (part_height s.coding r) low ∙ ap (λ m. m / 2 ^ (part_height s.coding r - e)) (sym (block_row_is s r n w.band j x y h) ∙ row) in
    let there = sym (row_is s.region.rect s.coding r n) ∙ c.row ∙ down in
    record { after = omega (arith, there); row = omega (arith, there) }

-- a strip that isn't empty has a place, and the precinct that has it lies in the row
pub strip_place : (s : Source) (w : BlockRow) → is_empty (strip_area s w) ≡ false → IsWithin (strip_area s w) (strip_area s w).x0 (strip_area s w).y0
strip_place s w some =
    let a = strip_area s w in
    let sides = or_parts (leb a.x1 a.x0) (leb a.y1 a.y0) some in
    let wide = leb-false a.x1 a.x0 sides.0 in
    let high = leb-false a.y1 a.y0 sides.1 in
    record { left = omega arith; right = wide; upper = omega arith; lower = high }

-- the code-block that has a place of the strip
pub record IsFoundIn (s : Source) (w : BlockRow) (x y : ℕ) : Type 0 where
  pub precinct : ℕ
  pub block : ℕ
  pub is_precinct : precinct < precinct_number s.region.rect s.coding w.resolution
  pub is_block : block < block_count s w.resolution precinct w.band
  pub place : IsWithin (block_at_place s.region.rect s.coding w.resolution precinct w.band block) x y
  pub row : row_of_block s w.resolution precinct w.band block ≡ w.row
  pub beside : IsBeside s w precinct

pub found_in : (s : Source) (w : BlockRow) (x y : ℕ) → IsSource s → IsBlockRow s w → IsWithin (strip_area s w) x y → IsFoundIn s w x y
found_in s w x y is row h =
    let at = in_strip s w x y h in
    let r = w.resolution in
    let n = precinct_of s.region.rect s.coding r x y in
    let j = block_with s.region.rect s.coding r n w.band x y in
    let found = block_found s.region.rect s.coding r w.band x y is.coding (few_levels s r is row.resolution) row.band at.band in
    let same = block_row_is s r n w.band j x y found.place ∙ at.row in
    record {
      precinct = n;
      block = j;
      is_precinct = found.precinct;
      is_block = found.block;
      place = found.place;
      row = same;
      beside = block_beside s w n j x y found.precinct found.block found.place same;
    }

-- the numbers of those precincts
pub within_row : (n m first across down : ℕ) → first ≡ m * across → n < across * down → n / across ≡ m → (first ≤ n) × (n < first + across) × (first + across ≤ across * down)
within_row n m first across down is lt row =
    let some : 0 < across = wide across down n lt in
    let split : n / across * across + n % across ≡ n = div-add-mod' n across in
    let part : n % across < across = mod_below n across some in
    let less : m < down = subst (λ q. q < down) row (raster_row n across down lt) in
    let up : (m + 1) * across ≤ down * across = mul-le-mul_right across (omega (arith, less)) in
    let turn : down * across ≡ across * down = mul_comm down across in
    let one : (m + 1) * across ≡ m * across + across = omega arith in
    let there : n / across * across ≡ m * across = ap (λ q. q * across) row in (
      omega (arith, is, split, there),
      omega (arith, is, split, there, part),
      omega (arith, is, up, turn, one),
    )
  where
    wide : (a d n : ℕ) → n < a * d → 0 < a
    wide a d n lt = grind arith

pub beside_within : (s : Source) (w : BlockRow) (n first : ℕ) → first ≡ first_precinct_of s w → n < precinct_number s.region.rect s.coding w.resolution → IsBeside s w n
    → (first ≤ n) × (n < first + precincts_across s.region.rect s.coding w.resolution) × (first + precincts_across s.region.rect s.coding w.resolution ≤ precinct_number s.region.rect s.coding w.resolution)
beside_within s w n first is lt beside =
    within_row n _ first (precincts_across s.region.rect s.coding w.resolution) (precincts_down s.region.rect s.coding w.resolution) (is ∙ first_is s w) lt beside.row

-- a strip that all code-blocks of the row have put their values in
pub strip_whole : (s : Source) (w : BlockRow) (first : ℕ) (strip : List ℤ) → IsSource s → IsBlockRow s w → first ≡ first_precinct_of s w → length strip ≡ places_of (strip_area s w)
    → ((n : ℕ) → first ≤ n → n < first + precincts_across s.region.rect s.coding w.resolution → ShowsPartIn s w (strip_area s w) n strip) → IsStrip s w strip
strip_whole s w first strip is row at long shows = raster_is (strip_area s w) strip (source_coefficient s (band_number w.resolution w.band)) long (λ x y h.
    let f = found_in s w x y is row (record { left = h.left; right = h.right; upper = h.upper; lower = h.lower }) in
    let within = beside_within s w f.precinct first at f.is_precinct f.beside in
    shows f.precinct within.0 within.1 f.block f.is_block f.row x y f.place)

-- and a row of which all code-blocks are fine
pub row_whole : (s : Source) (w : BlockRow) (first : ℕ) → first ≡ first_precinct_of s w
    → ((n : ℕ) → first ≤ n → n < first + precincts_across s.region.rect s.coding w.resolution → IsPartFine s w n) → IsRowFine s w
row_whole s w first at fine n precinct j lt row =
    let p = block_place s.region.rect s.coding w.resolution n w.band j lt in
    let b = block_at_place s.region.rect s.coding w.resolution n w.band j in
    let wide = p.wide in let high = p.high in
    let here : IsWithin b b.x0 b.y0 = record { left = omega arith; right = wide; upper = omega arith; lower = high } in
    let beside = block_beside s w n j b.x0 b.y0 precinct lt here row in
    let within = beside_within s w n first at precinct beside in
    fine n within.0 within.1 j lt row

-- of an empty strip there is nothing to show, and no code-block in the row
pub none_in_row : (s : Source) (w : BlockRow) → is_empty (strip_area s w) ≡ true → IsRowFine s w
none_in_row s w none n precinct j lt row =
    let p = block_place s.region.rect s.coding w.resolution n w.band j lt in
    let q = block_in_strip s w n j lt row in
    let wide = p.wide in let high = p.high in
    let ql = q.left in let qr = q.right in let qu = q.upper in let qd = q.lower in
    let some = sides_some (strip_area s w) (omega (arith, wide, ql, qr)) (omega (arith, high, qu, qd)) in
    absurd (let f : true ≡ false = sym none ∙ some in cc)

-- ---- magnitudes

block_by : (s : BlockShape) (planes : ℕ) (bodies : List Body) → bodies_values s planes bodies ≡ block_at s (planes - zeros_in bodies) (passes_in bodies) (block_bytes bodies)
unfolding bodies_values
block_by s planes bodies = refl

-- the planes of a sub-band are 23 at most
entry_few : (g b : ℕ) (xs : List ℕ) → b < length xs → AllByRecursion (λ e. (1 ≤ g + e) × (g + e ≤ 24)) xs → g + get_or xs b 0 ≤ 24
entry_few g b [] lt all = absurd (omega (arith, lt))
entry_few g zero (x ∷ xs) lt all = all.0.1
entry_few g (suc b) (x ∷ xs) lt all = entry_few g b xs (omega (arith, lt)) all.1

few_planes : (k : Coding) (r i : ℕ) → HasPlanes k → r ≤ k.levels → i < length (orientations r) → planes_of k (band_number r i) ≤ 23
few_planes k r i has few lt =
    let under = number_under r i k.levels few lt in
    let count = has.count in
    let e = entry_few k.guard (band_number r i) k.exponents (omega (arith, under, count)) has.planes in
    omega (arith, e)

-- what a code-block is decoded to is below 2^23
values_small : (s : BlockShape) (planes passes : ℕ) (bytes : List ℕ) (values : List ℤ) → planes ≤ 23 → block_at s planes passes bytes ≡ Ok values → All (IsBelow (2 ^ 23)) values
values_small s planes passes bytes values few e =
    let m = block_found_meaning s planes passes bytes values e in
    let long = block_length s planes passes bytes values e in
    all_below planes values few (All-from_get_or (λ v. unsigned_abs v < 2 ^ planes) values (pos 0) (λ k lt.
    let turn : s.height * s.width ≡ s.width * s.height = mul_comm s.height s.width in
    let inside : k < s.width * s.height = omega (arith, lt, long, turn) in
    let wide : 0 < s.width = some_column k s.width s.height inside in
    let x : k % s.width < s.width = mod_below k s.width wide in
    let y : k / s.width < s.height = raster_row k s.width s.height inside in
    let both : is_inside s (k % s.width) (k / s.width) ≡ true = grind (arith, nat_tests) in
    subst (λ n. unsigned_abs (get_or values n (pos 0)) < 2 ^ planes) (div-add-mod' k s.width) (m.small (k % s.width) (k / s.width) both)))
  where
    some_column : (k w h : ℕ) → k < w * h → 0 < w
    some_column k w h lt = grind arith

value_small : (place : Rect) (x y : ℕ) (r : Result (List ℤ) Fault) → ((values : List ℤ) → r ≡ Ok values → All (IsBelow (2 ^ 23)) values) → IsBelow (2 ^ 23) (plane_at place (values_or r) x y)
value_small place x y (Ok values) small = entry_small values ((y - place.y0) * columns_of place + (x - place.x0)) (small values refl)
value_small place x y (Err e) small = entry_small [] ((y - place.y0) * columns_of place + (x - place.x0)) (All-nil (IsBelow (2 ^ 23)))

-- the coefficients of a source are below 2^23
pub source_small : (s : Source) (r i x y : ℕ) → IsSource s → r ≤ s.coding.levels → i < length (orientations r) → IsBelow (2 ^ 23) (source_coefficient s (band_number r i) x y)
source_small s r i x y is few lt =
    let a = s.region.rect in
    let k = s.coding in
    let n = precinct_of a k r x y in
    let j = block_with a k r n i x y in
    let same : source_coefficient s (band_number r i) x y ≡ block_value a k r n i j (source_bodies s r n) x y =
    coefficient_by a k (source_bodies s) (band_number r i) x y
    ∙ ap (λ t. block_value a k t (precinct_of a k t x y) (band_index (band_number r i)) (block_with a k t (precinct_of a k t x y) (band_index (band_number r i)) x y) (source_bodies s t (precinct_of a k t x y)) x y) (resolution_is r i lt)
    ∙ ap (λ t. block_value a k r (precinct_of a k r x y) t (block_with a k r (precinct_of a k r x y) t x y) (source_bodies s r (precinct_of a k r x y)) x y) (index_is r i lt) in
    let bodies = block_bodies i j (source_bodies s r n) in
    let planes = few_planes k r i is.planes few lt in
    subst (IsBelow (2 ^ 23)) (sym same) (value_small (block_at_place a k r n i j) x y (block_values a k r n i j (source_bodies s r n)) (λ values e.
    values_small (block_shape a k r n i j) (planes_of k (band_number r i) - zeros_in bodies) (passes_in bodies) (block_bytes bodies) values (omega (arith, planes)) (sym (block_by (block_shape a k r n i j) (planes_of k (band_number r i)) bodies) ∙ e)))

-- and so are those of a strip
pub strip_small : (s : Source) (w : BlockRow) (strip : List ℤ) → IsSource s → IsBlockRow s w → IsStrip s w strip → All (IsBelow (2 ^ 23)) strip
strip_small s w strip is row e =
    let a = strip_area s w in
    let f = source_coefficient s (band_number w.resolution w.band) in
    subst (All (IsBelow (2 ^ 23))) (sym e) (All-from_get_or (IsBelow (2 ^ 23)) (raster a f) (pos 0) (λ k lt.
    let inside : k < rows_of a * columns_of a = (let l = raster_length a f in omega (arith, l, lt)) in
    subst (IsBelow (2 ^ 23)) (sym (raster_entry a f k inside))
    (source_small s w.resolution w.band (a.x0 + k % columns_of a) (a.y0 + k / columns_of a) is (few_levels s w.resolution is row.resolution) row.band)))

-- ---- faults

-- why a call that may take memory refuses
pub cause_from : {A : Type 0} (s : Source) (e : Fault) (due : Result A Fault) → Refuses e due → (due ≡ Err e → HasFault s e) → IsMemory e ⊎ HasFault s e
cause_from s (Memory r) due h on = inl tt
cause_from s e due h on = inr (on h)

-- ---- the code-blocks that a precinct has of a row

pub row_blocks : (g : BlockGrid) (w k : ℕ) → g.row ≤ w → w < g.row + g.down → k < g.across → ((w - g.row) * g.across + k < g.across * g.down) × (g.row + ((w - g.row) * g.across + k) / g.across ≡ w)
row_blocks g w k from to lt =
    let column = div-mul-add (w - g.row) g.across k lt in (
      mul-add-lt (w - g.row) g.across k g.down (omega (arith, from, to)) lt,
      omega (arith, column, from),
    )

pub row_block_in : (g : BlockGrid) (w j : ℕ) → j < g.across * g.down → g.row + j / g.across ≡ w → ((w - g.row) * g.across ≤ j) × (j < (w - g.row) * g.across + g.across)
row_block_in g w j lt row =
    let some : 0 < g.across = wide g.across g.down j lt in
    let split = div-add-mod' j g.across in
    let part = mod_below j g.across some in
    let down : j / g.across ≡ w - g.row = omega (arith, row) in
    let whole : j / g.across * g.across ≡ (w - g.row) * g.across = ap (λ m. m * g.across) down in
    (omega (arith, split, whole), omega (arith, split, whole, part))
  where
    wide : (a d n : ℕ) → n < a * d → 0 < a
    wide a d n lt = grind arith

-- and none where the row lies beside its own
pub row_none : (g : BlockGrid) (w j : ℕ) → (w < g.row) ⊎ (g.row + g.down ≤ w) → j < g.across * g.down → g.row + j / g.across ≡ w → ⊥
row_none g w j (inl above) lt row = omega (arith, above, row)
row_none g w j (inr below) lt row = let down = raster_row j g.across g.down lt in omega (arith, below, row, down)

-- an empty strip
pub strip_none : (s : Source) (w : BlockRow) (strip : List ℤ) → is_empty (strip_area s w) ≡ true → length strip ≡ places_of (strip_area s w) → IsStrip s w strip
strip_none s w strip none long = raster_is (strip_area s w) strip (source_coefficient s (band_number w.resolution w.band)) long (λ x y h.
    let hl = h.left in let hr = h.right in let hu = h.upper in let hd = h.lower in
    let some = sides_some (strip_area s w) (omega (arith, hl, hr)) (omega (arith, hu, hd)) in
    absurd (let f : true ≡ false = sym none ∙ some in cc))

-- as many precincts lie side by side
pub across_is : (s : Source) (r across : ℕ) (rect : Rect) (coding : Coding) → rect ≡ s.region.rect → coding ≡ s.coding → across ≡ precincts_across rect coding r → across ≡ precincts_across s.region.rect s.coding r
across_is s r across rect coding er ec e = e ∙ ap (λ (x : Rect). precincts_across x coding r) er ∙ ap (λ (k : Coding). precincts_across s.region.rect k r) ec
