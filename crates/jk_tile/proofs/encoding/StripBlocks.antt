-- The code-blocks of a row of them: where they lie, and in which precincts.
use Rattle.std.proofs.Common.{◌≡◌, ℕ, zero, suc, ◌+◌, ◌-◌, ◌*◌, ◌/◌, ◌%◌, ◌^◌, ◌<◌, ◌≤◌, ◌⊎◌, inl, inr, true, false, leb, List, [], ◌∷◌, ◌++◌, append_assoc, map, All, ℤ, pos, unsigned_abs, refl, sym, ap, subst, ◌∙◌, arith}
use Rattle.std.specs.List.{range_with_len}
use Rattle.std.proofs.lemmas.Bool.{cases_lt, leb-true, leb-false, or_parts, or_cases}
use Rattle.std.proofs.lemmas.Nat.{pow_pos}
use Rattle.std.proofs.Math.Nat.{mul-le-mul_left}
use Rattle.std.proofs.lemmas.List.{map-append, append-nil}
use Rattle.std.proofs.lemmas.List.FromFn.{map-range_with_len_more}
use Rattle.std.proofs.lemmas.List.Elements.{All-get_or, All-nil, All-cons}
use Rattle.jk_math.specs.declared.rect.Rect.{Rect}
use Rattle.jk_math.specs.Raster.{raster, plane_at}
use Rattle.jk_math.proofs.Laws.{raster_same, raster_at, bit_length_few}
use Rattle.jk_marks.specs.declared.coding.Coding.{Coding}
use Rattle.jk_marks.specs.Coding.{precinct_size}
use Rattle.jk_geom.specs.declared.grid.BlockGrid.{BlockGrid}
use Rattle.jk_geom.specs.Rectangles.{IsWithin, is_empty, meet, cell, resolution_area, band_area}
use Rattle.jk_geom.specs.Precincts.{precincts_across, precincts_down, precinct_number, precinct_area, precinct_column, precinct_row, part_width, part_height}
use Rattle.jk_math.specs.declared.orientation.Orientation.{Orientation}
use Rattle.jk_scan.specs.declared.shape.BlockShape.{BlockShape}
use Rattle.jk_geom.specs.Blocks.{IsGrid, block_area, block_grid}
use Rattle.jk_geom.specs.Partitions.{BlockHolds, block_number, precinct_of}
use Rattle.jk_geom.proofs.BlockLaws.{block_part, precinct_found}
use Rattle.jk_geom.proofs.Cells.{cell_from, cell_to, cell_within}
use Rattle.jk_block.specs.BlockWritten.{greatest, coded}
use Rattle.jk_block.proofs.Laws.{greatest_small}
use Rattle.jk_walk.specs.TilePackets.{band_number}
use Rattle.jk_tile.specs.Filling.{IsPartOf}
use Rattle.jk_tile.specs.TileBlocks.{orientation_at, grid_at, block_at_place, block_shape, shape_of_area, IsBlockShape}
use Rattle.jk_tile.specs.decoding.Strips.{block_exponent}
use Rattle.jk_tile.specs.encoding.Layered.{Layered, layered}
use Rattle.jk_tile.specs.encoding.Strips.{ComponentFrame, IsFrame, IsWholeRow, IsOfPart, IsRowPart, row_values, band_at, blocks_above, first_precinct_at, layered_at, layered_between}
use Rattle.jk_tile.specs.declared.encoding.row_coding.Strip.{Strip}
use Rattle.jk_tile.specs.declared.encoding.row_coding.RowPart.{RowPart}
use Rattle.jk_tile.proofs.Places.{is_band, block_place, block_is_shape}
use Rattle.jk_tile.proofs.AllBands.{range_join}
use Rattle.jk_tile.proofs.decoding.StripLaws.{div_powers, exponent_is, within_row, row_blocks}
use Rattle.jk_tile.proofs.encoding.Forwards.{part_within}
use Rattle.jk_tile.proofs.encoding.WrittenBlocks.{cut_few, grid_of}
use Rattle.jk_tile.proofs.encoding.WrittenTile.{lists_from}
use Rattle.jk_tile.proofs.encoding.BlockRows.{part_at, grid_high, IsGrown, is_grown}

-- the row of code-blocks, by its number
abbrev pub number_of_row : ComponentFrame → Strip → ℕ
number_of_row s w = w.area.y0 / 2 ^ block_exponent s.coding w.resolution

abbrev pub grid_in : ComponentFrame → Strip → ℕ → BlockGrid
grid_in s w n = grid_at s.rect s.coding w.resolution n w.band

block_is : (g : BlockGrid) (j : ℕ) → block_area g j ≡ meet (cell (g.column + j % g.across) (g.row + j / g.across) g.width g.height) g.area
unfolding block_area
block_is g j = refl

-- ---- where they lie

-- a code-block of the row lies in its rectangle
pub block_in_row : (s : ComponentFrame) (w : Strip) (n j : ℕ) → IsWholeRow s w → j < block_number (grid_in s w n) → (grid_in s w n).row + j / (grid_in s w n).across ≡ number_of_row s w
    → IsPartOf (block_at_place s.rect s.coding w.resolution n w.band j) w.area
block_in_row s w n j is lt row =
    let e : ℕ = block_exponent s.coding w.resolution in
    let g = grid_in s w n in
    let p = block_place s.rect s.coding w.resolution n w.band j lt in
    let top = ap (λ (a : Rect). a.y0) (block_is g j) in
    let bottom = ap (λ (a : Rect). a.y1) (block_is g j) in
    let high = grid_high s.rect s.coding w.resolution n w.band in
    let first : (g.row + j / g.across) * 2 ^ g.height ≡ number_of_row s w * 2 ^ e = ap (λ m. m * 2 ^ g.height) row ∙ ap (λ m. number_of_row s w * 2 ^ m) high in
    let last : (g.row + j / g.across + 1) * 2 ^ g.height ≡ (number_of_row s w + 1) * 2 ^ e = ap (λ m. (m + 1) * 2 ^ g.height) row ∙ ap (λ m. (number_of_row s w + 1) * 2 ^ m) high in
    let start = is.start is.inside in
    let il = is.left in let ir = is.right in let ie = is.end in
    let pw = p.wide in let ph = p.high in let pl = p.left in let pr = p.right in let pu = p.upper in let pd = p.lower in
    record {
      left = omega (arith, il, pl);
      across = omega (arith, pw);
      right = omega (arith, ir, pr);
      upper = omega (arith, start, top, first, pu);
      down = omega (arith, ph);
      lower = omega (arith, ie, bottom, last, pd);
    }

-- ---- in which precincts

row_is : (a : Rect) (k : Coding) (r n : ℕ) → precinct_row a k r n ≡ (resolution_area a k.levels r).y0 / 2 ^ (precinct_size k r).1 + n / precincts_across a k r
unfolding precinct_row
row_is a k r n = refl

part_is : (a : Rect) (k : Coding) (r n i : ℕ) → part_at a k r n i ≡ meet (cell (precinct_column a k r n) (precinct_row a k r n) (part_width k r) (part_height k r)) (band_area a k.levels r (orientation_at r i))
unfolding precinct_area
part_is a k r n i = refl

pub first_is : (s : ComponentFrame) (r y : ℕ) → first_precinct_at s r y ≡ (y / 2 ^ part_height s.coding r - (resolution_area s.rect s.coding.levels r).y0 / 2 ^ (precinct_size s.coding r).1) * precincts_across s.rect s.coding r
unfolding first_precinct_at
first_is s r y = refl

-- the precincts that have a row of a sub-band
pub record IsInRow (s : ComponentFrame) (r n y : ℕ) : Type 0 where
  pub after : (resolution_area s.rect s.coding.levels r).y0 / 2 ^ (precinct_size s.coding r).1 ≤ y / 2 ^ part_height s.coding r
  pub row : n / precincts_across s.rect s.coding r ≡ y / 2 ^ part_height s.coding r - (resolution_area s.rect s.coding.levels r).y0 / 2 ^ (precinct_size s.coding r).1

pub place_in_row : (s : ComponentFrame) (r n i x y : ℕ) → IsWithin (part_at s.rect s.coding r n i) x y → IsInRow s r n y
place_in_row s r n i x y h =
    let c = cell_within (band_area s.rect s.coding.levels r (orientation_at r i)) (precinct_column s.rect s.coding r n) (precinct_row s.rect s.coding r n) (part_width s.coding r) (part_height s.coding r) x y
    (subst (λ (b : Rect). IsWithin b x y) (part_is s.rect s.coding r n i) h) in
    let there = sym (row_is s.rect s.coding r n) ∙ c.row in
    record { after = omega (arith, there); row = omega (arith, there) }

pub row_within : (s : ComponentFrame) (r n y first : ℕ) → first ≡ first_precinct_at s r y → n < precinct_number s.rect s.coding r → IsInRow s r n y
    → (first ≤ n) × (n < first + precincts_across s.rect s.coding r) × (first + precincts_across s.rect s.coding r ≤ precinct_number s.rect s.coding r)
row_within s r n y first is lt at = within_row n _ first (precincts_across s.rect s.coding r) (precincts_down s.rect s.coding r) (is ∙ first_is s r y) lt at.row

-- a precinct that has the first place of a row
pub record HasPlace (s : ComponentFrame) (w : Strip) : Type 0 where
  pub precinct : ℕ
  pub is_precinct : precinct < precinct_number s.rect s.coding w.resolution
  pub at : IsInRow s w.resolution precinct w.area.y0

pub has_place : (s : ComponentFrame) (w : Strip) → IsFrame s → IsWholeRow s w → is_empty w.area ≡ false → HasPlace s w
has_place s w frame is some =
    let a = w.area in
    let r = w.resolution in
    let sides = or_parts (leb a.x1 a.x0) (leb a.y1 a.y0) some in
    let wide : a.x0 < a.x1 = leb-false a.x1 a.x0 sides.0 in
    let il = is.left in let ir = is.right in let iu = is.upper in let ii = is.inside in
    let place : IsWithin (band_at s r w.band) a.x0 a.y0 = record { left = omega (arith, il); right = omega (arith, wide, ir); upper = iu; lower = ii } in
    let found = precinct_found s.rect s.coding r (orientation_at r w.band) a.x0 a.y0 frame.coding is.resolution (is_band r w.band is.band) place in
    record {
      precinct = precinct_of s.rect s.coding r a.x0 a.y0;
      is_precinct = found.0;
      at = place_in_row s r (precinct_of s.rect s.coding r a.x0 a.y0) w.band a.x0 a.y0 found.1;
    }

-- a precinct with code-blocks of the row is one of these
pub part_in_row : (s : ComponentFrame) (w : Strip) (n : ℕ) → IsWholeRow s w → n < precinct_number s.rect s.coding w.resolution → (let g = grid_in s w n in g.row ≤ number_of_row s w → number_of_row s w < g.row + g.down → 0 < g.across → IsInRow s w.resolution n w.area.y0)
part_in_row s w n is lt from to some =
    let r = w.resolution in
    let e : ℕ = block_exponent s.coding r in
    let g = grid_in s w n in
    let j = (number_of_row s w - g.row) * g.across + 0 in
    let at = row_blocks g (number_of_row s w) 0 from to some in
    let p = block_place s.rect s.coding r n w.band j at.0 in
    let b = block_at_place s.rect s.coding r n w.band j in
    let wide = p.wide in let high = p.high in
    let here : IsWithin b b.x0 b.y0 = record { left = omega arith; right = wide; upper = omega arith; lower = high } in
    let holds : BlockHolds s.rect s.coding r (orientation_at r w.band) n j b.x0 b.y0 = record { precinct = lt; block = at.0; place = here } in
    let own = place_in_row s r n w.band b.x0 b.y0 (block_part s.rect s.coding r (orientation_at r w.band) n j b.x0 b.y0 holds) in
    let c = cell_within g.area (g.column + j % g.across) (g.row + j / g.across) g.width g.height b.x0 b.y0 (subst (λ (a : Rect). IsWithin a b.x0 b.y0) (block_is g j) here) in
    let row : b.y0 / 2 ^ e ≡ number_of_row s w = ap (λ x. b.y0 / 2 ^ x) (sym (grid_high s.rect s.coding r n w.band)) ∙ sym c.row ∙ at.1 in
    let low : e ≤ part_height s.coding r = (let x = exponent_is s.coding r in omega (arith, x)) in
    let same : b.y0 / 2 ^ part_height s.coding r ≡ w.area.y0 / 2 ^ part_height s.coding r =
    div_powers b.y0 e (part_height s.coding r) low ∙ ap (λ m. m / 2 ^ (part_height s.coding r - e)) row ∙ sym (div_powers w.area.y0 e (part_height s.coding r) low) in
    let after = own.after in let row_of = own.row in
    record { after = omega (arith, after, same); row = omega (arith, row_of, same) }

-- ---- which they are

-- how many there are in a grid
pub grown : (s : ComponentFrame) (w : Strip) (n : ℕ) → IsWholeRow s w → IsGrown (grid_in s w n) w.area.y0 w.area.y1
grown s w n is = is_grown s.rect s.coding w.resolution n w.band w.area.y0 w.area.y1 is.inside is.end

row_number : (s : ComponentFrame) (w : Strip) (n : ℕ) → w.area.y0 / 2 ^ (grid_in s w n).height ≡ number_of_row s w
row_number s w n = ap (λ x. w.area.y0 / 2 ^ x) (grid_high s.rect s.coding w.resolution n w.band)

-- those of a row, and none
pub row_between : (s : ComponentFrame) (w : Strip) (f : ℕ → ℕ → ℕ → ℤ) (n : ℕ) → IsWholeRow s w → (let g = grid_in s w n in g.row ≤ number_of_row s w → number_of_row s w < g.row + g.down
    → layered_between s f w.resolution n w.band w.area.y0 w.area.y1 ≡ map (layered_at s f w.resolution n w.band) (range_with_len ((number_of_row s w - g.row) * g.across) g.across))
row_between s w f n is from to =
    let g = grid_in s w n in
    let q = row_number s w n in
    let own = (grown s w n is).inside (omega (arith, from, q)) (omega (arith, to, q)) in
    let first = own.0 ∙ ap (λ m. (m - g.row) * g.across) q in
    let all = own.1 in
    ap (λ m. map (layered_at s f w.resolution n w.band) (range_with_len m (blocks_above g w.area.y1 - blocks_above g w.area.y0))) first
    ∙ ap (λ m. map (layered_at s f w.resolution n w.band) (range_with_len ((number_of_row s w - g.row) * g.across) m)) (let d : blocks_above g w.area.y1 - blocks_above g w.area.y0 ≡ g.across = omega (arith, all) in d)

pub none_between : (s : ComponentFrame) (w : Strip) (f : ℕ → ℕ → ℕ → ℤ) (n : ℕ) → IsWholeRow s w → (number_of_row s w < (grid_in s w n).row) ⊎ ((grid_in s w n).row + (grid_in s w n).down ≤ number_of_row s w)
    → layered_between s f w.resolution n w.band w.area.y0 w.area.y1 ≡ []
none_between s w f n is out =
    let g = grid_in s w n in
    let q = row_number s w n in
    let same = (grown s w n is).beside (elim out [
      | inl above ↦ inl (omega (arith, above, q))
      | inr below ↦ inr (omega (arith, below, q))
    ]) in
    ap (λ m. map (layered_at s f w.resolution n w.band) (range_with_len (blocks_above g w.area.y0) m)) (let d : blocks_above g w.area.y1 - blocks_above g w.area.y0 ≡ 0 = omega (arith, same) in d)

-- a precinct beside the row has none
pub none_beside : (s : ComponentFrame) (w : Strip) (f : ℕ → ℕ → ℕ → ℤ) (n first : ℕ) → IsWholeRow s w → n < precinct_number s.rect s.coding w.resolution → first ≡ first_precinct_at s w.resolution w.area.y0
    → (n < first) ⊎ (first + precincts_across s.rect s.coding w.resolution ≤ n) → layered_between s f w.resolution n w.band w.area.y0 w.area.y1 ≡ []
none_beside s w f n first is lt at out =
    let g = grid_in s w n in
    elim (cases_lt (number_of_row s w) g.row) [
      | inl above ↦ none_between s w f n is (inl above)
      | inr from ↦ elim (cases_lt (number_of_row s w) (g.row + g.down)) [
        | inl to ↦ elim (cases_lt 0 g.across) [
          | inl some ↦ (let within = row_within s w.resolution n w.area.y0 first at lt (part_in_row s w n is lt from to some) in
              let low = within.0 in let high = within.1 in
              elim out [
                | inl before ↦ absurd (omega (arith, before, low))
                | inr behind ↦ absurd (omega (arith, behind, high))
              ])
          | inr none ↦ (let zero_across : g.across ≡ 0 = omega (arith, none) in
              row_between s w f n is from to ∙ ap (λ m. map (layered_at s f w.resolution n w.band) (range_with_len ((number_of_row s w - g.row) * g.across) m)) zero_across)
        ]
        | inr below ↦ none_between s w f n is (inr below)
      ]
    ]

-- and so has each of a row without a column
pub none_empty : (s : ComponentFrame) (w : Strip) (f : ℕ → ℕ → ℕ → ℤ) (n : ℕ) → IsWholeRow s w → n < precinct_number s.rect s.coding w.resolution → w.area.x1 ≤ w.area.x0 → layered_between s f w.resolution n w.band w.area.y0 w.area.y1 ≡ []
none_empty s w f n is lt thin =
    let g = grid_in s w n in
    elim (cases_lt (number_of_row s w) g.row) [
      | inl above ↦ none_between s w f n is (inl above)
      | inr from ↦ elim (cases_lt (number_of_row s w) (g.row + g.down)) [
        | inl to ↦ elim (cases_lt 0 g.across) [
          | inl some ↦ (let at = row_blocks g (number_of_row s w) 0 from to some in
              let p = block_place s.rect s.coding w.resolution n w.band ((number_of_row s w - g.row) * g.across + 0) at.0 in
              let pw = p.wide in let pl = p.left in let pr = p.right in let il = is.left in let ir = is.right in
              absurd (omega (arith, pw, pl, pr, il, ir, thin)))
          | inr none ↦ (let zero_across : g.across ≡ 0 = omega (arith, none) in
              row_between s w f n is from to ∙ ap (λ m. map (layered_at s f w.resolution n w.band) (range_with_len ((number_of_row s w - g.row) * g.across) m)) zero_across)
        ]
        | inr below ↦ none_between s w f n is (inr below)
      ]
    ]

-- ---- what they are

-- over numbers in between
pub all_between : {X : Type 0} (p : X → Type 0) (f : ℕ → X) (a n : ℕ) → ((j : ℕ) → a ≤ j → j < a + n → p (f j)) → All p (map f (range_with_len a n))
all_between {X} p f a zero h = All-nil p
all_between {X} p f a (suc n) h = All-cons p (f a) (map f (range_with_len (a + 1) n)) (h a (omega arith) (omega arith)) (all_between p f (a + 1) n (λ j from to. h j (omega (arith, from)) (omega (arith, to))))

-- the values of a row of code-blocks are those of the sub-band
block_agrees : (s : ComponentFrame) (w : Strip) (f : ℕ → ℕ → ℕ → ℤ) (n j : ℕ) → IsWholeRow s w → w.values.now ≡ raster w.area (f (band_number w.resolution w.band)) → IsPartOf (block_at_place s.rect s.coding w.resolution n w.band j) w.area
    → layered_at s (λ _. plane_at w.area w.values.now) w.resolution n w.band j ≡ layered_at s f w.resolution n w.band j
block_agrees s w f n j is e part =
    let place = block_at_place s.rect s.coding w.resolution n w.band j in
    let shape = block_shape s.rect s.coding w.resolution n w.band j in
    ap (λ (l : List ℤ). layered s.layers (coded shape l)) (raster_same place (plane_at w.area w.values.now) (f (band_number w.resolution w.band)) (λ x y h.
    let at = part_within place w.area x y part h in
    ap (λ (l : List ℤ). plane_at w.area l x y) e ∙ raster_at w.area (f (band_number w.resolution w.band)) x y (record { left = at.left; right = at.right; upper = at.upper; lower = at.lower })))

-- of numbers of a row of code-blocks
in_numbers : (g : BlockGrid) (q j : ℕ) → g.row ≤ q → q < g.row + g.down → (q - g.row) * g.across ≤ j → j < (q - g.row) * g.across + g.across → (j < block_number g) × (g.row + j / g.across ≡ q)
in_numbers g q j from to low high =
    let k : ℕ = j - (q - g.row) * g.across in
    let is : (q - g.row) * g.across + k ≡ j = omega (arith, low) in
    subst (λ i. (i < block_number g) × (g.row + i / g.across ≡ q)) is (row_blocks g q k from to (omega (arith, low, high)))

pub between_agrees : (s : ComponentFrame) (w : Strip) (f : ℕ → ℕ → ℕ → ℤ) (n : ℕ) → IsWholeRow s w → w.values.now ≡ raster w.area (f (band_number w.resolution w.band))
    → layered_between s (λ _. plane_at w.area w.values.now) w.resolution n w.band w.area.y0 w.area.y1 ≡ layered_between s f w.resolution n w.band w.area.y0 w.area.y1
between_agrees s w f n is e =
    let g = grid_in s w n in
    let own : ℕ → ℕ → ℕ → ℤ = λ _. plane_at w.area w.values.now in
    elim (cases_lt (number_of_row s w) g.row) [
      | inl above ↦ none_between s w own n is (inl above) ∙ sym (none_between s w f n is (inl above))
      | inr from ↦ elim (cases_lt (number_of_row s w) (g.row + g.down)) [
        | inl to ↦
            row_between s w own n is from to
            ∙ lists_from (layered_at s own w.resolution n w.band) (layered_at s f w.resolution n w.band) ((number_of_row s w - g.row) * g.across) g.across
            (λ j low high. let at = in_numbers g (number_of_row s w) j from to low high in block_agrees s w f n j is e (block_in_row s w n j is at.0 at.1))
            ∙ sym (row_between s w f n is from to)
        | inr below ↦ none_between s w own n is (inr below) ∙ sym (none_between s w f n is (inr below))
      ]
    ]

-- one row of code-blocks more
pub above_more : (s : ComponentFrame) (w : Strip) (f : ℕ → ℕ → ℕ → ℤ) (n : ℕ) (old new : List Layered) → IsWholeRow s w → old ≡ map (layered_at s f w.resolution n w.band) (range_with_len 0 (blocks_above (grid_in s w n) w.area.y0))
    → new ≡ old ++ layered_between s f w.resolution n w.band w.area.y0 w.area.y1 → new ≡ map (layered_at s f w.resolution n w.band) (range_with_len 0 (blocks_above (grid_in s w n) w.area.y1))
above_more s w f n old new is was e =
    let g = grid_in s w n in
    let d = layered_at s f w.resolution n w.band in
    let from : ℕ = blocks_above g w.area.y0 in
    let to : ℕ = blocks_above g w.area.y1 in
    let q = row_number s w n in
    let rise : from ≤ to = elim (cases_lt (number_of_row s w) g.row) [
      | inl above ↦ (let same = (grown s w n is).beside (inl (omega (arith, above, q))) in omega (arith, same))
      | inr low ↦ elim (cases_lt (number_of_row s w) (g.row + g.down)) [
        | inl high ↦ (let more = ((grown s w n is).inside (omega (arith, low, q)) (omega (arith, high, q))).1 in omega (arith, more))
        | inr below ↦ (let same = (grown s w n is).beside (inr (omega (arith, below, q))) in omega (arith, same))
      ]
    ] in
    let sum : from + (to - from) ≡ to = omega (arith, rise) in
    let zero_from : 0 + from ≡ from = omega arith in
    e ∙ ap (λ (xs : List Layered). xs ++ map d (range_with_len from (to - from))) was
    ∙ ap (λ m. map d (range_with_len 0 from) ++ map d (range_with_len m (to - from))) (sym zero_from)
    ∙ sym (map-append d (range_with_len 0 from) (range_with_len (0 + from) (to - from)))
    ∙ ap (map d) (sym (range_join 0 from (to - from))) ∙ ap (λ m. map d (range_with_len 0 m)) sum

-- ---- how many bit-planes they have

block_few : (s : ComponentFrame) (w : Strip) (n j m : ℕ) → IsWholeRow s w → All (λ v. unsigned_abs v < 2 ^ m) w.values.now → IsPartOf (block_at_place s.rect s.coding w.resolution n w.band j) w.area
    → (layered_at s (λ _. plane_at w.area w.values.now) w.resolution n w.band j).planes ≤ m
unfolding coded
block_few s w n j m is below part =
    let place = block_at_place s.rect s.coding w.resolution n w.band j in
    let list = raster place (plane_at w.area w.values.now) in
    let cut = cut_few (2 ^ m) w.area place w.values.now part is.long below in
    bit_length_few (greatest list) m (greatest_small list (2 ^ m) (pow_pos m) (λ k less. All-get_or (λ v. unsigned_abs v < 2 ^ m) list k (pos 0) less cut))

pub between_few : (s : ComponentFrame) (w : Strip) (n m : ℕ) → IsWholeRow s w → All (λ v. unsigned_abs v < 2 ^ m) w.values.now
    → All (λ b. b.planes ≤ m) (layered_between s (λ _. plane_at w.area w.values.now) w.resolution n w.band w.area.y0 w.area.y1)
between_few s w n m is below =
    let g = grid_in s w n in
    let own : ℕ → ℕ → ℕ → ℤ = λ _. plane_at w.area w.values.now in
    let few : List Layered → Type 0 = All (λ (b : Layered). b.planes ≤ m) in
    elim (cases_lt (number_of_row s w) g.row) [
      | inl above ↦ subst few (sym (none_between s w own n is (inl above))) (all_between (λ (b : Layered). b.planes ≤ m) (layered_at s own w.resolution n w.band) 0 0 (λ j from to. absurd (omega (arith, to))))
      | inr from ↦ elim (cases_lt (number_of_row s w) (g.row + g.down)) [
        | inl to ↦ subst few (sym (row_between s w own n is from to)) (all_between (λ (b : Layered). b.planes ≤ m) (layered_at s own w.resolution n w.band) ((number_of_row s w - g.row) * g.across) g.across
            (λ j low high. let at = in_numbers g (number_of_row s w) j from to low high in block_few s w n j m is below (block_in_row s w n j is at.0 at.1)))
        | inr below_it ↦ subst few (sym (none_between s w own n is (inr below_it))) (all_between (λ (b : Layered). b.planes ≤ m) (layered_at s own w.resolution n w.band) 0 0 (λ j from to. absurd (omega (arith, to))))
      ]
    ]

-- ---- what the calls gave of a precinct

pub grid_given : (s : ComponentFrame) (w : Strip) (n : ℕ) (rect : Rect) (k : Coding) (o : Orientation) (grid : BlockGrid) → rect ≡ s.rect → k ≡ s.coding → o ≡ orientation_at w.resolution w.band → grid ≡ block_grid rect k w.resolution n o → grid ≡ grid_in s w n
grid_given s w n rect k o grid er ek eo e = grid_of (record { rect = s.rect; coding = s.coding; layers = s.layers; bands = [] }) w.resolution n w.band rect k o grid er ek eo e

-- the sum of its rows fits
pub rows_small : (s : ComponentFrame) (w : Strip) (row down h : ℕ) → IsWholeRow s w → row ≤ w.area.y0 / 2 ^ h → down ≤ 2 ^ 13 → row + down < 2 ^ 32
rows_small s w row down h is le few =
    let p = 2 ^ h in
    let some = pow_pos h in
    let from = cell_from w.area.y0 p in
    let wide : w.area.y0 / p * 1 ≤ w.area.y0 / p * p = mul-le-mul_left (w.area.y0 / p) some in
    let upper = is.area_is.upper in let lower = is.area_is.lower in
    omega (arith, from, wide, upper, lower, le, few)

-- none of the row
pub part_none : (s : ComponentFrame) (w : Strip) (f : ℕ → ℕ → ℕ → ℤ) (n : ℕ) (grid : BlockGrid) (old : List Layered) → IsWholeRow s w → grid ≡ grid_in s w n → (w.area.y0 / 2 ^ grid.height < grid.row) ⊎ (grid.row + grid.down ≤ w.area.y0 / 2 ^ grid.height)
    → old ≡ old ++ layered_between s f w.resolution n w.band w.area.y0 w.area.y1
part_none s w f n grid old is e out =
    let q = row_number s w n in
    sym (append-nil old) ∙ ap (λ (l : List Layered). old ++ l) (sym (none_between s w f n is (elim (subst (λ (g : BlockGrid). (w.area.y0 / 2 ^ g.height < g.row) ⊎ (g.row + g.down ≤ w.area.y0 / 2 ^ g.height)) e out) [
      | inl above ↦ inl (omega (arith, above, q))
      | inr below ↦ inr (omega (arith, below, q))
    ])))

-- code-block k of those of the row
pub of_part : (s : ComponentFrame) (w : Strip) (n k : ℕ) (grid : BlockGrid) → grid ≡ grid_in s w n → grid.row ≤ w.area.y0 / 2 ^ grid.height → w.area.y0 / 2 ^ grid.height < grid.row + grid.down → k < grid.across
    → IsOfPart s w n ((w.area.y0 / 2 ^ grid.height - grid.row) * grid.across + k)
of_part s w n k grid e from to lt =
    let both = row_blocks grid (w.area.y0 / 2 ^ grid.height) k from to lt in
    record {
      block = subst (λ (g : BlockGrid). (w.area.y0 / 2 ^ grid.height - grid.row) * grid.across + k < g.across * g.down) e both.0;
      row = subst (λ (g : BlockGrid). g.row + ((w.area.y0 / 2 ^ grid.height - grid.row) * grid.across + k) / g.across ≡ w.area.y0 / 2 ^ grid.height) e both.1 ∙ ap (λ (g : BlockGrid). w.area.y0 / 2 ^ g.height) e ∙ row_number s w n;
    }

place_given : (s : ComponentFrame) (w : Strip) (n j : ℕ) (grid : BlockGrid) (place : Rect) → grid ≡ grid_in s w n → place ≡ block_area grid j → place ≡ block_at_place s.rect s.coding w.resolution n w.band j
place_given s w n j grid place e ep = ep ∙ ap (λ (g : BlockGrid). block_area g j) e

pub part_of_strip : (s : ComponentFrame) (w : Strip) (n j : ℕ) (grid : BlockGrid) (place : Rect) → IsWholeRow s w → grid ≡ grid_in s w n → place ≡ block_area grid j → IsOfPart s w n j → IsPartOf place w.area
part_of_strip s w n j grid place is e ep at = subst (λ (b : Rect). IsPartOf b w.area) (sym (place_given s w n j grid place e ep)) (block_in_row s w n j is at.block at.row)

pub part_shape : (s : ComponentFrame) (w : Strip) (n j : ℕ) (grid : BlockGrid) (place : Rect) (k : Coding) (o : Orientation) → IsFrame s → grid ≡ grid_in s w n → place ≡ block_area grid j → k ≡ s.coding → o ≡ orientation_at w.resolution w.band
    → shape_of_area place o k.style ≡ block_shape s.rect s.coding w.resolution n w.band j
part_shape s w n j grid place k o frame e ep ek eo =
    ap (λ (b : Rect). shape_of_area b o k.style) (place_given s w n j grid place e ep) ∙ ap (λ (q : Orientation). shape_of_area (block_at_place s.rect s.coding w.resolution n w.band j) q k.style) eo
    ∙ ap (λ (x : Coding). shape_of_area (block_at_place s.rect s.coding w.resolution n w.band j) (orientation_at w.resolution w.band) x.style) ek

pub part_fits : (s : ComponentFrame) (w : Strip) (n j : ℕ) (grid : BlockGrid) (place : Rect) (k : Coding) (o : Orientation) → IsFrame s → grid ≡ grid_in s w n → place ≡ block_area grid j → k ≡ s.coding → o ≡ orientation_at w.resolution w.band → IsOfPart s w n j
    → IsBlockShape (shape_of_area place o k.style)
part_fits s w n j grid place k o frame e ep ek eo at =
    subst IsBlockShape (sym (part_shape s w n j grid place k o frame e ep ek eo)) (block_is_shape s.rect s.coding w.resolution n w.band j frame.coding at.block)

-- what is coded of it
pub part_block : (s : ComponentFrame) (w : Strip) (n j : ℕ) (grid : BlockGrid) (place : Rect) (c : Coding) (o : Orientation) (shape : BlockShape) (values : List ℤ) → IsFrame s → grid ≡ grid_in s w n → place ≡ block_area grid j → c ≡ s.coding → o ≡ orientation_at w.resolution w.band
    → shape ≡ shape_of_area place o c.style → values ≡ raster place (plane_at w.area w.values.now) → layered s.layers (coded shape values) ≡ layered_at s (row_values w) w.resolution n w.band j
part_block s w n j grid place c o shape values frame e ep ec eo es ev =
    ap (λ (x : BlockShape). layered s.layers (coded x values)) (es ∙ part_shape s w n j grid place c o frame e ep ec eo)
    ∙ ap (λ (l : List ℤ). layered s.layers (coded (block_shape s.rect s.coding w.resolution n w.band j) l)) (ev ∙ ap (λ (b : Rect). raster b (plane_at w.area w.values.now)) (place_given s w n j grid place e ep))

-- what is put behind
pub part_more : (d : ℕ → Layered) (first k : ℕ) (item : Layered) (front old new : List Layered) → item ≡ d (first + k) → old ≡ front ++ map d (range_with_len first k) → new ≡ old ++ item ∷ [] → new ≡ front ++ map d (range_with_len first (k + 1))
part_more d first k item front old new own was is =
    is ∙ ap (λ (l : List Layered). l ++ item ∷ []) was ∙ ap (λ (x : Layered). (front ++ map d (range_with_len first k)) ++ x ∷ []) own ∙ append_assoc front (map d (range_with_len first k)) (d (first + k) ∷ [])
    ∙ ap (λ (l : List Layered). front ++ l) (sym (map-range_with_len_more d first k (first + k) refl))

pub part_all : (s : ComponentFrame) (w : Strip) (f : ℕ → ℕ → ℕ → ℤ) (n k : ℕ) (grid : BlockGrid) → IsWholeRow s w → grid ≡ grid_in s w n → grid.row ≤ w.area.y0 / 2 ^ grid.height → w.area.y0 / 2 ^ grid.height < grid.row + grid.down → k ≡ grid.across
    → map (layered_at s f w.resolution n w.band) (range_with_len ((w.area.y0 / 2 ^ grid.height - grid.row) * grid.across) k) ≡ layered_between s f w.resolution n w.band w.area.y0 w.area.y1
part_all s w f n k grid is e from to ek =
    let g = grid_in s w n in
    let d = layered_at s f w.resolution n w.band in
    let q = row_number s w n in
    let low = subst (λ (x : BlockGrid). x.row ≤ w.area.y0 / 2 ^ x.height) e from in
    let high = subst (λ (x : BlockGrid). w.area.y0 / 2 ^ x.height < x.row + x.down) e to in
    ap (λ m. map d (range_with_len ((w.area.y0 / 2 ^ grid.height - grid.row) * grid.across) m)) ek
    ∙ ap (λ (x : BlockGrid). map d (range_with_len ((w.area.y0 / 2 ^ x.height - x.row) * x.across) x.across)) e
    ∙ ap (λ m. map d (range_with_len ((m - g.row) * g.across) g.across)) q ∙ sym (row_between s w f n is (omega (arith, low, q)) (omega (arith, high, q)))

-- those of a precinct
few_first : (row down across q : ℕ) → row ≤ q → q < row + down → across ≤ 2 ^ 13 → down ≤ 2 ^ 13 → (q - row) * across + across < 2 ^ 32
few_first row down across q from to wide high =
    let last : (q - row + 1) * across ≤ (q - row + 1) * 2 ^ 13 = mul-le-mul_left (q - row + 1) wide in
    let one : (q - row + 1) * across ≡ (q - row) * across + across = omega arith in
    omega (arith, last, one, from, to, high)

pub row_part_is : (s : ComponentFrame) (w : Strip) (p : RowPart) → IsWholeRow s w → p.grid ≡ grid_in s w p.precinct → IsGrid p.grid → p.grid.across ≤ 2 ^ 13 → p.grid.down ≤ 2 ^ 13 → p.grid.row ≤ w.area.y0 / 2 ^ p.grid.height → w.area.y0 / 2 ^ p.grid.height < p.grid.row + p.grid.down
    → p.first ≡ (w.area.y0 / 2 ^ p.grid.height - p.grid.row) * p.grid.across → IsRowPart s w p
row_part_is s w p is e sound wide high from to first = record {
  grid = e;
  sound = sound;
  few = (let few = few_first p.grid.row p.grid.down p.grid.across (w.area.y0 / 2 ^ p.grid.height) from to wide high in omega (arith, few, first));
  each = λ k lt. subst (λ m. IsOfPart s w p.precinct (m + k)) (sym first) (of_part s w p.precinct k p.grid e from to lt);
  all = ap (λ m. map (layered_at s (row_values w) w.resolution p.precinct w.band) (range_with_len m p.grid.across)) first ∙ part_all s w (row_values w) p.precinct p.grid.across p.grid is e from to refl;
}

-- ---- all precincts

thin : (s : ComponentFrame) (w : Strip) → IsWholeRow s w → is_empty w.area ≡ true → w.area.x1 ≤ w.area.x0
thin s w is none = elim (or_cases (leb w.area.x1 w.area.x0) (leb w.area.y1 w.area.y0) none) [
  | inl narrow ↦ leb-true w.area.x1 w.area.x0 narrow
  | inr low ↦
      (let e : ℕ = block_exponent s.coding w.resolution in
      let to = cell_to w.area.y0 (2 ^ e) (pow_pos e) in
      let end = is.end in let inside = is.inside in
      let le = leb-true w.area.y1 w.area.y0 low in
      absurd (omega (arith, to, end, inside, le)))
]

pub none_kept : (s : ComponentFrame) (w : Strip) (f : ℕ → ℕ → ℕ → ℤ) (n : ℕ) (old : List Layered) → IsWholeRow s w → n < precinct_number s.rect s.coding w.resolution → is_empty w.area ≡ true → old ≡ old ++ layered_between s f w.resolution n w.band w.area.y0 w.area.y1
none_kept s w f n old is lt none = sym (append-nil old) ∙ ap (λ (l : List Layered). old ++ l) (sym (none_empty s w f n is lt (thin s w is none)))

pub strip_done : (s : ComponentFrame) (w : Strip) (f : ℕ → ℕ → ℕ → ℤ) (first across end : ℕ) (old new : ℕ → List Layered) → IsWholeRow s w → first ≡ first_precinct_at s w.resolution w.area.y0 → across ≡ precincts_across s.rect s.coding w.resolution → end ≡ first + across
    → ((m : ℕ) → first ≤ m → m < end → new m ≡ old m ++ layered_between s f w.resolution m w.band w.area.y0 w.area.y1) → ((m : ℕ) → (m < first) ⊎ (end ≤ m) → new m ≡ old m)
    → (n : ℕ) → n < precinct_number s.rect s.coding w.resolution → new n ≡ old n ++ layered_between s f w.resolution n w.band w.area.y0 w.area.y1
strip_done s w f first across end old new is ef ea ee done rest n lt =
    let beside : (n < first) ⊎ (first + precincts_across s.rect s.coding w.resolution ≤ n) → old n ≡ old n ++ layered_between s f w.resolution n w.band w.area.y0 w.area.y1 =
    (λ out. sym (append-nil (old n)) ∙ ap (λ (l : List Layered). old n ++ l) (sym (none_beside s w f n first is lt ef out))) in
    elim (cases_lt n first) [
      | inl before ↦ rest n (inl before) ∙ beside (inl before)
      | inr from ↦ elim (cases_lt n end) [
        | inl within ↦ done n from within
        | inr behind ↦ rest n (inr behind) ∙ beside (inr (omega (arith, behind, ee, ea)))
      ]
    ]
