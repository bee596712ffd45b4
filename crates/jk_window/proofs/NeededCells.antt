-- The precincts that a stretch needs, by their columns and rows.
use Rattle.std.proofs.Common.{◌≡◌, ℕ, zero, suc, ◌+◌, ◌-◌, ◌/◌, ◌%◌, ◌<◌, ◌⊎◌, inl, inr, true, false, not, leb, ap, arith}
use Rattle.std.specs.Prelude.{◌||◌}
use Rattle.std.proofs.lemmas.Bool.{not-true, or_parts, or_cases, and_parts, leb-false}
use Rattle.jk_math.specs.declared.rect.Rect.{Rect}
use Rattle.jk_marks.specs.declared.coding.Coding.{Coding}
use Rattle.jk_math.specs.declared.orientation.Orientation.{Orientation}
use Rattle.jk_math.specs.declared.orientation.Orientation.TheVariants.{LL, HL, LH, HH}
use Rattle.jk_geom.specs.Rectangles.{is_empty, meet, touches, cell, band_area}
use Rattle.jk_geom.specs.Precincts.{precincts_across, precinct_column, precinct_row, precinct_area, part_width, part_height}
use Rattle.jk_geom.proofs.Laws.{sides_some}
use Rattle.jk_window.specs.Needs.{needed_part, needs}
use Rattle.jk_window.specs.NeededNumbers.{IsShared, NeedsColumn, NeedsRow}

-- ---- two rectangles that have a place in common have one on either side

record AreSides (a : Rect) : Type 0 where
  pub across : a.x0 < a.x1
  pub down : a.y0 < a.y1

some_sides : (a : Rect) → is_empty a ≡ false → AreSides a
some_sides a e =
    let parts = or_parts (leb a.x1 a.x0) (leb a.y1 a.y0) e in
    record { across = leb-false a.x1 a.x0 parts.0; down = leb-false a.y1 a.y0 parts.1 }

cell_sides : (c d w h : ℕ) (b p : Rect) → touches (meet (cell c d w h) b) p ≡ true → IsShared c w (meet b p).x0 (meet b p).x1 × IsShared d h (meet b p).y0 (meet b p).y1
cell_sides c d w h b p e =
    let sides = some_sides (meet (meet (cell c d w h) b) p) (not-true (is_empty (meet (meet (cell c d w h) b) p)) e) in
    let across = sides.across in
    let down = sides.down in
    (omega (arith, across), omega (arith, down))

cell_touches : (c d w h : ℕ) (b p : Rect) → IsShared c w (meet b p).x0 (meet b p).x1 → IsShared d h (meet b p).y0 (meet b p).y1 → touches (meet (cell c d w h) b) p ≡ true
cell_touches c d w h b p across down = ap not (sides_some (meet (meet (cell c d w h) b) p) (omega (arith, across)) (omega (arith, down)))

-- ---- so a precinct has a needed place of a sub-band where its column and its row have one

pub sides_of : (a : Rect) (k : Coding) (u : Rect) (n r m : ℕ) (o : Orientation) → touches (precinct_area a k r m o) (needed_part u n o) ≡ true → NeedsColumn a k u n r o (m % precincts_across a k r) × NeedsRow a k u n r o (m / precincts_across a k r)
unfolding precinct_area precinct_column precinct_row
sides_of a k u n r m o e = cell_sides (precinct_column a k r m) (precinct_row a k r m) (part_width k r) (part_height k r) (band_area a k.levels r o) (needed_part u n o) e

pub of_sides : (a : Rect) (k : Coding) (u : Rect) (n r m : ℕ) (o : Orientation) → NeedsColumn a k u n r o (m % precincts_across a k r) → NeedsRow a k u n r o (m / precincts_across a k r) → touches (precinct_area a k r m o) (needed_part u n o) ≡ true
unfolding precinct_area precinct_column precinct_row
of_sides a k u n r m o across down = cell_touches (precinct_column a k r m) (precinct_row a k r m) (part_width k r) (part_height k r) (band_area a k.levels r o) (needed_part u n o) across down

-- HL and LH have the columns and rows of HH between them
pub high_columns : (a : Rect) (k : Coding) (u : Rect) (n r i : ℕ) → NeedsColumn a k u n r HH i → NeedsColumn a k u n r HL i
unfolding band_area
high_columns a k u n r i h = h

pub high_rows : (a : Rect) (k : Coding) (u : Rect) (n r i : ℕ) → NeedsRow a k u n r HH i → NeedsRow a k u n r LH i
unfolding band_area
high_rows a k u n r i h = h

pub columns_again : (a : Rect) (k : Coding) (u : Rect) (n r i : ℕ) → NeedsColumn a k u n r HL i → NeedsColumn a k u n r HH i
unfolding band_area
columns_again a k u n r i h = h

pub rows_again : (a : Rect) (k : Coding) (u : Rect) (n r i : ℕ) → NeedsRow a k u n r LH i → NeedsRow a k u n r HH i
unfolding band_area
rows_again a k u n r i h = h

-- ---- which sub-band it is

pub lowest_one : (a : Rect) (k : Coding) (u : Rect) (d r m : ℕ) → r ≡ 0 → needs a k u d r m ≡ true → touches (precinct_area a k r m LL) (needed_part u (k.levels - (r + d)) LL) ≡ true
lowest_one a k u d zero m e need = elim (or_cases (touches (precinct_area a k 0 m LL) (needed_part u (k.levels - (0 + d)) LL)) false (and_parts (leb (0 + d) k.levels) _ need).1) [ inl here ↦ here | inr never ↦ absurd cc ]
lowest_one a k u d (suc r) m e need = absurd (omega arith)

-- a precinct above the lowest resolution that is needed has a place of one of three sub-bands
pub high_one : (a : Rect) (k : Coding) (u : Rect) (d r m : ℕ) → 0 < r → needs a k u d r m ≡ true
    → (touches (precinct_area a k r m HL) (needed_part u (k.levels - (r + d)) HL) ≡ true)
    ⊎ ((touches (precinct_area a k r m LH) (needed_part u (k.levels - (r + d)) LH) ≡ true)
    ⊎ (touches (precinct_area a k r m HH) (needed_part u (k.levels - (r + d)) HH) ≡ true))
high_one a k u d zero m e need = absurd (omega arith)
high_one a k u d (suc r) m e need =
    let t = λ (o : Orientation). touches (precinct_area a k (suc r) m o) (needed_part u (k.levels - (suc r + d)) o) in
    elim (or_cases (t HL) (t LH || (t HH || false)) (and_parts (leb (suc r + d) k.levels) _ need).1) [
      | inl hl ↦ inl hl
      | inr more ↦ elim (or_cases (t LH) (t HH || false) more) [
        | inl lh ↦ inr (inl lh)
        | inr more ↦ elim (or_cases (t HH) false more) [ inl hh ↦ inr (inr hh) | inr never ↦ absurd cc ]
      ]
    ]
