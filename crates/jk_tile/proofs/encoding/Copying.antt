-- A part of a rectangle, copied row by row.
use Rattle.std.proofs.Common.{◌≡◌, ℕ, ◌+◌, ◌-◌, ◌*◌, ◌<◌, ◌≤◌, List, [], ◌++◌, length, take, drop, ℤ, pos, ap, ◌∙◌, inl, inr, arith, length-append, length-drop}
use Rattle.std.proofs.lemmas.Bool.{cases_lt}
use Rattle.std.proofs.lemmas.List.{get_or-take, get_or-drop, length-take-le, get_or_append_left, get_or-append_right}
use Rattle.std.proofs.lemmas.Nat.{row_fits}
use Rattle.jk_math.specs.declared.rect.Rect.{Rect}
use Rattle.jk_math.specs.Raster.{columns_of, rows_of, places_of, plane_at, raster}
use Rattle.jk_math.specs.Signed.{signed_at}
use Rattle.jk_math.proofs.Laws.{raster_is}
use Rattle.jk_tile.specs.Filling.{IsPartOf, row_start, row_of}

pub start_inside : (area part : Rect) (row : ℕ) → IsPartOf part area → row < rows_of part → row_start area part row + columns_of part ≤ places_of area
start_inside area part row is lt =
    let left = is.left in let across = is.across in let right = is.right in let upper = is.upper in let lower = is.lower in
    let w = columns_of area in
    let fits : (part.y0 - area.y0 + row) * w + w ≤ rows_of area * w = row_fits (part.y0 - area.y0 + row) w (rows_of area) w (omega (arith, upper, lower, lt)) (omega arith) in
    omega (arith, fits, left, across, right)

row_long : (area part : Rect) (row : ℕ) (values : List ℤ) → IsPartOf part area → row < rows_of part → length values ≡ places_of area → length (row_of area part row values) ≡ columns_of part
row_long area part row values is lt long =
    let at = row_start area part row in
    let fits = start_inside area part row is lt in
    length-take-le (columns_of part) (drop at values) (rw length-drop (omega (arith, fits, long)))

-- The first rows of the part are copied.
pub record IsCut (area part : Rect) (row : ℕ) (values cut : List ℤ) : Type 0 where
  pub long : length cut ≡ row * columns_of part
  pub each : (x y : ℕ) → part.x0 ≤ x → x < part.x1 → part.y0 ≤ y → y < part.y0 + row → plane_at part cut x y ≡ plane_at area values x y

pub cut_none : (area part : Rect) (values cut : List ℤ) → cut ≡ [] → IsCut area part 0 values cut
cut_none area part values cut e = record { long = ap (λ (l : List ℤ). length l) e ∙ (let z : 0 ≡ 0 * columns_of part = omega arith in z); each = λ x y left right upper lower. absurd (omega (arith, upper, lower)) }

-- the value at a place of the row
row_value : (area part : Rect) (row x y : ℕ) (values : List ℤ) → IsPartOf part area → y ≡ part.y0 + row → part.x0 ≤ x → x < part.x1 → signed_at (row_of area part row values) (x - part.x0) ≡ plane_at area values x y
row_value area part row x y values is e from below =
    let left = is.left in let upper = is.upper in
    let at = row_start area part row in
    let w = columns_of area in
    let inside : x - part.x0 < columns_of part = omega (arith, from, below) in
    let same : (y - area.y0) * w ≡ (part.y0 - area.y0 + row) * w = let d : y - area.y0 ≡ part.y0 - area.y0 + row = omega (arith, e, upper) in ap (λ r. r * w) d in
    let index : at + (x - part.x0) ≡ (y - area.y0) * w + (x - area.x0) = omega (arith, same, from, left) in
    get_or-take (columns_of part) (drop at values) (x - part.x0) (pos 0) inside ∙ get_or-drop at values (x - part.x0) (pos 0) ∙ ap (signed_at values) index

pub cut_more : (area part : Rect) (row : ℕ) (values cut : List ℤ) → IsPartOf part area → length values ≡ places_of area → row < rows_of part → IsCut area part row values cut
    → IsCut area part (row + 1) values (cut ++ take (columns_of part) (drop (row_start area part row) values))
cut_more area part row values cut is long lt so = record {
  long = length-append cut (row_of area part row values) ∙ (let e : length cut + length (row_of area part row values) ≡ (row + 1) * columns_of part = omega (arith, so.long, row_long area part row values is lt long) in e);
  each = λ x y from below upper lower. elim (cases_lt y (part.y0 + row)) [
    | inl above ↦
        let w = columns_of part in
        let fits : (y - part.y0) * w + w ≤ row * w = row_fits (y - part.y0) w row w (omega (arith, upper, above)) (omega arith) in
        get_or_append_left cut (row_of area part row values) (pos 0) ((y - part.y0) * w + (x - part.x0)) (omega (arith, fits, so.long, from, below)) ∙ so.each x y from below upper above
    | inr here ↦
        let w = columns_of part in
        let e : y ≡ part.y0 + row = omega (arith, here, lower) in
        let down : y - part.y0 ≡ row = omega (arith, e) in
        let first : (y - part.y0) * w ≡ row * w = ap (λ r. r * w) down in
        get_or-append_right cut (row_of area part row values) (row * w) ((y - part.y0) * w + (x - part.x0)) (pos 0) so.long (omega (arith, first))
        ∙ (let rest : (y - part.y0) * w + (x - part.x0) - row * w ≡ x - part.x0 = omega (arith, first) in ap (signed_at (row_of area part row values)) rest)
        ∙ row_value area part row x y values is e from below
  ];
}

pub cut_all : (area part : Rect) (row : ℕ) (values cut : List ℤ) → IsPartOf part area → row ≡ rows_of part → IsCut area part row values cut → cut ≡ raster part (plane_at area values)
cut_all area part row values cut is all so =
    let down = is.down in
    raster_is part cut (plane_at area values) (so.long ∙ ap (λ n. n * columns_of part) all) (λ x y h. so.each x y h.left h.right h.upper (let lower = h.lower in omega (arith, lower, all, down)))
