-- The rows of a part of a plane, moved to its front.
use Rattle.std.proofs.Common.{◌≡◌, ℕ, ◌+◌, ◌-◌, ◌*◌, ◌<◌, ◌≤◌, inl, inr, List, length, take, ℤ, pos, refl, sym, ◌∙◌, ap, arith}
use Rattle.std.specs.List.{CopiedTo, SameBelow, SameFrom}
use Rattle.std.proofs.Math.Nat.{mul-le-mul_right, mul-le-mul_left}
use Rattle.std.proofs.lemmas.Bool.{cases_eq}
use Rattle.std.proofs.lemmas.List.{get_or-take, length-take-le}
use Rattle.jk_math.specs.declared.rect.Rect.{Rect}
use Rattle.jk_math.specs.Raster.{columns_of, rows_of, places_of, plane_at, raster}
use Rattle.jk_math.specs.Signed.{signed_at}
use Rattle.jk_math.proofs.Laws.{raster_is, index_below}
use Rattle.jk_wave.specs.Regions.{IsPartOf}
use Rattle.jk_wave.proofs.Rows.{row_inside}

-- The first rows of the part stand in front, and what is behind them is as it was.
pub record AreMoved (area part : Rect) (row : ℕ) (old new : List ℤ) : Type 0 where
  pub moved : (j x : ℕ) → j < row → x < columns_of part → signed_at new (j * columns_of part + x)
      ≡ signed_at old ((part.y0 - area.y0 + j) * columns_of area + (part.x0 - area.x0 + x))
  pub others : (k : ℕ) → row * columns_of part ≤ k → signed_at new k ≡ signed_at old k

-- none is moved yet
pub none_moved : (area part : Rect) (plane : List ℤ) → AreMoved area part 0 plane plane
none_moved area part plane = record { moved = λ j x lj lx. absurd (omega arith); others = λ k h. refl }

-- where a row of the part begins, and ends
pub row_start : (area part : Rect) (row : ℕ) → IsPartOf part area → row < rows_of part →
    ((part.y0 - area.y0 + row) * columns_of area + (part.x0 - area.x0) + columns_of part ≤ places_of area) × (row * columns_of part + columns_of part ≤ places_of area)
row_start area part row h less =
    let l = h.left in let a = h.across in let r = h.right in let u = h.upper in let d = h.down in let b = h.lower in
    let inside = row_inside (columns_of area) (rows_of area) (part.y0 - area.y0 + row) (omega arith) in
    let under : (row + 1) * columns_of part ≤ (row + 1) * columns_of area = mul-le-mul_left (row + 1) (omega arith) in
    let high : (row + 1) * columns_of area ≤ rows_of area * columns_of area = mul-le-mul_right (columns_of area) (omega arith) in
    let spread : (row + 1) * columns_of part ≡ row * columns_of part + columns_of part = omega arith in
    (omega arith, omega arith)

-- a row of the part is never in front of where it is moved to
row_after : (top row w width : ℕ) → w ≤ width → row * w ≤ (top + row) * width
row_after top row w width less =
    let wide : row * w ≤ row * width = mul-le-mul_left row less in
    let high : row * width ≤ (top + row) * width = mul-le-mul_right width (omega arith) in
    omega arith

-- one row more
pub row_moved : (area part : Rect) (row start end : ℕ) (initial old new : List ℤ) → IsPartOf part area →
    start ≡ (part.y0 - area.y0 + row) * columns_of area + (part.x0 - area.x0) →
    CopiedTo old new start (row * columns_of part) (end - start) → SameBelow old new (row * columns_of part) →
    SameFrom old new (row * columns_of part + (end - start)) → end ≡ start + columns_of part →
    AreMoved area part row initial old → AreMoved area part (row + 1) initial new
row_moved area part row start end initial old new h at copied below behind is before =
    let l = h.left in let a = h.across in let r = h.right in
    let w = columns_of part in
    let spread : (row + 1) * w ≡ row * w + w = omega arith in
    record {
      moved = λ j x lj lx. elim (cases_eq j row) [
        | inl e ↦
            let across = row_after (part.y0 - area.y0) row w (columns_of area) (omega arith) in
            let here : start + (row * w + x - row * w) ≡ (part.y0 - area.y0 + row) * columns_of area + (part.x0 - area.x0 + x) = omega arith in
            ap (λ n. signed_at new (n * w + x)) e
            ∙ copied (row * w + x) (pos 0) (omega arith) (omega arith)
            ∙ ap (signed_at old) here
            ∙ before.others ((part.y0 - area.y0 + row) * columns_of area + (part.x0 - area.x0 + x)) (omega arith)
            ∙ ap (λ n. signed_at initial ((part.y0 - area.y0 + n) * columns_of area + (part.x0 - area.x0 + x))) (sym e)
        | inr ne ↦
            let under : (j + 1) * w ≤ row * w = mul-le-mul_right w (omega arith) in
            let each : (j + 1) * w ≡ j * w + w = omega arith in
            below (j * w + x) (pos 0) (omega arith) ∙ before.moved j x (omega arith) lx
      ];
      others = λ k ge. behind k (pos 0) (omega arith) ∙ before.others k (omega arith);
    }

-- what a plane has of all of its rectangle
pub crop_whole : (area part : Rect) (plane : List ℤ) → part ≡ area → length plane ≡ places_of area → plane ≡ raster part (plane_at area plane)
crop_whole area part plane same long = raster_is area plane (plane_at area plane) long (λ x y h. refl) ∙ ap (λ s. raster s (plane_at area plane)) (sym same)

-- and of a part, whose rows stand in front
pub crop_part : (area part : Rect) (n : ℕ) (old new : List ℤ) → IsPartOf part area → n ≡ places_of part → n ≤ length new →
    ((j x : ℕ) → j < rows_of part → x < columns_of part → signed_at new (j * columns_of part + x)
    ≡ signed_at old ((part.y0 - area.y0 + j) * columns_of area + (part.x0 - area.x0 + x))) →
    take n new ≡ raster part (plane_at area old)
crop_part area part n old new h long fits moved =
    raster_is part (take n new) (plane_at area old) (length-take-le n new fits ∙ long) (λ x y w.
    let wl = w.left in let wr = w.right in let wu = w.upper in let wb = w.lower in
    let l = h.left in let u = h.upper in
    let some = index_below part x y w in
    let across : part.x0 - area.x0 + (x - part.x0) ≡ x - area.x0 = omega arith in
    let down : part.y0 - area.y0 + (y - part.y0) ≡ y - area.y0 = omega arith in
    get_or-take n new ((y - part.y0) * columns_of part + (x - part.x0)) (pos 0) (omega arith)
    ∙ moved (y - part.y0) (x - part.x0) (omega arith) (omega arith)
    ∙ ap (λ k. signed_at old (k * columns_of area + (part.x0 - area.x0 + (x - part.x0)))) down
    ∙ ap (λ k. signed_at old ((y - area.y0) * columns_of area + k)) across)

-- a part has no more places than its rectangle
pub part_fewer : (area part : Rect) → IsPartOf part area → places_of part ≤ places_of area
part_fewer area part h =
    let l = h.left in let a = h.across in let r = h.right in let u = h.upper in let d = h.down in let b = h.lower in
    let wide : rows_of part * columns_of part ≤ rows_of part * columns_of area = mul-le-mul_left (rows_of part) (omega arith) in
    let high : rows_of part * columns_of area ≤ rows_of area * columns_of area = mul-le-mul_right (columns_of area) (omega arith) in
    omega arith
