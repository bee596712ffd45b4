-- The rows of a level, of which the first are made samples.
use Rattle.std.proofs.Common.{◌≡◌, ◌≢◌, ℕ, ◌+◌, ◌-◌, ◌*◌, ◌/◌, ◌%◌, ◌^◌, ◌<◌, ◌≤◌, inl, inr, List, length, ℤ, pos, refl, sym, ◌∙◌, ap, subst, arith}
use Rattle.std.specs.List.{All}
use Rattle.std.proofs.lemmas.Bool.{cases_eq}
use Rattle.std.proofs.lemmas.List.Elements.{All-from_get_or}
use Rattle.jk_math.specs.declared.rect.Rect.{Rect}
use Rattle.jk_math.specs.Raster.{columns_of, rows_of, places_of}
use Rattle.jk_math.specs.Signed.{IsBelow, signed_at}
use Rattle.jk_lift.specs.Lifting.{unlifted}
use Rattle.jk_lift.proofs.Laws.{is_local_line}
use Rattle.jk_wave.specs.Levels.{half_area, row_of}
use Rattle.jk_wave.specs.LevelRows.{woven_rows, IsBoundedLevel}
use Rattle.jk_wave.proofs.PartRows.{woven_at_even, woven_at_odd}
use Rattle.jk_wave.proofs.Rows.{row_entry, row_length, row_inside}
use Rattle.jk_wave.proofs.Synthesis.{level_small, size_below}

-- The rows in front are samples, and the others are as they were.
pub record AreMade (area : Rect) (row : ℕ) (old new : List ℤ) : Type 0 where
  pub made : (j x : ℕ) → j < row → x < columns_of area → signed_at new (j * columns_of area + x)
      ≡ unlifted area.x0 area.x1 (λ i. woven_rows area old i (area.y0 + j)) (area.x0 + x)
  pub left : (j x : ℕ) → row ≤ j → x < columns_of area → signed_at new (j * columns_of area + x) ≡ signed_at old (j * columns_of area + x)

pub none_made : (area : Rect) (old : List ℤ) → AreMade area 0 old old
none_made area old = record { made = λ j x lj lx. absurd (omega arith); left = λ j x ge lx. refl }

-- rows that are one are woven to one
woven_same : (area : Rect) (rows other : List ℤ) (row i : ℕ) → area.x0 ≤ i → i < area.x1 →
    ((x : ℕ) → x < columns_of area → signed_at rows (row * columns_of area + x) ≡ signed_at other (row * columns_of area + x)) →
    woven_rows area rows i (area.y0 + row) ≡ woven_rows area other i (area.y0 + row)
woven_same area rows other row i from to same =
    let w : ℕ = columns_of area in
    let there : area.y0 + row - area.y0 ≡ row = omega arith in
    let at : (k : ℕ) → k < w → signed_at rows ((area.y0 + row - area.y0) * w + k) ≡ signed_at other ((area.y0 + row - area.y0) * w + k) = λ k lt.
    ap (λ n. signed_at rows (n * w + k)) there ∙ same k lt ∙ ap (λ n. signed_at other (n * w + k)) (sym there) in
    elim (cases_eq (i % 2) 0) [
      | inl even ↦
          let k : ℕ = i / 2 - (area.x0 + 1) / 2 in
          woven_at_even area rows i (area.y0 + row) (omega arith) even ∙ at k (omega arith) ∙ sym (woven_at_even area other i (area.y0 + row) (omega arith) even)
      | inr not_even ↦
          let odd : i % 2 ≡ 1 = omega arith in
          let k : ℕ = columns_of (half_area area 0) + (i / 2 - area.x0 / 2) in
          woven_at_odd area rows i (area.y0 + row) (omega arith) odd ∙ at k (omega arith) ∙ sym (woven_at_odd area other i (area.y0 + row) (omega arith) odd)
    ]

-- one row more
pub made_more : (area : Rect) (row : ℕ) (initial old new : List ℤ) →
    ((x : ℕ) → x < columns_of area → signed_at new (row * columns_of area + x) ≡ unlifted area.x0 area.x1 (λ i. woven_rows area old i (area.y0 + row)) (area.x0 + x)) →
    ((j x : ℕ) → j ≢ row → x < columns_of area → signed_at new (j * columns_of area + x) ≡ signed_at old (j * columns_of area + x)) →
    AreMade area row initial old → AreMade area (row + 1) initial new
made_more area row initial old new written others before = record {
  made = λ j x lj lx. elim (cases_eq j row) [
    | inl e ↦ subst (λ n. signed_at new (n * columns_of area + x) ≡ unlifted area.x0 area.x1 (λ i. woven_rows area initial i (area.y0 + n)) (area.x0 + x)) (sym e)
        (written x lx
        ∙ is_local_line area.x0 area.x1 area.x0 area.x1 (λ i. woven_rows area old i (area.y0 + row)) (λ i. woven_rows area initial i (area.y0 + row))
        (λ i from to uf ut. woven_same area old initial row i from to (λ k lk. before.left row k (omega arith) lk))
        (area.x0 + x) (omega arith) (omega arith) (omega arith) (omega arith))
    | inr ne ↦ others j x ne lx ∙ before.made j x (omega arith) lx
  ];
  left = λ j x ge lx. others j x (let apart : j ≢ row = omega arith in apart) lx ∙ before.left j x (omega arith) lx;
}

-- the next row is bounded as a line asks
pub next_small : (area : Rect) (row : ℕ) (initial old : List ℤ) → row < rows_of area → length old ≡ places_of area → IsBoundedLevel area initial →
    AreMade area row initial old → All (IsBelow (2 ^ 29)) (row_of (columns_of area) row old)
next_small area row initial old inside long small before =
    let w : ℕ = columns_of area in
    let fits = row_inside w (rows_of area) row inside in
    let wide : length (row_of w row old) ≡ w = row_length w w row old refl (omega arith) in
    All-from_get_or (IsBelow (2 ^ 29)) (row_of w row old) (pos 0) (λ k lt.
    let across : k < w = omega arith in
    subst (IsBelow (2 ^ 29)) (sym (row_entry w row old k across ∙ before.left row k (omega arith) across))
    (size_below (2 ^ 29) (signed_at initial (row * w + k)) (level_small area initial small row k inside across)))
