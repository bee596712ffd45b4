-- Where the parts of a level lie in its list of rows.
use Rattle.std.proofs.Common.{◌≡◌, ℕ, ◌+◌, ◌-◌, ◌*◌, ◌/◌, ◌%◌, ◌<◌, ◌≤◌, inl, inr, List, ℤ, sym, ◌∙◌, ap, arith}
use Rattle.std.proofs.lemmas.Bool.{cases_eq, cases_lt}
use Rattle.std.proofs.lemmas.Nat.{div-mul-add, mod-mul-add}
use Rattle.jk_math.specs.declared.rect.Rect.{Rect}
use Rattle.jk_math.specs.Raster.{columns_of, rows_of, places_of}
use Rattle.jk_math.specs.Signed.{signed_at}
use Rattle.jk_geom.specs.Rectangles.{IsWithin}
use Rattle.jk_wave.specs.Levels.{half_bound, half_area}
use Rattle.jk_wave.specs.LevelRows.{index_in, coefficient_of, first_of_part, part_rows, FitsIn, woven_rows}
use Rattle.jk_wave.proofs.Equations.{woven_even, woven_odd}
use Rattle.jk_wave.proofs.Local.{parities}
use Rattle.jk_wave.proofs.Rows.{row_inside}

-- the row of a coefficient of part o, and its column there
abbrev pub row_in : Rect → (o v : ℕ) → ℕ
row_in a o v = 2 * v + o / 2 - a.y0

abbrev pub column_in : Rect → (o u : ℕ) → ℕ
column_in a o u = (o % 2) * columns_of (half_area a 0) + (u - half_bound a.x0 (o % 2))

pub part_index : (a : Rect) (o u v : ℕ) → o < 4 → half_bound a.y0 (o / 2) ≤ v → index_in (part_rows a o) u v ≡ row_in a o v * columns_of a + column_in a o u
unfolding first_of_part
part_index a o u v few from =
    let w : ℕ = columns_of a in
    let first : ℕ = 2 * half_bound a.y0 (o / 2) + o / 2 - a.y0 in
    let more : ℕ = v - half_bound a.y0 (o / 2) in
    let rows : row_in a o v ≡ first + 2 * more = omega arith in
    let spread : (first + 2 * more) * w ≡ first * w + more * (2 * w) = omega arith in
    let at : row_in a o v * w ≡ (first + 2 * more) * w = ap (λ n. n * w) rows in
    omega arith

column_low : (a : Rect) (o u : ℕ) → o % 2 ≡ 0 → column_in a o u ≡ u - half_bound a.x0 0
column_low a o u e = ap (λ p. p * columns_of (half_area a 0) + (u - half_bound a.x0 p)) e ∙ (let none : 0 * columns_of (half_area a 0) + (u - half_bound a.x0 0) ≡ u - half_bound a.x0 0 = omega arith in none)

column_high : (a : Rect) (o u : ℕ) → o % 2 ≡ 1 → column_in a o u ≡ columns_of (half_area a 0) + (u - half_bound a.x0 1)
column_high a o u e = ap (λ p. p * columns_of (half_area a 0) + (u - half_bound a.x0 p)) e ∙ (let one : 1 * columns_of (half_area a 0) + (u - half_bound a.x0 1) ≡ columns_of (half_area a 0) + (u - half_bound a.x0 1) = omega arith in one)

-- a coefficient stands in one of the rows, and within it
pub part_row : (a : Rect) (o u v : ℕ) → o < 4 → IsWithin (half_area a o) u v → row_in a o v < rows_of a
part_row a o u v few h = let upper = h.upper in let lower = h.lower in omega arith

pub part_column : (a : Rect) (o u v : ℕ) → o < 4 → IsWithin (half_area a o) u v → column_in a o u < columns_of a
part_column a o u v few h =
    let left = h.left in let right = h.right in
    elim (cases_eq (o % 2) 0) [
      | inl e ↦ let at = column_low a o u e in omega arith
      | inr ne ↦ let at = column_high a o u (omega arith) in omega arith
    ]

pub part_inside : (a : Rect) (o u v : ℕ) → o < 4 → IsWithin (half_area a o) u v → index_in (part_rows a o) u v < places_of a
part_inside a o u v few h =
    let at = part_index a o u v few h.upper in
    let across = part_column a o u v few h in
    let fits = row_inside (columns_of a) (rows_of a) (row_in a o v) (part_row a o u v few h) in
    omega arith

-- each row of a part ends within the list
pub rows_fit : (a : Rect) (o : ℕ) → o < 4 → FitsIn (part_rows a o) (places_of a)
rows_fit a o few row inside =
    let y : ℕ = half_bound a.y0 (o / 2) + row in
    let x : ℕ = half_bound a.x0 (o % 2) in
    let down : y - half_bound a.y0 (o / 2) ≡ row = omega arith in
    let across : x - half_bound a.x0 (o % 2) ≡ 0 = omega arith in
    let at : first_of_part a o + (y - half_bound a.y0 (o / 2)) * (2 * columns_of a) + (x - half_bound a.x0 (o % 2)) ≡ row_in a o y * columns_of a + column_in a o x = part_index a o x y few (omega arith) in
    let begin : first_of_part a o + row * (2 * columns_of a) + 0 ≡ row_in a o y * columns_of a + column_in a o x =
    ap (λ n. first_of_part a o + n * (2 * columns_of a) + 0) (sym down) ∙ ap (λ n. first_of_part a o + (y - half_bound a.y0 (o / 2)) * (2 * columns_of a) + n) (sym across) ∙ at in
    let ends : column_in a o x + columns_of (half_area a o) ≤ columns_of a = elim (cases_eq (o % 2) 0) [
      | inl e ↦ let c = column_low a o x e in omega arith
      | inr ne ↦ let c = column_high a o x (omega arith) in omega arith
    ] in
    let fits = row_inside (columns_of a) (rows_of a) (row_in a o y) (omega arith) in
    omega arith

-- a row and a column are told by where they meet
pub same_row : (w r c q d : ℕ) → c < w → d < w → r * w + c ≡ q * w + d → r ≡ q
same_row w r c q d lc ld e = sym (div-mul-add r w c lc) ∙ ap (λ n. n / w) e ∙ div-mul-add q w d ld

pub same_column : (w r c q d : ℕ) → c < w → d < w → r * w + c ≡ q * w + d → c ≡ d
same_column w r c q d lc ld e = sym (mod-mul-add r w c lc) ∙ ap (λ n. n % w) e ∙ mod-mul-add q w d ld

-- two coefficients at one place are one
pub part_apart : (a : Rect) (o p u v x y : ℕ) → o < 4 → p < 4 → IsWithin (half_area a o) u v → IsWithin (half_area a p) x y →
    index_in (part_rows a o) u v ≡ index_in (part_rows a p) x y → (o ≡ p) × (u ≡ x) × (v ≡ y)
part_apart a o p u v x y few four h k same =
    let hl = h.left in let hr = h.right in let hu = h.upper in
    let kl = k.left in let kr = k.right in let ku = k.upper in
    let w : ℕ = columns_of a in
    let here = part_column a o u v few h in
    let there = part_column a p x y four k in
    let index : row_in a o v * w + column_in a o u ≡ row_in a p y * w + column_in a p x = sym (part_index a o u v few hu) ∙ same ∙ part_index a p x y four ku in
    let rows : row_in a o v ≡ row_in a p y = same_row w (row_in a o v) (column_in a o u) (row_in a p y) (column_in a p x) here there index in
    let columns : column_in a o u ≡ column_in a p x = same_column w (row_in a o v) (column_in a o u) (row_in a p y) (column_in a p x) here there index in
    let down : v ≡ y = omega arith in
    let half : o / 2 ≡ p / 2 = omega arith in
    let both = across a o p u x hl hr kl kr columns in
    (omega (arith, both.0), both.1, down)
  where
    across : (a : Rect) (o p u x : ℕ) → half_bound a.x0 (o % 2) ≤ u → u < half_bound a.x1 (o % 2) → half_bound a.x0 (p % 2) ≤ x → x < half_bound a.x1 (p % 2) →
        column_in a o u ≡ column_in a p x → (o % 2 ≡ p % 2) × (u ≡ x)
    across a o p u x hl hr kl kr columns = elim (cases_eq (o % 2) 0) [
      | inl e ↦ elim (cases_eq (p % 2) 0) [
        | inl f ↦ let c = column_low a o u e in let d = column_low a p x f in (omega arith, omega arith)
        | inr nf ↦ let c = column_low a o u e in let d = column_high a p x (omega arith) in absurd (omega arith)
      ]
      | inr ne ↦ elim (cases_eq (p % 2) 0) [
        | inl f ↦ let c = column_high a o u (omega arith) in let d = column_low a p x f in absurd (omega arith)
        | inr nf ↦ let c = column_high a o u (omega arith) in let d = column_high a p x (omega arith) in (omega arith, omega arith)
      ]
    ]

-- each entry is a coefficient of a part
pub record IsEntry (a : Rect) (j k : ℕ) : Type 0 where
  pub part : ℕ
  pub across : ℕ
  pub down : ℕ
  pub few : part < 4
  pub within : IsWithin (half_area a part) across down
  pub at : index_in (part_rows a part) across down ≡ j * columns_of a + k

pub entry_of : (a : Rect) (j k : ℕ) → j < rows_of a → k < columns_of a → IsEntry a j k
entry_of a j k lj lk =
    let q : ℕ = (a.y0 + j) % 2 in
    let v : ℕ = (a.y0 + j) / 2 in
    elim (cases_lt k (columns_of (half_area a 0))) [
      | inl low ↦ made a j k (2 * q) (half_bound a.x0 0 + k) v (omega arith) (omega arith)
          (let even : (2 * q) % 2 ≡ 0 = omega arith in record { left = omega arith; right = omega arith; upper = omega arith; lower = omega arith })
          (let even : (2 * q) % 2 ≡ 0 = omega arith in column_low a (2 * q) (half_bound a.x0 0 + k) even ∙ (let e : half_bound a.x0 0 + k - half_bound a.x0 0 ≡ k = omega arith in e))
      | inr high ↦ made a j k (2 * q + 1) (half_bound a.x0 1 + (k - columns_of (half_area a 0))) v (omega arith) (omega arith)
          (let odd : (2 * q + 1) % 2 ≡ 1 = omega arith in record { left = omega arith; right = omega arith; upper = omega arith; lower = omega arith })
          (let odd : (2 * q + 1) % 2 ≡ 1 = omega arith in column_high a (2 * q + 1) (half_bound a.x0 1 + (k - columns_of (half_area a 0))) odd ∙ (let e : columns_of (half_area a 0) + (half_bound a.x0 1 + (k - columns_of (half_area a 0)) - half_bound a.x0 1) ≡ k = omega arith in e))
    ]
  where
    made : (a : Rect) (j k o u v : ℕ) → o < 4 → row_in a o v ≡ j → IsWithin (half_area a o) u v → column_in a o u ≡ k → IsEntry a j k
    made a j k o u v few row h column = record {
      part = o;
      across = u;
      down = v;
      few = few;
      within = h;
      at = part_index a o u v few h.upper ∙ ap (λ n. n * columns_of a + column_in a o u) row ∙ ap (λ n. j * columns_of a + n) column;
    }

-- what the rows are woven to, by parts and by places of the list
pub woven_part : (a : Rect) (rows : List ℤ) (x y : ℕ) → woven_rows a rows x y ≡ coefficient_of (part_rows a (x % 2 + 2 * (y % 2))) rows (x / 2) (y / 2)
unfolding woven_rows
woven_part a rows x y = elim (parities x y) [
  | inl e ↦
      let none : 0 ≡ x % 2 + 2 * (y % 2) = omega arith in
      woven_even (coefficient_of (part_rows a 0) rows) (λ o. coefficient_of (part_rows a o) rows) x y e.0 e.1
      ∙ ap (λ o. coefficient_of (part_rows a o) rows (x / 2) (y / 2)) none
  | inr odd ↦ woven_odd (coefficient_of (part_rows a 0) rows) (λ o. coefficient_of (part_rows a o) rows) x y odd
]

woven_index : (a : Rect) (rows : List ℤ) (x y k : ℕ) → a.y0 ≤ y → column_in a (x % 2 + 2 * (y % 2)) (x / 2) ≡ k →
    woven_rows a rows x y ≡ signed_at rows ((y - a.y0) * columns_of a + k)
woven_index a rows x y k from column =
    let o : ℕ = x % 2 + 2 * (y % 2) in
    let row : row_in a o (y / 2) ≡ y - a.y0 = omega arith in
    woven_part a rows x y
    ∙ ap (signed_at rows) (part_index a o (x / 2) (y / 2) (omega arith) (omega arith)
    ∙ ap (λ n. n * columns_of a + column_in a o (x / 2)) row ∙ ap (λ n. (y - a.y0) * columns_of a + n) column)

pub woven_at_even : (a : Rect) (rows : List ℤ) (x y : ℕ) → a.y0 ≤ y → x % 2 ≡ 0 →
    woven_rows a rows x y ≡ signed_at rows ((y - a.y0) * columns_of a + (x / 2 - (a.x0 + 1) / 2))
woven_at_even a rows x y from e =
    let o : ℕ = x % 2 + 2 * (y % 2) in
    let even : o % 2 ≡ 0 = omega arith in
    let b : half_bound a.x0 0 ≡ (a.x0 + 1) / 2 = omega arith in
    woven_index a rows x y (x / 2 - (a.x0 + 1) / 2) from (column_low a o (x / 2) even ∙ ap (λ n. x / 2 - n) b)

pub woven_at_odd : (a : Rect) (rows : List ℤ) (x y : ℕ) → a.y0 ≤ y → x % 2 ≡ 1 →
    woven_rows a rows x y ≡ signed_at rows ((y - a.y0) * columns_of a + (columns_of (half_area a 0) + (x / 2 - a.x0 / 2)))
woven_at_odd a rows x y from e =
    let o : ℕ = x % 2 + 2 * (y % 2) in
    let odd : o % 2 ≡ 1 = omega arith in
    let b : half_bound a.x0 1 ≡ a.x0 / 2 = omega arith in
    woven_index a rows x y (columns_of (half_area a 0) + (x / 2 - a.x0 / 2)) from (column_high a o (x / 2) odd ∙ ap (λ n. columns_of (half_area a 0) + (x / 2 - n)) b)
