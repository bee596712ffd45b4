-- Rows of a list of rows: what stands in one, and what is left of the others where one is written.
use Rattle.std.proofs.Common.{◌≡◌, ◌≢◌, ℕ, ◌+◌, ◌-◌, ◌*◌, ◌<◌, ◌≤◌, ◌⊎◌, inl, inr, List, ◌++◌, length, take, drop, ℤ, pos, sym, ◌∙◌, ap, subst, length-drop, arith}
use Rattle.std.proofs.Math.Nat.{mul-le-mul_right}
use Rattle.std.proofs.lemmas.Bool.{cases_lt, cases_eq}
use Rattle.std.proofs.lemmas.Nat.{row_fits}
use Rattle.std.proofs.lemmas.List.{get_or-take, get_or-drop, get_or_append_left, get_or-append_right, get_or-append-add, length-take-le}
use Rattle.std.proofs.lemmas.Grind.{common_steps}
use borrow.Rule.Slice.PartMut.{put_mid}
use Rattle.jk_math.specs.Signed.{signed_at}
use Rattle.jk_wave.specs.Levels.{row_of}

pub row_entry : (w v : ℕ) (values : List ℤ) (k : ℕ) → k < w → signed_at (row_of w v values) k ≡ signed_at values (v * w + k)
row_entry w v values k h = get_or-take w (drop (v * w) values) k (pos 0) h ∙ get_or-drop (v * w) values k (pos 0)

-- the entries of a list after some from place `at` on are written
pub mid_put : (at k : ℕ) (old row : List ℤ) → length row ≡ k → at + k ≤ length old → (x : ℕ) → x < k → signed_at (put_mid at k old row) (at + x) ≡ signed_at row x
mid_put at k old row is fits x h =
    let front : length (take at old) ≡ at = length-take-le at old (omega arith) in
    ap (λ n. signed_at (put_mid at k old row) (n + x)) (sym front) ∙ get_or-append-add (take at old) (row ++ drop k (drop at old)) x (pos 0)
    ∙ get_or_append_left row (drop k (drop at old)) (pos 0) x (omega arith)

pub mid_kept : (at k : ℕ) (old row : List ℤ) → length row ≡ k → at + k ≤ length old → (i : ℕ) → (i < at) ⊎ (at + k ≤ i) → signed_at (put_mid at k old row) i ≡ signed_at old i
mid_kept at k old row is fits i (inl lt) =
    let front : length (take at old) ≡ at = length-take-le at old (omega arith) in
    get_or_append_left (take at old) (row ++ drop k (drop at old)) (pos 0) i (omega arith) ∙ get_or-take at old i (pos 0) lt
mid_kept at k old row is fits i (inr ge) =
    let front : length (take at old) ≡ at = length-take-le at old (omega arith) in
    let past : ℕ = i - at in
    let whole : at + (k + (past - k)) ≡ i = omega arith in
    get_or-append_right (take at old) (row ++ drop k (drop at old)) at i (pos 0) front (omega arith)
    ∙ get_or-append_right row (drop k (drop at old)) k past (pos 0) (omega arith) (omega arith)
    ∙ get_or-drop k (drop at old) (past - k) (pos 0)
    ∙ get_or-drop at old (k + (past - k)) (pos 0)
    ∙ ap (signed_at old) whole

-- the entries of a list of rows after row r is written
pub row_put : (w k r : ℕ) (old row : List ℤ) → k ≡ w → length row ≡ w → r * w + w ≤ length old → (x : ℕ) → x < w → signed_at (put_mid (r * w) k old row) (r * w + x) ≡ signed_at row x
row_put w k r old row wide is fits x h = mid_put (r * w) k old row (omega arith) (omega arith) x (omega arith)

pub row_kept : (w k r : ℕ) (old row : List ℤ) → k ≡ w → length row ≡ w → r * w + w ≤ length old → (j x : ℕ) → j ≢ r → x < w →
    signed_at (put_mid (r * w) k old row) (j * w + x) ≡ signed_at old (j * w + x)
row_kept w k r old row wide is fits j x other h =
    mid_kept (r * w) k old row (omega arith) (omega arith) (j * w + x) (elim (cases_lt j r) [
      | inl lt ↦
          let under : (j + 1) * w ≤ r * w = mul-le-mul_right w (omega arith) in
          let spread : (j + 1) * w ≡ j * w + w = omega arith in
          inl (omega arith)
      | inr ge ↦
          let above : (r + 1) * w ≤ j * w = mul-le-mul_right w (omega arith) in
          let spread : (r + 1) * w ≡ r * w + w = omega arith in
          inr (omega arith)
    ])

-- how long a row is
pub row_length : (w k r : ℕ) (old : List ℤ) → k ≡ w → r * w + w ≤ length old → length (take k (drop (r * w) old)) ≡ w
row_length w k r old wide fits = length-take-le k (drop (r * w) old) (rw length-drop (omega arith)) ∙ wide

-- row v stands in a list of more rows
pub row_inside : (w rows v : ℕ) → v < rows → v * w + w ≤ rows * w
row_inside w rows v h = row_fits v w rows w h (omega arith)

-- one row more is as it should be
pub rows_more : (w row : ℕ) (old new : List ℤ) (g : ℕ → ℕ → ℤ) →
    ((x : ℕ) → x < w → signed_at new (row * w + x) ≡ g row x) → ((j x : ℕ) → j ≢ row → x < w → signed_at new (j * w + x) ≡ signed_at old (j * w + x)) →
    ((j x : ℕ) → j < row → x < w → signed_at old (j * w + x) ≡ g j x) →
    (j x : ℕ) → j < row + 1 → x < w → signed_at new (j * w + x) ≡ g j x
rows_more w row old new g written others before j x lj lx = elim (cases_eq j row) [
  | inl e ↦ subst (λ n. signed_at new (n * w + x) ≡ g n x) (sym e) (written x lx)
  | inr ne ↦ others j x ne lx ∙ before j x (omega arith) lx
]

-- the items of a vector that was written as a slice
pub written_items : (n : ℕ) (new old : List ℤ) → n ≡ length new → length new ≡ length old → take n (new ++ drop (length new) old) ≡ new
written_items n new old e same = grind (arith, common_steps)
