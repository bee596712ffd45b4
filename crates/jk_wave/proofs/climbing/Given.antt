-- Rows that were given one behind another.
use Rattle.std.proofs.Common.{◌≡◌, ℕ, ◌+◌, ◌-◌, ◌*◌, ◌/◌, ◌%◌, ◌<◌, ◌≤◌, ◌++◌, inl, inr, List, [], ◌∷◌, length, ℤ, pos, refl, sym, ◌∙◌, ap, arith}
use Rattle.std.proofs.lemmas.Bool.{cases_lt}
use Rattle.std.proofs.lemmas.List.{append-nil, append_assoc, ext_get_or, length-append, get_or_append_left, get_or-append_right}
use Rattle.std.proofs.lemmas.Nat.{div-mul-add, mod-mul-add, mod_below, div-add-mod'}
use Rattle.jk_math.specs.declared.rect.Rect.{Rect}
use Rattle.jk_math.specs.Raster.{columns_of, raster}
use Rattle.jk_math.proofs.Laws.{raster_length, raster_entry, raster_is}
use Rattle.jk_math.specs.Signed.{signed_at}
use Rattle.jk_wave.specs.SourceRows.{IsRow}
use Rattle.jk_wave.specs.climbing.Held.{rows_between}

-- rows and those below them
pub joined : (a : Rect) (p q r : ℕ) (g : ℕ → ℕ → ℤ) → p ≤ q → q ≤ r → raster (rows_between a p q) g ++ raster (rows_between a q r) g ≡ raster (rows_between a p r) g
joined a p q r g low high =
    let w = columns_of a in
    let one = rows_between a p q in
    let two = rows_between a q r in
    let both = rows_between a p r in
    let n = (q - p) * w in
    let sum : (q - p) * w + (r - q) * w ≡ (r - p) * w = sides (q - p) (r - q) (r - p) w (omega (arith, low, high)) in
    let first = raster_length one g in
    let second = raster_length two g in
    let all = raster_length both g in
    let long : length (raster one g ++ raster two g) ≡ length (raster both g) = length-append (raster one g) (raster two g) ∙ (let e : length (raster one g) + length (raster two g) ≡ length (raster both g) = omega (arith, sum, first, second, all) in e) in
    ext_get_or (pos 0) (raster one g ++ raster two g) (raster both g) long (λ k lt.
    let inside : k < (r - p) * w = omega (arith, lt, long, all) in
    elim (cases_lt k n) [
      | inl less ↦
          get_or_append_left (raster one g) (raster two g) (pos 0) k (omega (arith, less, first)) ∙ raster_entry one g k less ∙ sym (raster_entry both g k inside)
      | inr more ↦
          let j = k - n in
          let below : j < (r - q) * w = omega (arith, inside, more, sum) in
          let wide : 0 < w = some_column j (r - q) w below in
          let u : ℕ = j / w in
          let x : ℕ = j % w in
          let part : x < w = mod_below j w wide in
          let split : u * w + x ≡ j = div-add-mod' j w in
          let spread : (q - p + u) * w ≡ (q - p) * w + u * w = grind arith in
          let whole : (q - p + u) * w + x ≡ k = omega (arith, spread, split, more) in
          let row : k / w ≡ q - p + u = ap (λ m. m / w) (sym whole) ∙ div-mul-add (q - p + u) w x part in
          let column : k % w ≡ x = ap (λ m. m % w) (sym whole) ∙ mod-mul-add (q - p + u) w x part in
          let down : q + u ≡ p + k / w = omega (arith, row, low) in
          get_or-append_right (raster one g) (raster two g) n k (pos 0) first more ∙ raster_entry two g j below
          ∙ ap (λ m. g (a.x0 + m) (q + u)) (sym column) ∙ ap (λ m. g (a.x0 + k % w) m) down ∙ sym (raster_entry both g k inside)
    ])
  where
    sides : (p q r w : ℕ) → p + q ≡ r → p * w + q * w ≡ r * w
    sides p q r w e = (let s : p * w + q * w ≡ (p + q) * w = grind arith in s) ∙ ap (λ m. m * w) e

    some_column : (k h w : ℕ) → k < h * w → 0 < w
    some_column k h w lt = grind arith

-- a list of length 0
nothing : (xs : List ℤ) → length xs ≡ 0 → xs ≡ []
nothing [] e = refl
nothing (x ∷ xs) e = absurd (omega (arith, e))

-- no row
pub no_rows : (a : Rect) (p q : ℕ) (g : ℕ → ℕ → ℤ) → q ≤ p → raster (rows_between a p q) g ≡ []
no_rows a p q g none = nothing (raster (rows_between a p q) g)
    (raster_length (rows_between a p q) g ∙ ap (λ m. m * columns_of a) (let z : q - p ≡ 0 = omega arith in z) ∙ (let o : 0 * columns_of a ≡ 0 = omega arith in o))

-- one row
pub one_row : (a : Rect) (g : ℕ → ℕ → ℤ) (p q : ℕ) (row : List ℤ) → p + 1 ≡ q → IsRow a (λ x. g x p) row → row ≡ raster (rows_between a p q) g
one_row a g p q row one is =
    let high : q - p ≡ 1 = omega arith in
    raster_is (rows_between a p q) row g (is.long ∙ sym (ap (λ m. m * columns_of a) high ∙ (let o : 1 * columns_of a ≡ columns_of a = omega arith in o))) (λ x y h.
    let left = h.left in let right = h.right in let upper = h.upper in let lower = h.lower in
    let at : y ≡ p = omega arith in
    let here : y - p ≡ 0 = omega arith in
    let place : (y - p) * columns_of a + (x - a.x0) ≡ x - a.x0 = ap (λ m. m * columns_of a + (x - a.x0)) here ∙ (let o : 0 * columns_of a + (x - a.x0) ≡ x - a.x0 = omega arith in o) in
    let column : a.x0 + (x - a.x0) ≡ x = omega arith in
    ap (signed_at row) place ∙ is.each (x - a.x0) (omega arith) ∙ ap (λ m. g m p) column ∙ ap (g x) (sym at))

-- a list behind which no row was given
pub none_given : (a : Rect) (p q : ℕ) (g : ℕ → ℕ → ℤ) (out : List ℤ) → q ≤ p → out ≡ out ++ raster (rows_between a p q) g
none_given a p q g out none = sym (ap (λ r. out ++ r) (no_rows a p q g none) ∙ append-nil out)

-- rows, and more rows behind them
pub given_more : (a : Rect) (p q r : ℕ) (g : ℕ → ℕ → ℤ) (old mid new : List ℤ) → p ≤ q → q ≤ r → mid ≡ old ++ raster (rows_between a p q) g → new ≡ mid ++ raster (rows_between a q r) g →
    new ≡ old ++ raster (rows_between a p r) g
given_more a p q r g old mid new low high first second =
    let above = raster (rows_between a p q) g in
    let below = raster (rows_between a q r) g in
    second ∙ ap (λ l. l ++ below) first ∙ append_assoc old above below ∙ ap (λ l. old ++ l) (joined a p q r g low high)

-- the same rows by other names
pub given_like : (a : Rect) (p q r s : ℕ) (g : ℕ → ℕ → ℤ) (old new : List ℤ) → p ≡ r → q ≡ s → new ≡ old ++ raster (rows_between a p q) g → new ≡ old ++ raster (rows_between a r s) g
given_like a p q r s g old new pr qs given = given ∙ ap (λ n. old ++ raster (rows_between a n q) g) pr ∙ ap (λ n. old ++ raster (rows_between a r n) g) qs
