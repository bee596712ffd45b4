-- The rows of a level that lies in four lists.
use Rattle.std.proofs.Common.{◌≡◌, ℕ, ◌+◌, ◌-◌, ◌*◌, ◌/◌, ◌%◌, ◌^◌, ◌<◌, ◌≤◌, inl, inr, cond, eqb, List, length, ℤ, sym, ◌∙◌, ap, arith}
use Rattle.std.specs.List.{All}
use Rattle.std.proofs.lemmas.Bool.{cases_eq}
use Rattle.std.proofs.lemmas.Int.{ints}
use Rattle.jk_math.specs.declared.rect.Rect.{Rect}
use Rattle.jk_math.specs.Signed.{IsBelow, signed_at}
use Rattle.jk_math.specs.Raster.{raster}
use Rattle.jk_math.proofs.Laws.{raster_same}
use Rattle.jk_geom.specs.Rectangles.{IsWithin, resolution_area}
use Rattle.jk_lift.specs.Lifting.{unlifted}
use Rattle.jk_lift.specs.Samples.{woven}
use Rattle.jk_lift.proofs.Laws.{unlifted_same}
use Rattle.jk_wave.specs.Levels.{half_bound, row_of, unlifted_over}
use Rattle.jk_wave.specs.Resolutions.{woven_plane, resolution_of}
use Rattle.jk_wave.specs.SourceRows.{AreBelow}
use Rattle.jk_wave.proofs.Equations.{woven_even, woven_odd, resolution_more, level_of}
use Rattle.jk_wave.proofs.Local.{woven_agree, in_low, in_part}
use Rattle.jk_wave.proofs.Growth.{level_bound}
use Rattle.jk_wave.proofs.Rows.{row_entry, row_inside}
use Rattle.jk_wave.proofs.Synthesis.{woven_low, woven_high, entry_size, size_below}
use Rattle.jk_wave.specs.declared.climbing.parts.WovenRows.{WovenRows}
use Rattle.jk_wave.specs.climbing.Held.{rows_between, RowsAgree}
use Rattle.jk_wave.specs.climbing.PartRows.{half_width, pair_at, across, rows_of_part, part_value, coefficient, AreWovenRows, ShowWovenRows}

-- the row of part o that stands in row y ends within its list
pub row_fits : (s : WovenRows) (o y : ℕ) → AreWovenRows s → s.v ≤ y → y < s.t → o < 4 → o / 2 ≡ y % 2 →
    (y / 2 - (rows_of_part s o).from) * half_width s.area (o % 2) + half_width s.area (o % 2) ≤ length (rows_of_part s o).values.now
row_fits s o y are from inside few down =
    let rows = are.rows o few in
    let above = rows.begins in
    let fits = row_inside (half_width s.area (o % 2)) (half_bound s.t (o / 2) - (rows_of_part s o).from) (y / 2 - (rows_of_part s o).from) (omega (arith, above, down, from, inside)) in
    omega (arith, fits, rows.long)

pub row_from : (s : WovenRows) (o y : ℕ) → AreWovenRows s → s.v ≤ y → o < 4 → o / 2 ≡ y % 2 → (rows_of_part s o).from ≤ y / 2
row_from s o y are from few down = let above = (are.rows o few).begins in omega (arith, above, down, from)

-- what stands at a column of both rows, woven
pair_even : (a : Rect) (n m : ℕ) (low high : List ℤ) (i : ℕ) → i % 2 ≡ 0 → pair_at a n m low high i ≡ signed_at low (n * half_width a 0 + (i / 2 - half_bound a.x0 0))
pair_even a n m low high i e = ap (λ p. cond (eqb p 0) (signed_at low (n * half_width a 0 + (i / 2 - half_bound a.x0 0))) (signed_at high (m * half_width a 1 + (i / 2 - half_bound a.x0 1)))) e

pair_odd : (a : Rect) (n m : ℕ) (low high : List ℤ) (i : ℕ) → i % 2 ≡ 1 → pair_at a n m low high i ≡ signed_at high (m * half_width a 1 + (i / 2 - half_bound a.x0 1))
pair_odd a n m low high i e = ap (λ p. cond (eqb p 0) (signed_at low (n * half_width a 0 + (i / 2 - half_bound a.x0 0))) (signed_at high (m * half_width a 1 + (i / 2 - half_bound a.x0 1)))) e

pub pair_woven : (a : Rect) (n m : ℕ) (low high low_row high_row : List ℤ) (i : ℕ) → a.x0 ≤ i → i < a.x1 →
    low_row ≡ row_of (half_width a 0) n low → high_row ≡ row_of (half_width a 1) m high → woven a.x0 low_row high_row i ≡ pair_at a n m low high i
pair_woven a n m low high low_row high_row i from to is_low is_high = elim (cases_eq (i % 2) 0) [
  | inl e ↦
      let k : ℕ = i / 2 - (a.x0 + 1) / 2 in
      woven_low a.x0 low_row high_row i e ∙ ap (λ l. signed_at l k) is_low ∙ row_entry (half_width a 0) n low k (omega arith)
      ∙ ap (λ p. signed_at low (n * half_width a 0 + (i / 2 - p))) (let z : (a.x0 + 1) / 2 ≡ half_bound a.x0 0 = omega arith in z)
      ∙ sym (pair_even a n m low high i e)
  | inr ne ↦
      let e : i % 2 ≡ 1 = omega arith in
      let k : ℕ = i / 2 - a.x0 / 2 in
      woven_high a.x0 low_row high_row i e ∙ ap (λ l. signed_at l k) is_high ∙ row_entry (half_width a 1) m high k (omega arith)
      ∙ ap (λ p. signed_at high (m * half_width a 1 + (i / 2 - p))) (let z : a.x0 / 2 ≡ half_bound a.x0 1 = omega arith in z)
      ∙ sym (pair_odd a n m low high i e)
]

-- the coefficients of an even row and of an odd one
pub even_pair : (s : WovenRows) (y i : ℕ) → y % 2 ≡ 0 → pair_at s.area (y / 2 - s.ll.from) (y / 2 - s.hl.from) s.ll.values.now s.hl.values.now i ≡ coefficient s i y
unfolding coefficient
even_pair s y i even = elim (cases_eq (i % 2) 0) [
  | inl e ↦ pair_even s.area (y / 2 - s.ll.from) (y / 2 - s.hl.from) s.ll.values.now s.hl.values.now i e ∙ sym (woven_even (part_value s 0) (part_value s) i y e even)
  | inr ne ↦
      let e : i % 2 ≡ 1 = omega arith in
      pair_odd s.area (y / 2 - s.ll.from) (y / 2 - s.hl.from) s.ll.values.now s.hl.values.now i e
      ∙ ap (λ o. part_value s o (i / 2) (y / 2)) (let z : 1 ≡ i % 2 + 2 * (y % 2) = omega arith in z) ∙ sym (woven_odd (part_value s 0) (part_value s) i y (inl e))
]

pub odd_pair : (s : WovenRows) (y i : ℕ) → y % 2 ≡ 1 → pair_at s.area (y / 2 - s.lh.from) (y / 2 - s.hh.from) s.lh.values.now s.hh.values.now i ≡ coefficient s i y
unfolding coefficient
odd_pair s y i odd = elim (cases_eq (i % 2) 0) [
  | inl e ↦
      pair_even s.area (y / 2 - s.lh.from) (y / 2 - s.hh.from) s.lh.values.now s.hh.values.now i e
      ∙ ap (λ o. part_value s o (i / 2) (y / 2)) (let z : 2 ≡ i % 2 + 2 * (y % 2) = omega arith in z) ∙ sym (woven_odd (part_value s 0) (part_value s) i y (inr odd))
  | inr ne ↦
      let e : i % 2 ≡ 1 = omega arith in
      pair_odd s.area (y / 2 - s.lh.from) (y / 2 - s.hh.from) s.lh.values.now s.hh.values.now i e
      ∙ ap (λ o. part_value s o (i / 2) (y / 2)) (let z : 3 ≡ i % 2 + 2 * (y % 2) = omega arith in z) ∙ sym (woven_odd (part_value s 0) (part_value s) i y (inr odd))
]

-- the lists are small enough for a line
pub low_small : (values : List ℤ) → All (IsBelow (2 ^ 29 - 2 ^ 26)) values → All (IsBelow (2 ^ 29)) values
low_small values small k d lt = let b = small k d lt in let l = b.0 in let h = b.1 in (omega (arith, ints, l), omega (arith, ints, h))

pub high_small : (values : List ℤ) → All (IsBelow (2 ^ 23)) values → All (IsBelow (2 ^ 29)) values
high_small values small k d lt = let b = small k d lt in let l = b.0 in let h = b.1 in (omega (arith, ints, l), omega (arith, ints, h))

-- and so are the rows that are made of them
pub rows_below : (s : WovenRows) → AreWovenRows s → AreBelow (2 ^ 29) (rows_between s.area s.v s.t) (across s.area (coefficient s))
unfolding coefficient
rows_below s are x y h =
    let a = s.area in
    let upper = are.upper in let lower = are.lower in
    let bound = (level_bound a (part_value s 0) (part_value s) (2 ^ 31 - 2 ^ 28)
    (λ u n w. let b = entry_size (2 ^ 29 - 2 ^ 26) s.ll.values.now (omega arith) are.low_small ((n - s.ll.from) * half_width a 0 + (u - half_bound a.x0 0)) in omega (arith, b))
    (λ o u n some few w. let b = entry_size (2 ^ 23) (rows_of_part s o).values.now (omega arith) (are.high_small o some few) ((n - (rows_of_part s o).from) * half_width a (o % 2) + (u - half_bound a.x0 (o % 2))) in omega (arith, b))
    x y (record { left = h.left; right = h.right; upper = omega (arith, upper, h.upper); lower = omega (arith, lower, h.lower) })).0 in
    size_below (2 ^ 29) (unlifted a.x0 a.x1 (λ i. coefficient s i y) x) (omega (arith, bound))

-- the rows that are asked for are those of the planes that the lists show
pub parts_agree : (s : WovenRows) (low : ℕ → ℕ → ℤ) (high : ℕ → ℕ → ℕ → ℤ) → AreWovenRows s → ShowWovenRows s low high → RowsAgree s.area s.v s.t (across s.area (coefficient s)) (across s.area (woven_plane low high))
unfolding coefficient
parts_agree s low high are show x y h =
    let a = s.area in
    let upper = are.upper in let lower = are.lower in
    unlifted_same a.x0 a.x1 (λ i. coefficient s i y) (λ i. woven_plane low high i y) x h.left h.right (λ i from to.
    let inside : IsWithin a i y = record { left = from; right = to; upper = omega (arith, upper, h.upper); lower = omega (arith, lower, h.lower) } in
    woven_agree (part_value s 0) low (part_value s) high i y
    (λ ei ej. show.below (i / 2) (y / 2) (in_low a i y inside ei ej) (omega (arith, h.upper, ej)) (omega (arith, h.lower, ej)))
    (λ odd.
    let o : ℕ = i % 2 + 2 * (y % 2) in
    let down : o / 2 ≡ y % 2 = omega arith in
    show.bands o (elim odd [ inl e ↦ omega arith | inr e ↦ omega arith ]) (omega arith) (i / 2) (y / 2) (in_part a i y inside) (omega (arith, h.upper, down)) (omega (arith, h.lower, down))))

-- a level of the planes that a resolution is made of
pub resolved : (a rect : Rect) (levels r : ℕ) (bands : ℕ → ℕ → ℕ → ℤ) (p q : ℕ) → a ≡ resolution_area rect levels (r + 1) →
    raster (rows_between a p q) (unlifted_over a (level_of rect levels bands r)) ≡ raster (rows_between a p q) (resolution_of rect levels bands (r + 1))
resolved a rect levels r bands p q is =
    raster_same (rows_between a p q) (unlifted_over a (level_of rect levels bands r)) (resolution_of rect levels bands (r + 1)) (λ x y h.
    ap (λ (b : Rect). unlifted_over b (level_of rect levels bands r) x y) is ∙ sym (resolution_more rect levels bands r x y))
