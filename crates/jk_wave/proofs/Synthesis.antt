-- From the rows of a level to the resolution.
use Rattle.std.proofs.Common.{◌≡◌, ℕ, ◌+◌, ◌-◌, ◌*◌, ◌/◌, ◌%◌, ◌^◌, ◌<◌, ◌≤◌, inl, inr, cond, eqb, List, length, take, drop, ℤ, pos, unsigned_abs, sym, ◌∙◌, ap, subst, arith}
use Rattle.std.specs.List.{All}
use Rattle.std.proofs.lemmas.Bool.{cases_eq, cases_lt}
use Rattle.std.proofs.lemmas.Int.{ints}
use Rattle.std.proofs.lemmas.Nat.{div_below, mod_below, div-add-mod'}
use Rattle.std.proofs.lemmas.List.{get_or_past, get_or-take, get_or-drop}
use Rattle.std.proofs.lemmas.List.Elements.{All-from_get_or}
use Rattle.jk_math.specs.declared.rect.Rect.{Rect}
use Rattle.jk_math.specs.Signed.{IsBelow, signed_at}
use Rattle.jk_math.specs.Raster.{columns_of, rows_of, places_of, raster}
use Rattle.jk_math.proofs.Laws.{raster_is, index_below}
use Rattle.jk_geom.specs.Rectangles.{IsWithin}
use Rattle.jk_lift.specs.Lifting.{unlifted}
use Rattle.jk_lift.specs.Samples.{woven, column, SynthesisesLine, SynthesisesRows}
use Rattle.jk_lift.proofs.Laws.{is_local_line}
use Rattle.jk_wave.specs.Levels.{half_area, unlifted_over}
use Rattle.jk_wave.specs.LevelRows.{coefficient_of, part_rows, woven_rows, IsBoundedLevel}
use Rattle.jk_wave.proofs.Growth.{level_bound}
use Rattle.jk_wave.proofs.PartRows.{entry_of, woven_at_even, woven_at_odd}
use Rattle.jk_wave.proofs.Rows.{row_inside}

pub woven_low : (start : ℕ) (low high : List ℤ) (i : ℕ) → i % 2 ≡ 0 → woven start low high i ≡ signed_at low (i / 2 - (start + 1) / 2)
woven_low start low high i e = ap (λ n. cond (eqb n 0) (signed_at low (i / 2 - (start + 1) / 2)) (signed_at high (i / 2 - start / 2))) e

pub woven_high : (start : ℕ) (low high : List ℤ) (i : ℕ) → i % 2 ≡ 1 → woven start low high i ≡ signed_at high (i / 2 - start / 2)
woven_high start low high i e = ap (λ n. cond (eqb n 0) (signed_at low (i / 2 - (start + 1) / 2)) (signed_at high (i / 2 - start / 2))) e

-- the coefficients of a row of a level, woven
pub row_woven : (area : Rect) (rows line : List ℤ) (row i : ℕ) → area.x0 ≤ i → i < area.x1 →
    ((k : ℕ) → k < columns_of area → signed_at line k ≡ signed_at rows (row * columns_of area + k)) →
    woven area.x0 (take (columns_of (half_area area 0)) line) (drop (columns_of (half_area area 0)) line) i ≡ woven_rows area rows i (area.y0 + row)
row_woven area rows line row i from to same =
    let w : ℕ = columns_of (half_area area 0) in
    let there : area.y0 + row - area.y0 ≡ row = omega arith in
    elim (cases_eq (i % 2) 0) [
      | inl ex ↦
          let k : ℕ = i / 2 - (area.x0 + 1) / 2 in
          woven_low area.x0 (take w line) (drop w line) i ex
          ∙ get_or-take w line k (pos 0) (omega arith) ∙ same k (omega arith)
          ∙ ap (λ n. signed_at rows (n * columns_of area + k)) (sym there)
          ∙ sym (woven_at_even area rows i (area.y0 + row) (omega arith) ex)
      | inr nx ↦
          let ox : i % 2 ≡ 1 = omega arith in
          let k : ℕ = i / 2 - area.x0 / 2 in
          woven_high area.x0 (take w line) (drop w line) i ox
          ∙ get_or-drop w line k (pos 0) ∙ same (w + k) (omega arith)
          ∙ ap (λ n. signed_at rows (n * columns_of area + (w + k))) (sym there)
          ∙ sym (woven_at_odd area rows i (area.y0 + row) (omega arith) ox)
    ]

-- the samples of a line whose coefficients are those of a row
pub line_samples : (start end : ℕ) (low high line : List ℤ) (c : ℕ → ℤ) → start + length line ≡ end → SynthesisesLine start low high line →
    ((i : ℕ) → start ≤ i → i < end → woven start low high i ≡ c i) → (x : ℕ) → start + x < end → signed_at line x ≡ unlifted start end c (start + x)
line_samples start end low high line c whole says same x h =
    let at : x ≡ start + x - start = omega arith in
    ap (signed_at line) at ∙ says (start + x) (omega arith) (omega arith)
    ∙ ap (λ n. unlifted start n (woven start low high) (start + x)) whole
    ∙ is_local_line start end start end (woven start low high) c (λ j from to uf ut. same j from to) (start + x) (omega arith) h (omega arith) h

-- the plane whose columns are the samples of rows
pub plane_samples : (area : Rect) (c : ℕ → ℕ → ℤ) (old new : List ℤ) → area.x0 ≤ area.x1 → area.y0 ≤ area.y1 → length old ≡ places_of area → length new ≡ places_of area →
    ((j x : ℕ) → j < rows_of area → x < columns_of area → signed_at old (j * columns_of area + x) ≡ unlifted area.x0 area.x1 (λ i. c i (area.y0 + j)) (area.x0 + x)) →
    SynthesisesRows area.y0 (columns_of area) old new → new ≡ raster area (unlifted_over area c)
plane_samples area c old new wide tall long is rows says =
    raster_is area new (unlifted_over area c) is (λ x y h.
    let left = h.left in let right = h.right in let upper = h.upper in let lower = h.lower in
    let w = columns_of area in
    let k : ℕ = x - area.x0 in
    let across : area.x0 + k ≡ x = omega arith in
    let down : area.y0 + rows_of area ≡ area.y1 = omega arith in
    says (rows_of area) k y long (omega arith) upper (omega arith)
    ∙ ap (λ n. unlifted area.y0 n (column area.y0 w old k) y) down
    ∙ is_local_line area.y0 area.y1 area.y0 area.y1 (column area.y0 w old k) (λ j. unlifted area.x0 area.x1 (λ i. c i j) x)
    (λ j from to uf ut.
    let there : area.y0 + (j - area.y0) ≡ j = omega arith in
    rows (j - area.y0) k (omega arith) (omega arith)
    ∙ ap (λ n. unlifted area.x0 area.x1 (λ i. c i n) (area.x0 + k)) there
    ∙ ap (unlifted area.x0 area.x1 (λ i. c i j)) across)
    y upper lower upper lower)

-- row v of a part stands in its list
pub part_fits : (area : Rect) (o w v : ℕ) (values : List ℤ) → length values ≡ places_of (half_area area o) → w ≡ columns_of (half_area area o) → v < rows_of (half_area area o) →
    v * w + w ≤ length values
part_fits area o w v values long wide inside =
    let fits : v * columns_of (half_area area o) + columns_of (half_area area o) ≤ places_of (half_area area o) = row_inside (columns_of (half_area area o)) (rows_of (half_area area o)) v inside in
    rw wide (omega arith)

pub below_size : (m : ℕ) (z : ℤ) → IsBelow m z → unsigned_abs z < m
below_size m z h = omega (arith, ints)

pub size_below : (m : ℕ) (z : ℤ) → unsigned_abs z < m → IsBelow m z
size_below m z h = (omega (arith, ints), omega (arith, ints))

-- an entry of such a list, or the 0 past its end
pub entry_size : (m : ℕ) (values : List ℤ) → 0 < m → All (IsBelow m) values → (k : ℕ) → unsigned_abs (signed_at values k) < m
entry_size m values some small k = elim (cases_lt k (length values)) [
  | inl lt ↦ below_size m (signed_at values k) (small k (pos 0) lt)
  | inr ge ↦ rw (get_or_past values k (pos 0) ge) some
]

-- a list of rows whose entries are below a limit
pub rows_below : (m w h : ℕ) (values : List ℤ) → length values ≡ h * w → ((j x : ℕ) → j < h → x < w → unsigned_abs (signed_at values (j * w + x)) < m) → All (IsBelow m) values
rows_below m w h values long each = All-from_get_or (IsBelow m) values (pos 0) (λ k lt.
    let fits : k < h * w = omega arith in
    let some : 0 < w = some_column k w h fits in
    let across : k % w < w = mod_below k w some in
    let down : k / w < h = div_below k w h some fits in
    let whole : k / w * w + k % w ≡ k = div-add-mod' k w in
    size_below m (signed_at values k) (subst (λ n. unsigned_abs (signed_at values n) < m) whole (each (k / w) (k % w) down across)))
  where
    some_column : (k w h : ℕ) → k < h * w → 0 < w
    some_column k w h lt = grind arith

-- the entries of a level are below 2^29, and so are the rows that are made of them
pub level_small : (area : Rect) (rows : List ℤ) → IsBoundedLevel area rows → (j k : ℕ) → j < rows_of area → k < columns_of area → unsigned_abs (signed_at rows (j * columns_of area + k)) < 2 ^ 29
level_small area rows h j k lj lk =
    let e = entry_of area j k lj lk in
    subst (λ n. unsigned_abs (signed_at rows n) < 2 ^ 29) e.at (elim (cases_eq e.part 0) [
      | inl none ↦
          let Q : ℕ → Type 0 = λ o. IsWithin (half_area area o) e.across e.down → unsigned_abs (coefficient_of (part_rows area o) rows e.across e.down) < 2 ^ 29 in
          subst Q (sym none) (λ w. let b = below_size (2 ^ 29 - 2 ^ 26) (coefficient_of (part_rows area 0) rows e.across e.down) (h.low e.across e.down w) in omega arith) e.within
      | inr some ↦ let b = below_size (2 ^ 23) (coefficient_of (part_rows area e.part) rows e.across e.down) (h.high e.part e.across e.down (omega arith) e.few e.within) in omega arith
    ])

pub rows_small : (area : Rect) (rows old : List ℤ) → length old ≡ places_of area → IsBoundedLevel area rows →
    ((j x : ℕ) → j < rows_of area → x < columns_of area →
    signed_at old (j * columns_of area + x) ≡ unlifted area.x0 area.x1 (λ i. woven_rows area rows i (area.y0 + j)) (area.x0 + x)) → All (IsBelow (2 ^ 29)) old
unfolding woven_rows
rows_small area rows old long h made =
    rows_below (2 ^ 29) (columns_of area) (rows_of area) old long (λ j x lj lx.
    let bound = (level_bound area (coefficient_of (part_rows area 0) rows) (λ o. coefficient_of (part_rows area o) rows) (2 ^ 31 - 2 ^ 28)
    (λ u v w. let b = below_size (2 ^ 29 - 2 ^ 26) (coefficient_of (part_rows area 0) rows u v) (h.low u v w) in omega arith)
    (λ o u v some few w. let b = below_size (2 ^ 23) (coefficient_of (part_rows area o) rows u v) (h.high o u v some few w) in omega arith)
    (area.x0 + x) (area.y0 + j) (record { left = omega arith; right = omega arith; upper = omega arith; lower = omega arith })).0 in
    rw (made j x lj lx) (omega arith))

-- a list of no place is every raster of it
pub raster_none : (area : Rect) (values : List ℤ) (f : ℕ → ℕ → ℤ) → length values ≡ places_of area → length values ≡ 0 → values ≡ raster area f
raster_none area values f long none = raster_is area values f long (λ x y h. let some = index_below area x y h in absurd (omega arith))
