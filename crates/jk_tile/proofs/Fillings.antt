-- A rectangle after a row of a part is written.
use Rattle.std.proofs.Common.{◌≡◌, ◌≢◌, ℕ, ◌+◌, ◌-◌, ◌*◌, ◌<◌, ◌≤◌, Bool, true, false, not, ◌&&◌, ◌||◌, min, max, leb, ltb, if◌then◌else◌, List, length, take, drop, ℤ, pos, refl, sym, ap, ◌∙◌, inl, inr, arith, length-drop}
use Rattle.std.proofs.Math.Nat.{mul-le-mul_right}
use Rattle.std.proofs.lemmas.Bool.{cases_lt, cases_eq, lt-ltb, le-ltb, le-leb, lt-leb}
use Rattle.std.proofs.lemmas.List.{get_or-take, get_or-drop, length-take-le}
use Rattle.std.proofs.lemmas.Nat.{row_fits}
use Rattle.jk_math.specs.declared.rect.Rect.{Rect}
use Rattle.jk_math.specs.Raster.{columns_of, rows_of, places_of, plane_at}
use Rattle.jk_math.specs.Signed.{signed_at}
use Rattle.jk_geom.specs.Rectangles.{IsWithin, meet}
use Rattle.jk_wave.specs.declared.places.BandRows.{BandRows}
use Rattle.jk_wave.specs.LevelRows.{index_in, coefficient_of, FitsIn}
use Rattle.jk_tile.specs.Filling.{has, IsPartOf, rows_above, touches}

-- a rectangle whose rows lie one behind another
abbrev pub whole_rows : Rect → BandRows
whole_rows area = record { area = area; start = 0; step = columns_of area }

-- where row `row` of the part begins
abbrev pub at_row : BandRows → Rect → ℕ → ℕ
at_row v part row = v.start + (part.y0 - v.area.y0 + row) * v.step + (part.x0 - v.area.x0)

-- the values of that row
abbrev row_values : Rect → ℕ → List ℤ → List ℤ
row_values part row values = take (row * columns_of part + columns_of part - row * columns_of part) (drop (row * columns_of part) values)

pub row_length : (part : Rect) (row : ℕ) (values : List ℤ) → row < rows_of part → length values ≡ places_of part → length (row_values part row values) ≡ columns_of part
row_length part row values lt long =
    let w = columns_of part in
    let fits : row * w + w ≤ rows_of part * w = row_fits row w (rows_of part) w lt (omega arith) in
    length-take-le (row * w + w - row * w) (drop (row * w) values) (rw length-drop (omega (arith, fits, long))) ∙ (let e : row * w + w - row * w ≡ w = omega arith in e)

-- it ends within so many places
pub row_inside : (v : BandRows) (part : Rect) (row n : ℕ) → FitsIn v n → IsPartOf part v.area → row < rows_of part → at_row v part row + columns_of part ≤ n
row_inside v part row n fits is lt =
    let left = is.left in let across = is.across in let right = is.right in let upper = is.upper in let lower = is.lower in
    let ends = fits (part.y0 - v.area.y0 + row) (omega (arith, upper, lower, lt)) in
    omega (arith, ends, left, across, right)

pub whole_fits : (area : Rect) → FitsIn (whole_rows area) (places_of area)
whole_fits area row lt = let fits = row_fits row (columns_of area) (rows_of area) (columns_of area) lt (omega arith) in omega (arith, fits)

-- what stands in the row
row_value : (part : Rect) (row x y : ℕ) (values : List ℤ) → y ≡ part.y0 + row → part.x0 ≤ x → x < part.x1 → signed_at (row_values part row values) (x - part.x0) ≡ plane_at part values x y
row_value part row x y values e left right =
    let w = columns_of part in
    let inside : x - part.x0 < row * w + w - row * w = omega (arith, left, right) in
    let down : row ≡ y - part.y0 = omega (arith, e) in
    get_or-take (row * w + w - row * w) (drop (row * w) values) (x - part.x0) (pos 0) inside ∙ get_or-drop (row * w) values (x - part.x0) (pos 0) ∙ ap (λ r. signed_at values (r * w + (x - part.x0))) down

-- whether a place is in the row
in_row : (v : BandRows) (part : Rect) (row x y : ℕ) → IsPartOf part v.area → IsWithin v.area x y → y ≡ part.y0 + row
    → (leb (at_row v part row) (index_in v x y) && ltb (index_in v x y) (at_row v part row + columns_of part)) ≡ (leb part.x0 x && ltb x part.x1)
in_row v part row x y is h e =
    let left = is.left in let across = is.across in let upper = is.upper in
    let hl = h.left in let hu = h.upper in
    let w = v.step in
    let same : (y - v.area.y0) * w ≡ (part.y0 - v.area.y0 + row) * w = let d : y - v.area.y0 ≡ part.y0 - v.area.y0 + row = omega (arith, e, upper) in ap (λ r. r * w) d in
    elim (cases_lt x part.x0) [
      | inl before ↦
          let one : leb (at_row v part row) (index_in v x y) ≡ false = lt-leb _ _ (omega (arith, same, before, hl, left)) in
          let two : leb part.x0 x ≡ false = lt-leb _ _ before in
          ap (λ b. b && ltb (index_in v x y) (at_row v part row + columns_of part)) one ∙ sym (ap (λ b. b && ltb x part.x1) two)
      | inr from ↦
          let one : leb (at_row v part row) (index_in v x y) ≡ true = le-leb _ _ (omega (arith, same, from, left)) in
          let two : leb part.x0 x ≡ true = le-leb _ _ from in
          ap (λ b. b && ltb (index_in v x y) (at_row v part row + columns_of part)) one ∙ below from ∙ sym (ap (λ b. b && ltb x part.x1) two)
    ]
  where
    below : part.x0 ≤ x → ltb (index_in v x y) (at_row v part row + columns_of part) ≡ ltb x part.x1
    below from =
        let left = is.left in let across = is.across in let upper = is.upper in
        let w = v.step in
        let same : (y - v.area.y0) * w ≡ (part.y0 - v.area.y0 + row) * w = let d : y - v.area.y0 ≡ part.y0 - v.area.y0 + row = omega (arith, e, upper) in ap (λ r. r * w) d in
        elim (cases_lt x part.x1) [
          | inl lt ↦ lt-ltb _ _ (omega (arith, same, from, left, lt)) ∙ sym (lt-ltb _ _ lt)
          | inr ge ↦ le-ltb _ _ (omega (arith, same, from, left, across, ge)) ∙ sym (le-ltb _ _ ge)
        ]

-- a place of another row isn't in it
in_other : (v : BandRows) (part : Rect) (row x y : ℕ) → columns_of v.area ≤ v.step → IsPartOf part v.area → IsWithin v.area x y → y ≢ part.y0 + row
    → (leb (at_row v part row) (index_in v x y) && ltb (index_in v x y) (at_row v part row + columns_of part)) ≡ false
in_other v part row x y wide is h other =
    let left = is.left in let across = is.across in let right = is.right in let upper = is.upper in
    let hl = h.left in let hr = h.right in let hu = h.upper in
    let w = v.step in
    let top = part.y0 - v.area.y0 + row in
    elim (cases_lt y (part.y0 + row)) [
      | inl lt ↦
          let under : (y - v.area.y0 + 1) * w ≤ top * w = mul-le-mul_right w (omega (arith, lt, hu, upper)) in
          let spread : (y - v.area.y0 + 1) * w ≡ (y - v.area.y0) * w + w = omega arith in
          ap (λ b. b && ltb (index_in v x y) (at_row v part row + columns_of part)) (lt-leb _ _ (omega (arith, under, spread, wide, hl, hr)))
      | inr ge ↦
          let above : (top + 1) * w ≤ (y - v.area.y0) * w = mul-le-mul_right w (omega (arith, ge, other, hu, upper)) in
          let spread : (top + 1) * w ≡ top * w + w = omega arith in
          let past : ltb (index_in v x y) (at_row v part row + columns_of part) ≡ false = le-ltb _ _ (omega (arith, above, spread, wide, left, across, right, hl)) in
          ap (λ b. leb (at_row v part row) (index_in v x y) && b) past ∙ and_false (leb (at_row v part row) (index_in v x y))
    ]
  where
    and_false : (b : Bool) → (b && false) ≡ false
    and_false true = refl
    and_false false = refl

-- the rows above and this one
rows_same : (part : Rect) (row x y : ℕ) → y ≢ part.y0 + row → has (rows_above part (row + 1)) x y ≡ has (rows_above part row) x y
rows_same part row x y other =
    let test : ltb y (part.y0 + (row + 1)) ≡ ltb y (part.y0 + row) = elim (cases_lt y (part.y0 + row)) [
      | inl lt ↦ lt-ltb _ _ (omega (arith, lt)) ∙ sym (lt-ltb _ _ lt)
      | inr ge ↦ le-ltb _ _ (omega (arith, ge, other)) ∙ sym (le-ltb _ _ ge)
    ] in
    ap (λ b. (leb part.x0 x && ltb x part.x1) && (leb part.y0 y && b)) test

row_here : (part : Rect) (row x y : ℕ) → y ≡ part.y0 + row → has (rows_above part (row + 1)) x y ≡ (leb part.x0 x && ltb x part.x1)
row_here part row x y e =
    let up : leb part.y0 y ≡ true = le-leb _ _ (omega (arith, e)) in
    let down : ltb y (part.y0 + (row + 1)) ≡ true = lt-ltb _ _ (omega (arith, e)) in
    ap (λ b. (leb part.x0 x && ltb x part.x1) && (b && ltb y (part.y0 + (row + 1)))) up ∙ ap (λ b. (leb part.x0 x && ltb x part.x1) && b) down ∙ and_true (leb part.x0 x && ltb x part.x1)
  where
    and_true : (b : Bool) → (b && true) ≡ b
    and_true true = refl
    and_true false = refl

row_not_yet : (part : Rect) (row x y : ℕ) → y ≡ part.y0 + row → has (rows_above part row) x y ≡ false
row_not_yet part row x y e =
    let down : ltb y (part.y0 + row) ≡ false = le-ltb _ _ (omega (arith, e)) in
    ap (λ b. (leb part.x0 x && ltb x part.x1) && (leb part.y0 y && b)) down ∙ none (leb part.x0 x && ltb x part.x1) (leb part.y0 y)
  where
    none : (a b : Bool) → (a && (b && false)) ≡ false
    none true true = refl
    none true false = refl
    none false b = refl

-- both sides of a row's bounds
pick : (b : Bool) (x x0 x1 : ℕ) (p q r : ℤ) → b ≡ (leb x0 x && ltb x x1) → (x0 ≤ x → x < x1 → p ≡ q) → (if b then p else r) ≡ (if leb x0 x && ltb x x1 then q else r)
pick b x x0 x1 p q r e same = elim (cases_lt x x0) [
  | inl before ↦
      let two : leb x0 x ≡ false = lt-leb _ _ before in
      ap (λ (t : Bool). if t then p else r) (e ∙ ap (λ t. t && ltb x x1) two) ∙ sym (ap (λ t. if t && ltb x x1 then q else r) two)
  | inr from ↦ elim (cases_lt x x1) [
    | inl lt ↦
        let both : (leb x0 x && ltb x x1) ≡ true = ap (λ t. t && ltb x x1) (le-leb _ _ from) ∙ lt-ltb _ _ lt in
        ap (λ (t : Bool). if t then p else r) (e ∙ both) ∙ same from lt ∙ sym (ap (λ (t : Bool). if t then q else r) both)
    | inr ge ↦
        let both : (leb x0 x && ltb x x1) ≡ false = ap (λ t. t && ltb x x1) (le-leb _ _ from) ∙ le-ltb _ _ ge in
        ap (λ (t : Bool). if t then p else r) (e ∙ both) ∙ sym (ap (λ (t : Bool). if t then q else r) both)
  ]
]

-- one row more, where the values of the part are those of f
pub row_by : (v : BandRows) (part : Rect) (row : ℕ) (first old new R : List ℤ) (f : ℕ → ℕ → ℤ) → columns_of v.area ≤ v.step → IsPartOf part v.area → length R ≡ columns_of part → row < rows_of part
    → ((x : ℕ) → part.x0 ≤ x → x < part.x1 → signed_at R (x - part.x0) ≡ f x (part.y0 + row))
    → ((k : ℕ) → signed_at new k ≡ (if leb (at_row v part row) k && ltb k (at_row v part row + length R) then signed_at R (k - at_row v part row) else signed_at old k))
    → ((x y : ℕ) → IsWithin v.area x y → coefficient_of v old x y ≡ (if has (rows_above part row) x y then f x y else coefficient_of v first x y))
    → (x y : ℕ) → IsWithin v.area x y → coefficient_of v new x y ≡ (if has (rows_above part (row + 1)) x y then f x y else coefficient_of v first x y)
row_by v part row first old new R f wide is size lt values written before x y h =
    let k = index_in v x y in
    let at = at_row v part row in
    let got : signed_at new k ≡ (if leb at k && ltb k (at + columns_of part) then signed_at R (k - at) else signed_at old k) = written k ∙ ap (λ n. if leb at k && ltb k (at + n) then signed_at R (k - at) else signed_at old k) size in
    elim (cases_eq y (part.y0 + row)) [
      | inl e ↦
          let left = is.left in let upper = is.upper in
          let hl = h.left in
          let w = v.step in
          let same : (y - v.area.y0) * w ≡ (part.y0 - v.area.y0 + row) * w = let d : y - v.area.y0 ≡ part.y0 - v.area.y0 + row = omega (arith, e, upper) in ap (λ r. r * w) d in
          got ∙ pick (leb at k && ltb k (at + columns_of part)) x part.x0 part.x1 (signed_at R (k - at)) (f x y) (signed_at old k) (in_row v part row x y is h e)
          (λ from below. let d : k - at ≡ x - part.x0 = omega (arith, same, from, left, hl) in ap (signed_at R) d ∙ values x from below ∙ ap (f x) (sym e))
          ∙ ap (λ z. if leb part.x0 x && ltb x part.x1 then f x y else z) (before x y h ∙ ap (λ (t : Bool). if t then f x y else coefficient_of v first x y) (row_not_yet part row x y e))
          ∙ ap (λ (t : Bool). if t then f x y else coefficient_of v first x y) (sym (row_here part row x y e))
      | inr other ↦
          got ∙ ap (λ (t : Bool). if t then signed_at R (k - at) else signed_at old k) (in_other v part row x y wide is h other) ∙ before x y h
          ∙ ap (λ (t : Bool). if t then f x y else coefficient_of v first x y) (sym (rows_same part row x y other))
    ]

-- What no place of the rectangle stands at stays.
pub row_off : (v : BandRows) (part : Rect) (row k : ℕ) (old new R : List ℤ) → IsPartOf part v.area → length R ≡ columns_of part → row < rows_of part
    → signed_at new k ≡ (if leb (at_row v part row) k && ltb k (at_row v part row + length R) then signed_at R (k - at_row v part row) else signed_at old k)
    → ((x y : ℕ) → IsWithin v.area x y → index_in v x y ≢ k) → signed_at new k ≡ signed_at old k
row_off v part row k old new R is size lt written off =
    let at = at_row v part row in
    let left = is.left in let right = is.right in let upper = is.upper in let lower = is.lower in
    elim (cases_lt k at) [
      | inl before ↦ written ∙ ap (λ (t : Bool). if t && ltb k (at + length R) then signed_at R (k - at) else signed_at old k) (lt-leb _ _ before)
      | inr from ↦ elim (cases_lt k (at + length R)) [
        | inl under ↦
            let x = part.x0 + (k - at) in
            let y = part.y0 + row in
            let here : IsWithin v.area x y = record { left = omega (arith, left); right = omega (arith, under, from, size, right); upper = omega (arith, upper); lower = omega (arith, lt, lower) } in
            let d : y - v.area.y0 ≡ part.y0 - v.area.y0 + row = omega (arith, upper) in
            let same : (y - v.area.y0) * v.step ≡ (part.y0 - v.area.y0 + row) * v.step = ap (λ r. r * v.step) d in
            absurd (off x y here (omega (arith, same, from, left)))
        | inr behind ↦ written ∙ ap (λ (t : Bool). if t then signed_at R (k - at) else signed_at old k) (ap (λ (t : Bool). leb at k && t) (le-ltb _ _ behind) ∙ off_false (leb at k))
      ]
    ]
  where
    off_false : (b : Bool) → (b && false) ≡ false
    off_false true = refl
    off_false false = refl

-- where they are a list of its rows, in the list of a rectangle
pub row_more : (area part : Rect) (row at : ℕ) (first old new values : List ℤ) → IsPartOf part area → length values ≡ places_of part → row < rows_of part
    → at ≡ (part.y0 - area.y0 + row) * columns_of area + (part.x0 - area.x0)
    → ((k : ℕ) → signed_at new k ≡ (if leb at k && ltb k (at + length (row_values part row values)) then signed_at (row_values part row values) (k - at) else signed_at old k))
    → ((x y : ℕ) → IsWithin area x y → plane_at area old x y ≡ (if has (rows_above part row) x y then plane_at part values x y else plane_at area first x y))
    → (x y : ℕ) → IsWithin area x y → plane_at area new x y ≡ (if has (rows_above part (row + 1)) x y then plane_at part values x y else plane_at area first x y)
row_more area part row at first old new values is long lt ea written before x y h =
    let v = whole_rows area in
    let R : List ℤ = row_values part row values in
    let start : (u w : ℕ) (xs : List ℤ) → coefficient_of v xs u w ≡ plane_at area xs u w =
    λ u w xs. ap (signed_at xs) (let e : 0 + (w - area.y0) * columns_of area + (u - area.x0) ≡ (w - area.y0) * columns_of area + (u - area.x0) = omega arith in e) in
    let place : at ≡ at_row v part row = omega (arith, ea) in
    let got = row_by v part row first old new R (plane_at part values) (omega arith) is (row_length part row values lt long) lt
    (λ u from below. row_value part row u (part.y0 + row) values refl from below)
    (λ k. written k ∙ ap (λ n. if leb n k && ltb k (n + length R) then signed_at R (k - n) else signed_at old k) place)
    (λ u w k. start u w old ∙ before u w k ∙ ap (λ z. if has (rows_above part row) u w then plane_at part values u w else z) (sym (start u w first))) x y h in
    sym (start x y new) ∙ got ∙ ap (λ z. if has (rows_above part (row + 1)) x y then plane_at part values x y else z) (start x y first)

-- ---- what two rectangles have in common

or_true : (b : Bool) → not (b || true) ≡ false
or_true true = refl
or_true false = refl

-- two rectangles that touch have a column and a row in common, and others don't
pub touching : (a b : Rect) → touches a b ≡ true → (max a.x0 b.x0 < min a.x1 b.x1) × (max a.y0 b.y0 < min a.y1 b.y1)
touching a b e = (across, down)
  where
    across : max a.x0 b.x0 < min a.x1 b.x1
    across = elim (cases_lt (max a.x0 b.x0) (min a.x1 b.x1)) [
      | inl lt ↦ lt
      | inr ge ↦
          let t = ap (λ c. not (c || leb (min a.y1 b.y1) (max a.y0 b.y0))) (le-leb _ _ ge) in
          absurd (let f : true ≡ false = sym e ∙ t in cc)
    ]

    down : max a.y0 b.y0 < min a.y1 b.y1
    down = elim (cases_lt (max a.y0 b.y0) (min a.y1 b.y1)) [
      | inl lt ↦ lt
      | inr ge ↦
          let t = ap (λ c. not (leb (min a.x1 b.x1) (max a.x0 b.x0) || c)) (le-leb _ _ ge) in
          absurd (let f : true ≡ false = sym e ∙ t ∙ or_true (leb (min a.x1 b.x1) (max a.x0 b.x0)) in cc)
    ]

pub touches_by : (a b : Rect) → max a.x0 b.x0 < min a.x1 b.x1 → max a.y0 b.y0 < min a.y1 b.y1 → touches a b ≡ true
touches_by a b columns rows =
    ap (λ c. not (c || leb (min a.y1 b.y1) (max a.y0 b.y0))) (lt-leb _ _ columns) ∙ ap not (lt-leb _ _ rows)

pub touches_at : (a b : Rect) (x y : ℕ) → IsWithin a x y → IsWithin b x y → touches a b ≡ true
touches_at a b x y h g =
    let hl = h.left in let hr = h.right in let hu = h.upper in let hd = h.lower in
    let gl = g.left in let gr = g.right in let gu = g.upper in let gd = g.lower in
    touches_by a b (omega arith) (omega arith)

-- what lies in a rectangle touches no more than it
pub none_touched : (outer inner b : Rect) → outer.x0 ≤ inner.x0 → inner.x1 ≤ outer.x1 → outer.y0 ≤ inner.y0 → inner.y1 ≤ outer.y1 → touches outer b ≡ false → touches inner b ≡ false
none_touched outer inner b left right upper lower none = go (touches inner b) refl
  where
    go : (t : Bool) → touches inner b ≡ t → touches inner b ≡ false
    go true e =
        let h = touching inner b e in
        let columns = h.0 in let rows = h.1 in
        absurd (let f : true ≡ false = sym (touches_by outer b (omega arith) (omega arith)) ∙ none in cc)
    go false e = e

-- what they have in common is a part of both
pub common_part : (a b : Rect) → touches a b ≡ true → IsPartOf (meet a b) b × IsPartOf (meet a b) a
common_part a b e =
    let h = touching a b e in
    let ah = h.0 in let dn = h.1 in (
      record { left = omega arith; across = omega arith; right = omega arith; upper = omega arith; down = omega arith; lower = omega arith },
      record { left = omega arith; across = omega arith; right = omega arith; upper = omega arith; down = omega arith; lower = omega arith },
    )

-- a row of what they have in common, in the list of one
abbrev pub common_row : Rect → Rect → (from end : ℕ) → List ℤ → List ℤ
common_row place part from end values = take (end - from) (drop from values)

pub common_fits : (place part : Rect) (row : ℕ) → IsPartOf part place → row < rows_of part → (part.y0 - place.y0 + row) * columns_of place + (part.x0 - place.x0) + columns_of part ≤ places_of place
common_fits place part row is lt = let fits = row_inside (whole_rows place) part row (places_of place) (whole_fits place) is lt in omega (arith, fits)

pub common_length : (place part : Rect) (row from end : ℕ) (values : List ℤ) → IsPartOf part place → row < rows_of part → length values ≡ places_of place
    → from ≡ (part.y0 - place.y0 + row) * columns_of place + (part.x0 - place.x0) → end ≡ from + columns_of part → length (common_row place part from end values) ≡ columns_of part
common_length place part row from end values is lt long ef ee =
    let fits = common_fits place part row is lt in
    length-take-le (end - from) (drop from values) (rw length-drop (omega (arith, fits, long, ef, ee))) ∙ (let e : end - from ≡ columns_of part = omega (arith, ee) in e)

pub common_value : (place part : Rect) (row from end x : ℕ) (values : List ℤ) → IsPartOf part place
    → from ≡ (part.y0 - place.y0 + row) * columns_of place + (part.x0 - place.x0) → end ≡ from + columns_of part → part.x0 ≤ x → x < part.x1
    → signed_at (common_row place part from end values) (x - part.x0) ≡ plane_at place values x (part.y0 + row)
common_value place part row from end x values is ef ee left right =
    let il = is.left in let iu = is.upper in
    let inside : x - part.x0 < end - from = omega (arith, left, right, ee) in
    let down : part.y0 - place.y0 + row ≡ part.y0 + row - place.y0 = omega (arith, iu) in
    let at : from + (x - part.x0) ≡ (part.y0 - place.y0 + row) * columns_of place + (x - place.x0) = omega (arith, ef, il, left) in
    get_or-take (end - from) (drop from values) (x - part.x0) (pos 0) inside ∙ get_or-drop from values (x - part.x0) (pos 0)
    ∙ ap (signed_at values) at ∙ ap (λ r. signed_at values (r * columns_of place + (x - place.x0))) down

-- The first rows of the part of both rectangles are written, and nothing else.
pub record AreCommonRows (v : BandRows) (place part : Rect) (row : ℕ) (values old new : List ℤ) : Type 0 where
  pub value : (x y : ℕ) → IsWithin v.area x y
      → coefficient_of v new x y ≡ (if has (rows_above part row) x y then plane_at place values x y else coefficient_of v old x y)
  pub others : (k : ℕ) → ((x y : ℕ) → IsWithin v.area x y → index_in v x y ≢ k) → signed_at new k ≡ signed_at old k

pub common_more : (v : BandRows) (place part : Rect) (row from end at : ℕ) (values first old new : List ℤ) → columns_of v.area ≤ v.step → IsPartOf part v.area → IsPartOf part place → row < rows_of part → length values ≡ places_of place
    → from ≡ (part.y0 - place.y0 + row) * columns_of place + (part.x0 - place.x0) → end ≡ from + columns_of part → at ≡ at_row v part row
    → ((k : ℕ) → signed_at new k ≡ (if leb at k && ltb k (at + length (common_row place part from end values)) then signed_at (common_row place part from end values) (k - at) else signed_at old k))
    → AreCommonRows v place part row values first old → AreCommonRows v place part (row + 1) values first new
common_more v place part row from end at values first old new wide is of lt long ef ee ea written before =
    let R : List ℤ = common_row place part from end values in
    let size = common_length place part row from end values of lt long ef ee in
    let here : (k : ℕ) → signed_at new k ≡ (if leb (at_row v part row) k && ltb k (at_row v part row + length R) then signed_at R (k - at_row v part row) else signed_at old k) =
    λ k. written k ∙ ap (λ n. if leb n k && ltb k (n + length R) then signed_at R (k - n) else signed_at old k) ea in
    record {
      value = row_by v part row first old new R (plane_at place values) wide is size lt (λ x left right. common_value place part row from end x values of ef ee left right) here before.value;
      others = λ k off. row_off v part row k old new R is size lt (here k) off ∙ before.others k off;
    }
