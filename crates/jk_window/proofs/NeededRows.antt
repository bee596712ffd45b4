-- The precincts that a stretch needs are those of an interval of columns in each row.
use Rattle.std.proofs.Common.{◌≡◌, ℕ, zero, suc, ◌+◌, ◌-◌, ◌*◌, ◌/◌, ◌%◌, ◌^◌, ◌<◌, ◌≤◌, ◌⊎◌, ◌↔◌, inl, inr, min, max, Bool, true, false, leb, cond, refl, ap, sym, subst, ◌∙◌, arith}
use Rattle.std.proofs.Math.Nat.{mul-le-mul_right, pow-le-pow_right}
use Rattle.std.proofs.lemmas.Nat.{pow_pos, div-add-mod'}
use Rattle.std.proofs.lemmas.Bool.{cases_lt, cond-true, cond-false, or_left, or_right, lt-ltb, ltb-true, and_parts, and_from, leb-true, leb-false, le-leb}
use Rattle.jk_math.specs.declared.rect.Rect.{Rect}
use Rattle.jk_marks.specs.declared.coding.Coding.{Coding}
use Rattle.jk_math.specs.declared.orientation.Orientation.{Orientation}
use Rattle.jk_math.specs.declared.orientation.Orientation.TheVariants.{LL, HL, LH, HH}
use Rattle.jk_geom.specs.Rectangles.{ceil_div, band_area}
use Rattle.jk_geom.specs.Precincts.{precincts_across, precincts_down, precinct_number, part_width}
use Rattle.jk_geom.proofs.Laws.{ceil_least, ceil_mono, ceil_covers, cell_one, raster_column, raster_row}
use Rattle.std.specs.Prelude.{◌||◌, nat_lt}
use Rattle.jk_window.specs.declared.rows.NeededPrecincts.{NeededPrecincts}
use Rattle.jk_geom.specs.Rectangles.{touches}
use Rattle.jk_geom.specs.Precincts.{precinct_area}
use Rattle.jk_window.proofs.NeededCells.{sides_of, of_sides, lowest_one, high_one, high_columns, high_rows, columns_again, rows_again}
use Rattle.jk_window.specs.Needs.{half_start, half_end, needed_part, stretch, needs}
use Rattle.jk_window.specs.NeededNumbers.{IsShared, IsIn, NeedsColumn, AreCells, shared_area, first_column, hull_of, is_in, columns_in, rows_in, AreNeeded, AreNeededNumbers}

-- ---- the places of the high part of a line begin no later than those of the low part, and end at most one earlier

record IsBeside (lo hi start end : ℕ) : Type 0 where
  pub earlier : start ≤ lo
  pub close : hi ≤ end + 1

ceil_less : (v q p : ℕ) → 0 < p → q ≤ p → ceil_div v p ≤ ceil_div (v - q) p + 1
ceil_less v q p some few =
    let covers = ceil_covers (v - q) p some in
    let more : (ceil_div (v - q) p + 1) * p ≡ ceil_div (v - q) p * p + p = omega arith in
    ceil_least v p (ceil_div (v - q) p + 1) some (omega arith)

beside : (v w nb a b : ℕ) → 0 < nb → IsBeside (max (ceil_div (v - 2 ^ (nb - 1) * 0) (2 ^ nb)) (half_start 0 a)) (min (ceil_div (w - 2 ^ (nb - 1) * 0) (2 ^ nb)) (half_end 0 b)) (max (ceil_div (v - 2 ^ (nb - 1) * 1) (2 ^ nb)) (half_start 1 a)) (min (ceil_div (w - 2 ^ (nb - 1) * 1) (2 ^ nb)) (half_end 1 b))
beside v w nb a b some =
    let p = 2 ^ nb in
    let q = 2 ^ (nb - 1) in
    let pos : 0 < p = pow_pos nb in
    let half : q ≤ p = pow-le-pow_right (omega arith) (omega arith) in
    let from : ceil_div (v - q * 1) p ≤ ceil_div (v - q * 0) p = ceil_mono (v - q * 1) (v - q * 0) p pos (omega arith) in
    let less : ceil_div w p ≤ ceil_div (w - q) p + 1 = ceil_less w q p pos half in
    let whole : ceil_div (w - q * 0) p ≡ ceil_div w p = ap (λ n. ceil_div n p) (let is : w - q * 0 ≡ w = omega arith in is) in
    let part : ceil_div (w - q * 1) p ≡ ceil_div (w - q) p = ap (λ n. ceil_div n p) (let is : w - q * 1 ≡ w - q = omega arith in is) in
    record { earlier = omega arith; close = omega arith }

columns_beside : (a : Rect) (k : Coding) (u : Rect) (n r : ℕ) → IsBeside (shared_area a k u n r LH).x0 (shared_area a k u n r LH).x1 (shared_area a k u n r HL).x0 (shared_area a k u n r HL).x1
unfolding band_area
columns_beside a k u n r = beside a.x0 a.x1 (k.levels - r + 1) (stretch u n).x0 (stretch u n).x1 (omega arith)

-- ---- so no column between a low one and a high one is left out

between : (t w i e lo hi start end : ℕ) → IsBeside lo hi start end → IsShared t e lo hi → IsShared w e start end → ((t < i) × (i < w)) ⊎ ((w < i) × (i < t)) → IsShared i e start end
between t w i e lo hi start end side low high (inl order) =
    let p = 2 ^ e in
    let from : (t + 1) * p ≤ i * p = mul-le-mul_right p (omega arith) in
    let to : (i + 1) * p ≤ w * p = mul-le-mul_right p (omega arith) in
    let own : (i + 1) * p ≡ i * p + p = omega arith in
    let pos : 0 < p = pow_pos e in
    let s = side.earlier in
    omega arith
between t w i e lo hi start end side low high (inr order) =
    let p = 2 ^ e in
    let from : (w + 1) * p ≤ i * p = mul-le-mul_right p (omega arith) in
    let to : (i + 1) * p ≤ t * p = mul-le-mul_right p (omega arith) in
    let own : (i + 1) * p ≡ i * p + p = omega arith in
    let pos : 0 < p = pow_pos e in
    let s = side.close in
    omega arith

-- ---- intervals

in_is : (a : ℕ × ℕ) (i : ℕ) → is_in a i ≡ true → IsIn a i
in_is a i e = let parts = and_parts (leb a.0 i) (nat_lt i a.1) e in (leb-true a.0 i parts.0, ltb-true i a.1 parts.1)

is_in_from : (a : ℕ × ℕ) (i : ℕ) → IsIn a i → is_in a i ≡ true
is_in_from a i h = and_from (leb a.0 i) (nat_lt i a.1) (le-leb a.0 i h.0) (lt-ltb i a.1 h.1)

hull_has : (a b : ℕ × ℕ) (i : ℕ) → IsIn a i ⊎ IsIn b i → IsIn (hull_of a b) i
hull_has a b i h = by (leb a.1 a.0) (leb b.1 b.0) refl refl h
  where
    by : (p q : Bool) → leb a.1 a.0 ≡ p → leb b.1 b.0 ≡ q → IsIn a i ⊎ IsIn b i → IsIn (cond p b (cond q a (min a.0 b.0, max a.1 b.1))) i
    by true q e f (inl x) = let none = leb-true a.1 a.0 e in absurd (omega arith)
    by true q e f (inr y) = y
    by false true e f (inl x) = x
    by false true e f (inr y) = let none = leb-true b.1 b.0 f in absurd (omega arith)
    by false false e f (inl x) = (omega arith, omega arith)
    by false false e f (inr y) = (omega arith, omega arith)

-- what is in neither of two intervals stands between them
record IsGap (a b : ℕ × ℕ) (i : ℕ) : Type 0 where
  pub first : a.0 < a.1
  pub second : b.0 < b.1
  pub order : ((b.0 < i) × (i < a.0)) ⊎ ((a.0 < i) × (i < b.0))

gap : (a b : ℕ × ℕ) (i : ℕ) → a.0 < a.1 → b.0 < b.1 → min a.0 b.0 ≤ i → i < max a.1 b.1 → (IsIn a i ⊎ IsIn b i) ⊎ IsGap a b i
gap a b i first second from to = elim (cases_lt i a.0) [
  | inl below ↦ elim (cases_lt i b.1) [
    | inl here ↦ inl (inr (omega arith, here))
    | inr past ↦ inr (record { first = first; second = second; order = inl (omega arith, below) })
  ]
  | inr above ↦ elim (cases_lt i a.1) [
    | inl here ↦ inl (inl (above, here))
    | inr past ↦ elim (cases_lt i b.0) [
      | inl below ↦ inr (record { first = first; second = second; order = inr (omega arith, below) })
      | inr here ↦ inl (inr (here, omega arith))
    ]
  ]
]

hull_only : (a b : ℕ × ℕ) (i : ℕ) → IsIn (hull_of a b) i → (IsIn a i ⊎ IsIn b i) ⊎ IsGap a b i
hull_only a b i h = by (leb a.1 a.0) (leb b.1 b.0) refl refl h
  where
    by : (p q : Bool) → leb a.1 a.0 ≡ p → leb b.1 b.0 ≡ q → IsIn (cond p b (cond q a (min a.0 b.0, max a.1 b.1))) i → (IsIn a i ⊎ IsIn b i) ⊎ IsGap a b i
    by true q e f h = inl (inr h)
    by false true e f h = inl (inl h)
    by false false e f h = gap a b i (leb-false a.1 a.0 e) (leb-false b.1 b.0 f) h.0 h.1

-- ---- so the hull of the high and the low columns has no others

hull_columns : (a : Rect) (k : Coding) (u : Rect) (n r : ℕ) (high low : Rect) (i : ℕ) → AreCells a k u n r HL high → AreCells a k u n r LH low
    → IsIn (hull_of (high.x0, high.x1) (low.x0, low.x1)) i → NeedsColumn a k u n r HL i ⊎ NeedsColumn a k u n r LH i
hull_columns a k u n r high low i wide tall h =
    let f = first_column a k r in
    let sh = shared_area a k u n r HL in
    let sl = shared_area a k u n r LH in
    elim (hull_only (high.x0, high.x1) (low.x0, low.x1) i h) [
      | inl one ↦ elim one [ inl x ↦ inl (wide.column_only i x.0 x.1) | inr y ↦ inr (tall.column_only i y.0 y.1) ]
      | inr gap ↦ inl (
          between (f + low.x0) (f + high.x0) (f + i) (part_width k r) sl.x0 sl.x1 sh.x0 sh.x1 (columns_beside a k u n r)
          (tall.column_only low.x0 (omega arith) gap.second)
          (wide.column_only high.x0 (omega arith) gap.first)
          (elim gap.order [ inl o ↦ inl (omega arith, omega arith) | inr o ↦ inr (omega arith, omega arith) ]))
    ]

-- ---- which columns a row has

columns_low : (x : NeededPrecincts) (j : ℕ) → is_in (x.low.y0, x.low.y1) j ≡ true → columns_in x j ≡ hull_of (x.high.x0, x.high.x1) (x.low.x0, x.low.x1)
columns_low x j e = cond-true _ _ _ e

columns_high : (x : NeededPrecincts) (j : ℕ) → is_in (x.low.y0, x.low.y1) j ≡ false → is_in (x.high.y0, x.high.y1) j ≡ true → columns_in x j ≡ (x.high.x0, x.high.x1)
columns_high x j e f = cond-false _ _ _ e ∙ cond-true _ _ _ f

columns_none : (x : NeededPrecincts) (j : ℕ) → is_in (x.low.y0, x.low.y1) j ≡ false → is_in (x.high.y0, x.high.y1) j ≡ false → columns_in x j ≡ (0, 0)
columns_none x j e f = cond-false _ _ _ e ∙ cond-false _ _ _ f

-- a column of a row of the low part, and of another row of the high part
in_low : (x : NeededPrecincts) (i j : ℕ) → IsIn (x.low.y0, x.low.y1) j → IsIn (x.high.x0, x.high.x1) i ⊎ IsIn (x.low.x0, x.low.x1) i → IsIn (columns_in x j) i
in_low x i j row column = subst (λ (c : ℕ × ℕ). IsIn c i) (sym (columns_low x j (is_in_from (x.low.y0, x.low.y1) j row))) (hull_has (x.high.x0, x.high.x1) (x.low.x0, x.low.x1) i column)

in_high : (x : NeededPrecincts) (i j : ℕ) → IsIn (x.high.y0, x.high.y1) j → IsIn (x.high.x0, x.high.x1) i → IsIn (columns_in x j) i
in_high x i j row column = by (is_in (x.low.y0, x.low.y1) j) refl
  where
    by : (b : Bool) → is_in (x.low.y0, x.low.y1) j ≡ b → IsIn (columns_in x j) i
    by true e = in_low x i j (in_is (x.low.y0, x.low.y1) j e) (inl column)
    by false e = subst (λ (c : ℕ × ℕ). IsIn c i) (sym (columns_high x j e (is_in_from (x.high.y0, x.high.y1) j row))) column

-- and no others
in_only : (x : NeededPrecincts) (i j : ℕ) → IsIn (columns_in x j) i
    → (IsIn (x.low.y0, x.low.y1) j × IsIn (hull_of (x.high.x0, x.high.x1) (x.low.x0, x.low.x1)) i)
    ⊎ (IsIn (x.high.y0, x.high.y1) j × IsIn (x.high.x0, x.high.x1) i)
in_only x i j h = by (is_in (x.low.y0, x.low.y1) j) (is_in (x.high.y0, x.high.y1) j) refl refl
  where
    by : (p q : Bool) → is_in (x.low.y0, x.low.y1) j ≡ p → is_in (x.high.y0, x.high.y1) j ≡ q
        → (IsIn (x.low.y0, x.low.y1) j × IsIn (hull_of (x.high.x0, x.high.x1) (x.low.x0, x.low.x1)) i)
        ⊎ (IsIn (x.high.y0, x.high.y1) j × IsIn (x.high.x0, x.high.x1) i)
    by true q e f = inl (in_is (x.low.y0, x.low.y1) j e, subst (λ (c : ℕ × ℕ). IsIn c i) (columns_low x j e) h)
    by false true e f = inr (in_is (x.high.y0, x.high.y1) j f, subst (λ (c : ℕ × ℕ). IsIn c i) (columns_high x j e f) h)
    by false false e f = let none : IsIn (0, 0) i = subst (λ (c : ℕ × ℕ). IsIn c i) (columns_none x j e f) h in absurd (omega arith)

-- ---- a precinct that has a place of a sub-band is needed

lowest_needs : (a : Rect) (k : Coding) (u : Rect) (d r m : ℕ) → r ≡ 0 → r + d ≤ k.levels → touches (precinct_area a k r m LL) (needed_part u (k.levels - (r + d)) LL) ≡ true → needs a k u d r m ≡ true
lowest_needs a k u d zero m e few here = and_from (leb (0 + d) k.levels) _ (le-leb (0 + d) k.levels few) (or_left (touches (precinct_area a k 0 m LL) (needed_part u (k.levels - (0 + d)) LL)) false here)
lowest_needs a k u d (suc r) m e few here = absurd (omega arith)

high_needs : (a : Rect) (k : Coding) (u : Rect) (d r m : ℕ) → 0 < r → r + d ≤ k.levels
    → (touches (precinct_area a k r m HL) (needed_part u (k.levels - (r + d)) HL) ≡ true)
    ⊎ ((touches (precinct_area a k r m LH) (needed_part u (k.levels - (r + d)) LH) ≡ true)
    ⊎ (touches (precinct_area a k r m HH) (needed_part u (k.levels - (r + d)) HH) ≡ true))
    → needs a k u d r m ≡ true
high_needs a k u d zero m e few one = absurd (omega arith)
high_needs a k u d (suc r) m e few one =
    let t = λ (o : Orientation). touches (precinct_area a k (suc r) m o) (needed_part u (k.levels - (suc r + d)) o) in
    and_from (leb (suc r + d) k.levels) _ (le-leb (suc r + d) k.levels few) (elim one [
      | inl hl ↦ or_left (t HL) (t LH || (t HH || false)) hl
      | inr other ↦ or_right (t HL) (t LH || (t HH || false)) (elim other [
        | inl lh ↦ or_left (t LH) (t HH || false) lh
        | inr hh ↦ or_right (t LH) (t HH || false) (or_left (t HH) false hh)
      ])
    ])

-- ---- the law

pub lowest_needed : (a : Rect) (k : Coding) (u : Rect) (d r : ℕ) (x : NeededPrecincts) → r ≡ 0 → r + d ≤ k.levels → x.high.x1 ≡ 0 → x.high.y1 ≡ 0
    → AreCells a k u (k.levels - (r + d)) r LL x.low → AreNeeded a k u d r x
lowest_needed a k u d r x low few none empty are m lt =
    let n = k.levels - (r + d) in
    let i = m % precincts_across a k r in
    let j = m / precincts_across a k r in
    let across = raster_column m (precincts_across a k r) (precincts_down a k r) lt in
    let down = raster_row m (precincts_across a k r) (precincts_down a k r) lt in (
      (λ need. (
          let sides = sides_of a k u n r m LL (lowest_one a k u d r m low need) in
          in_low x i j (are.row j down sides.1) (inr (are.column i across sides.0)))),
      (λ h. lowest_needs a k u d r m low few (elim (in_only x i j h) [
        | inl here ↦ elim (hull_only (x.high.x0, x.high.x1) (x.low.x0, x.low.x1) i here.1) [
          | inl one ↦ elim one [
            | inl y ↦ absurd (omega arith)
            | inr y ↦ of_sides a k u n r m LL (are.column_only i y.0 y.1) (are.row_only j here.0.0 here.0.1)
          ]
          | inr gap ↦ (let some = gap.first in absurd (omega arith))
        ]
        | inr here ↦ (let y = here.1 in absurd (omega arith))
      ])),
    )

pub high_needed : (a : Rect) (k : Coding) (u : Rect) (d r : ℕ) (x : NeededPrecincts) → 0 < r → r + d ≤ k.levels
    → AreCells a k u (k.levels - (r + d)) r HL x.high → AreCells a k u (k.levels - (r + d)) r LH x.low → AreNeeded a k u d r x
high_needed a k u d r x high few wide tall m lt =
    let n = k.levels - (r + d) in
    let i = m % precincts_across a k r in
    let j = m / precincts_across a k r in
    let across = raster_column m (precincts_across a k r) (precincts_down a k r) lt in
    let down = raster_row m (precincts_across a k r) (precincts_down a k r) lt in (
      (λ need. elim (high_one a k u d r m high need) [
        | inl here ↦ (
            let sides = sides_of a k u n r m HL here in
            in_high x i j (wide.row j down sides.1) (wide.column i across sides.0))
        | inr other ↦ elim other [
          | inl here ↦ (
              let sides = sides_of a k u n r m LH here in
              in_low x i j (tall.row j down sides.1) (inr (tall.column i across sides.0)))
          | inr here ↦ (
              let sides = sides_of a k u n r m HH here in
              in_low x i j (tall.row j down (high_rows a k u n r j sides.1)) (inl (wide.column i across (high_columns a k u n r i sides.0))))
        ]
      ]),
      (λ h. high_needs a k u d r m high few (elim (in_only x i j h) [
        | inl here ↦ elim (hull_columns a k u n r x.high x.low i wide tall here.1) [
          | inl column ↦ inr (inr (of_sides a k u n r m HH (columns_again a k u n r i column) (rows_again a k u n r j (tall.row_only j here.0.0 here.0.1))))
          | inr column ↦ inr (inl (of_sides a k u n r m LH column (tall.row_only j here.0.0 here.0.1)))
        ]
        | inr here ↦ inl (of_sides a k u n r m HL (wide.column_only i here.1.0 here.1.1) (wide.row_only j here.0.0 here.0.1))
      ])),
    )

-- ---- by numbers

pub number_row : (n j w : ℕ) → j * w ≤ n → n < (j + 1) * w → n / w ≡ j
number_row n j w from to = sym (cell_one j n w (let own : (j + 1) * w ≡ j * w + w = omega arith in omega arith) from to)

number_column : (n j w : ℕ) → n / w ≡ j → j * w + n % w ≡ n
number_column n j w row = ap (λ q. q * w + n % w) (sym row) ∙ div-add-mod' n w

number_few : (n j w h : ℕ) → j < h → n < (j + 1) * w → n < w * h
number_few n j w h lt to =
    let wide : (j + 1) * w ≤ h * w = mul-le-mul_right w (omega arith) in
    let same : h * w ≡ w * h = omega arith in
    omega arith

pub needed_numbers : (a : Rect) (k : Coding) (u : Rect) (d r : ℕ) (x : NeededPrecincts) → AreNeeded a k u d r x → AreNeededNumbers a k u d r x
needed_numbers a k u d r x are j n lt within =
    let w = precincts_across a k r in
    let row : n / w ≡ j = number_row n j w within.0 within.1 in
    let column : j * w + n % w ≡ n = number_column n j w row in
    let law = subst (λ q. (needs a k u d r n ≡ true) ↔ IsIn (columns_in x q) (n % w)) row (are n (number_few n j w (precincts_down a k r) lt within.1)) in (
      (λ need. (let here = law.0 need in (omega (arith, here, column), omega (arith, here, column)))),
      (λ here. law.1 (omega (arith, here, column), omega (arith, here, column))),
    )

-- a row that has needed columns is among the rows
pub row_covered : (x : NeededPrecincts) (i j : ℕ) → IsIn (columns_in x j) i → IsIn (rows_in x) j
row_covered x i j h = elim (in_only x i j h) [
  | inl here ↦ hull_has (x.high.y0, x.high.y1) (x.low.y0, x.low.y1) j (inr here.0)
  | inr here ↦ hull_has (x.high.y0, x.high.y1) (x.low.y0, x.low.y1) j (inl here.0)
]

-- ---- so whether a precinct is needed is seen by its row and column

same_truth : (p q : Bool) → (p ≡ true → q ≡ true) → (q ≡ true → p ≡ true) → p ≡ q
same_truth true q f g = sym (f refl)
same_truth false true f g = g refl
same_truth false false f g = refl

pub has_needs : (a : Rect) (k : Coding) (u : Rect) (d r n : ℕ) (x : NeededPrecincts) → AreNeeded a k u d r x → n < precinct_number a k r
    → is_in (columns_in x (n / precincts_across a k r)) (n % precincts_across a k r) ≡ needs a k u d r n
has_needs a k u d r n x are less =
    let w = precincts_across a k r in
    same_truth (is_in (columns_in x (n / w)) (n % w)) (needs a k u d r n)
    (λ e. (are n less).1 (in_is (columns_in x (n / w)) (n % w) e))
    (λ e. is_in_from (columns_in x (n / w)) (n % w) ((are n less).0 e))
