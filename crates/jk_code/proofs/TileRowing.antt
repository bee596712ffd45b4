-- Tiles that lie side by side, and rows of them that lie one below the other.
use Rattle.std.proofs.Common.{◌≡◌, ℕ, ◌+◌, ◌-◌, ◌*◌, ◌/◌, ◌%◌, ◌^◌, ◌<◌, ◌≤◌, min, max, refl, sym, ap, ◌∙◌, arith}
use Rattle.std.proofs.Math.Nat.{mul-le-mul_right, lt_of_mul-lt-mul_right, mul-div_cancel, zero-div, zero-mod, mul_comm}
use Rattle.std.proofs.lemmas.Nat.{div-mul-add, mod-mul-add, mod_below, div-add-mod', le-div}
use Rattle.jk_math.specs.declared.rect.Rect.{Rect}
use Rattle.jk_marks.specs.declared.siz.Siz.{Siz}
use Rattle.jk_marks.specs.Siz.{IsSiz, tiles_across, tiles_down, tile_count}
use Rattle.jk_geom.specs.Rectangles.{ceil_div, tile_area, resolution_area}
use Rattle.jk_geom.specs.Partitions.{image_area, reduced_area, TileHolds}
use Rattle.jk_geom.proofs.Laws.{tile_one}

-- there is a tile
pub some_across : (s : Siz) → IsSiz s → 1 ≤ tiles_across s
some_across s is = by (s.x1 - s.tile_x0) s.tile_width is.tile_wide (let left = is.tile_left in let wide = is.wide in omega (arith, left, wide))
  where
    by : (n w : ℕ) → 0 < w → 0 < n → 1 ≤ (n + w - 1) / w
    by n w some more = le-div 1 (n + w - 1) w some (omega (arith, more))

-- the number of a tile in a row
pub number_of : (first across k : ℕ) → first % across ≡ 0 → k < across → ((first + k) / across ≡ first / across) × ((first + k) % across ≡ k)
number_of first across k begins lt =
    let split = div-add-mod' first across in
    let whole : first / across * across + k ≡ first + k = omega (arith, split, begins) in
    (ap (λ n. n / across) (sym whole) ∙ div-mul-add (first / across) across k lt, ap (λ n. n % across) (sym whole) ∙ mod-mul-add (first / across) across k lt)

-- tiles whose numbers have one quotient lie in one row, and those with one remainder in one column
pub rows_by : (s : Siz) (t u : ℕ) → t / tiles_across s ≡ u / tiles_across s → ((tile_area s t).y0 ≡ (tile_area s u).y0) × ((tile_area s t).y1 ≡ (tile_area s u).y1)
unfolding tile_area
rows_by s t u same = (ap (λ q. max (s.tile_y0 + q * s.tile_height) s.y0) same, ap (λ q. min (s.tile_y0 + (q + 1) * s.tile_height) s.y1) same)

columns_by : (s : Siz) (t u : ℕ) → t % tiles_across s ≡ u % tiles_across s → ((tile_area s t).x0 ≡ (tile_area s u).x0) × ((tile_area s t).x1 ≡ (tile_area s u).x1)
unfolding tile_area
columns_by s t u same = (ap (λ p. max (s.tile_x0 + p * s.tile_width) s.x0) same, ap (λ p. min (s.tile_x0 + (p + 1) * s.tile_width) s.x1) same)

-- the same of what is shown of them
reduced_rows : (a b : Rect) (d : ℕ) → a.y0 ≡ b.y0 → a.y1 ≡ b.y1 → ((reduced_area a d).y0 ≡ (reduced_area b d).y0) × ((reduced_area a d).y1 ≡ (reduced_area b d).y1)
unfolding resolution_area
reduced_rows a b d upper lower = (ap (λ n. ceil_div n (2 ^ (d - 0))) upper, ap (λ n. ceil_div n (2 ^ (d - 0))) lower)

reduced_columns : (a b : Rect) (d : ℕ) → a.x0 ≡ b.x0 → a.x1 ≡ b.x1 → ((reduced_area a d).x0 ≡ (reduced_area b d).x0) × ((reduced_area a d).x1 ≡ (reduced_area b d).x1)
unfolding resolution_area
reduced_columns a b d left right = (ap (λ n. ceil_div n (2 ^ (d - 0))) left, ap (λ n. ceil_div n (2 ^ (d - 0))) right)

pub beside : (s : Siz) (d first k : ℕ) → first % tiles_across s ≡ 0 → k < tiles_across s
    → ((reduced_area (tile_area s (first + k)) d).y0 ≡ (reduced_area (tile_area s first) d).y0) × ((reduced_area (tile_area s (first + k)) d).y1 ≡ (reduced_area (tile_area s first) d).y1)
beside s d first k begins lt =
    let same = rows_by s (first + k) first (number_of first (tiles_across s) k begins lt).0 in
    reduced_rows (tile_area s (first + k)) (tile_area s first) d same.0 same.1

-- a row of tiles is whole
pub row_whole : (s : Siz) (first : ℕ) → first % tiles_across s ≡ 0 → first < tile_count s → first + tiles_across s ≤ tile_count s
row_whole s first begins lt = by first (tiles_across s) (tiles_down s) begins lt
  where
    by : (first across down : ℕ) → first % across ≡ 0 → first < across * down → first + across ≤ across * down
    by first across down begins lt =
        let split = div-add-mod' first across in
        let turn : across * down ≡ down * across = mul_comm across down in
        let less : first / across < down = lt_of_mul-lt-mul_right across (omega (arith, split, begins, lt, turn)) in
        let up : (first / across + 1) * across ≤ down * across = mul-le-mul_right across (omega (arith, less)) in
        let one : (first / across + 1) * across ≡ first / across * across + across = omega arith in
        omega (arith, split, begins, up, one, turn)

-- a place in the rows of a row of tiles is of one of these
pub record IsOfRow (s : Siz) (first t : ℕ) : Type 0 where
  pub number : ℕ
  pub few : number < tiles_across s
  pub is : t ≡ first + number

pub row_holds : (s : Siz) (d first t x y : ℕ) → IsSiz s → first % tiles_across s ≡ 0 → first < tile_count s → TileHolds s d t x y
    → (reduced_area (tile_area s first) d).y0 ≤ y → y < (reduced_area (tile_area s first) d).y1 → IsOfRow s first t
row_holds s d first t x y siz begins lt holds above below =
    let across = tiles_across s in
    let k : ℕ = t % across in
    let few : k < across = mod_below t across (some_across s siz) in
    let u : ℕ = first + k in
    let whole = row_whole s first begins lt in
    let number = number_of first across k begins few in
    let column = columns_by s u t number.1 in
    let columns = reduced_columns (tile_area s u) (tile_area s t) d column.0 column.1 in
    let rows = beside s d first k begins few in
    let left = holds.place.left in let right = holds.place.right in
    let there : TileHolds s d u x y = record {
      tile = omega (arith, few, whole);
      place = record { left = omega (arith, columns.0, left); right = omega (arith, columns.1, right); upper = omega (arith, rows.0, above); lower = omega (arith, rows.1, below) };
    } in
    record { number = k; few = few; is = tile_one s d t u x y siz holds there }

-- ---- one row of tiles below the other

abbrev pub bottom_of : Siz → (q : ℕ) → ℕ
bottom_of s q = s.tile_y0 + (q + 1) * s.tile_height

pub area_rows : (s : Siz) (t : ℕ) → ((tile_area s t).y0 ≡ max (s.tile_y0 + t / tiles_across s * s.tile_height) s.y0) × ((tile_area s t).y1 ≡ min (s.tile_y0 + (t / tiles_across s + 1) * s.tile_height) s.y1)
unfolding tile_area
area_rows s t = (refl, refl)

-- the rows that so many rows of tiles have
far : (n h q : ℕ) → 0 < h → q < (n + h - 1) / h → q * h < n
far n h q some lt =
    let split = div-add-mod' (n + h - 1) h in
    let up : (q + 1) * h ≤ (n + h - 1) / h * h = mul-le-mul_right h (omega (arith, lt)) in
    let one : (q + 1) * h ≡ q * h + h = omega arith in
    omega (arith, split, up, one, some)

near : (n h : ℕ) → 0 < h → n ≤ (n + h - 1) / h * h
near n h some =
    let split = div-add-mod' (n + h - 1) h in
    let rest = mod_below (n + h - 1) h some in
    omega (arith, split, rest)

-- the first row of tiles begins with the image
pub first_row : (s : Siz) → IsSiz s → (tile_area s 0).y0 ≡ s.y0
first_row s is =
    let a = area_rows s 0 in
    let upper = is.tile_upper in
    let none : 0 / tiles_across s * s.tile_height ≡ 0 = ap (λ n. n * s.tile_height) (zero-div (tiles_across s)) ∙ (let z : 0 * s.tile_height ≡ 0 = omega arith in z) in
    omega (arith, a.0, upper, none)

-- each further one where the one above ends
pub next_row : (s : Siz) (first : ℕ) → IsSiz s → first % tiles_across s ≡ 0 → first + tiles_across s < tile_count s → (tile_area s (first + tiles_across s)).y0 ≡ (tile_area s first).y1
next_row s first is begins lt =
    let across = tiles_across s in
    let down = tiles_down s in
    let h = s.tile_height in
    let some = some_across s is in
    let q : ℕ = first / across in
    let split = div-add-mod' first across in
    let one : (q + 1) * across ≡ q * across + across = omega arith in
    let whole : (q + 1) * across + 0 ≡ first + across = omega (arith, split, begins, one) in
    let row : (first + across) / across ≡ q + 1 = ap (λ n. n / across) (sym whole) ∙ div-mul-add (q + 1) across 0 (omega (arith, some)) in
    let turn : across * down ≡ down * across = mul_comm across down in
    let less : q + 1 < down = lt_of_mul-lt-mul_right across (omega (arith, whole, lt, turn)) in
    let a = area_rows s (first + across) in
    let b = area_rows s first in
    let here : (first + across) / across * h ≡ (q + 1) * h = ap (λ n. n * h) row in
    let high = far (s.y1 - s.tile_y0) h (q + 1) is.tile_high less in
    let more : (q + 1) * h ≡ q * h + h = omega arith in
    let lower = is.tile_lower in let upper = is.tile_upper in
    omega (arith, a.0, b.1, here, high, more, lower, upper)

-- and the last one with the image
pub last_row : (s : Siz) (first : ℕ) → IsSiz s → first % tiles_across s ≡ 0 → first + tiles_across s ≡ tile_count s → (tile_area s first).y1 ≡ s.y1
last_row s first is begins all =
    let across = tiles_across s in
    let down = tiles_down s in
    let h = s.tile_height in
    let some = some_across s is in
    let q : ℕ = first / across in
    let split = div-add-mod' first across in
    let one : (q + 1) * across ≡ q * across + across = omega arith in
    let turn : across * down ≡ down * across = mul_comm across down in
    let same : (q + 1) * across ≡ down * across = omega (arith, split, begins, one, all, turn) in
    let rows : q + 1 ≡ down = cancel (q + 1) down across some same in
    let b = area_rows s first in
    let high = near (s.y1 - s.tile_y0) h is.tile_high in
    let here : (q + 1) * h ≡ down * h = ap (λ n. n * h) rows in
    omega (arith, b.1, high, here)
  where
    cancel : (a b p : ℕ) → 0 < p → a * p ≡ b * p → a ≡ b
    cancel a b p some e = sym (mul-div_cancel a some) ∙ ap (λ n. n / p) e ∙ mul-div_cancel b some

-- ---- what is shown of them

upper_by : (a b : Rect) (d : ℕ) → a.y0 ≡ b.y0 → (reduced_area a d).y0 ≡ (reduced_area b d).y0
unfolding resolution_area
upper_by a b d e = ap (λ n. ceil_div n (2 ^ (d - 0))) e

lower_by : (a b : Rect) (d : ℕ) → a.y1 ≡ b.y1 → (reduced_area a d).y1 ≡ (reduced_area b d).y1
unfolding resolution_area
lower_by a b d e = ap (λ n. ceil_div n (2 ^ (d - 0))) e

between : (a b : Rect) (d : ℕ) → a.y0 ≡ b.y1 → (reduced_area a d).y0 ≡ (reduced_area b d).y1
unfolding resolution_area
between a b d e = ap (λ n. ceil_div n (2 ^ (d - 0))) e

pub first_shown : (s : Siz) (d : ℕ) → IsSiz s → (0 % tiles_across s ≡ 0) × ((reduced_area (tile_area s 0) d).y0 ≡ (reduced_area (image_area s) d).y0) × (0 < tile_count s)
first_shown s d is =
    let across = tiles_across s in
    let some = some_across s is in
    let high : 1 ≤ tiles_down s = le-div 1 (s.y1 - s.tile_y0 + s.tile_height - 1) s.tile_height is.tile_high (let upper = is.tile_upper in let more = is.high in omega (arith, upper, more)) in
    let count : 1 * 1 ≤ across * tiles_down s = product 1 1 across (tiles_down s) some high in
    (mod-zero across, upper_by (tile_area s 0) (image_area s) d (first_row s is), omega (arith, count))
  where
    product : (a b c d : ℕ) → a ≤ c → b ≤ d → a * b ≤ c * d
    product a b c d p q = grind arith

    mod-zero : (w : ℕ) → 0 % w ≡ 0
    mod-zero w = zero-mod w

pub next_shown : (s : Siz) (d first : ℕ) → IsSiz s → first % tiles_across s ≡ 0 → first < tile_count s
    → ((first + tiles_across s) % tiles_across s ≡ 0) × (first + tiles_across s < tile_count s → (reduced_area (tile_area s (first + tiles_across s)) d).y0 ≡ (reduced_area (tile_area s first) d).y1)
next_shown s d first is begins lt =
    let across = tiles_across s in
    let some = some_across s is in
    let split = div-add-mod' first across in
    let one : (first / across + 1) * across ≡ first / across * across + across = omega arith in
    let whole : (first / across + 1) * across + 0 ≡ first + across = omega (arith, split, begins, one) in
    (ap (λ n. n % across) (sym whole) ∙ mod-mul-add (first / across + 1) across 0 (omega (arith, some)), λ more. between (tile_area s (first + across)) (tile_area s first) d (next_row s first is begins more))

pub last_shown : (s : Siz) (d first : ℕ) → IsSiz s → first % tiles_across s ≡ 0 → first < tile_count s → tile_count s ≤ first + tiles_across s → (reduced_area (tile_area s first) d).y1 ≡ (reduced_area (image_area s) d).y1
last_shown s d first is begins lt none =
    let whole = row_whole s first begins lt in
    lower_by (tile_area s first) (image_area s) d (last_row s first is begins (omega (arith, whole, none)))
