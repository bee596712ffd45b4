-- Laws of rasters: how long they are, what stands at a place, and when two are one.
use Rattle.std.proofs.Common.{◌≡◌, ℕ, ◌+◌, ◌-◌, ◌*◌, ◌/◌, ◌%◌, ◌<◌, ◌≤◌, List, length, get_or, ℤ, pos, sym, ◌∙◌, ap, arith}
use Rattle.std.proofs.lemmas.Nat.{div-mul-add, mod-mul-add, div_below, mod_below, row_fits, div-add-mod'}
use Rattle.std.proofs.lemmas.List.{ext_get_or}
use Rattle.std.proofs.lemmas.List.FromFn.{length-map-range_with_len, get_or-map-range_with_len}
use Rattle.jk_math.specs.declared.rect.Rect.{Rect}
use Rattle.jk_math.specs.Raster.{columns_of, rows_of, places_of, raster, plane_at}

-- the column and the row of place k of a list of rows
abbrev pub column_at : Rect → ℕ → ℕ
column_at a k = a.x0 + k % columns_of a

abbrev pub row_at : Rect → ℕ → ℕ
row_at a k = a.y0 + k / columns_of a

pub raster_length : (a : Rect) (f : ℕ → ℕ → ℤ) → length (raster a f) ≡ places_of a
unfolding raster
raster_length a f = length-map-range_with_len (λ k. f (column_at a k) (row_at a k)) 0 (places_of a)

-- entry k of a raster
pub raster_entry : (a : Rect) (f : ℕ → ℕ → ℤ) (k : ℕ) → k < places_of a → get_or (raster a f) k (pos 0) ≡ f (column_at a k) (row_at a k)
unfolding raster
raster_entry a f k h = get_or-map-range_with_len (λ k. f (column_at a k) (row_at a k)) 0 (places_of a) k k (pos 0) h (omega arith)

-- the place of entry k is one of the rectangle
pub record IsPlaceOf (a : Rect) (x y : ℕ) : Type 0 where
  pub left : a.x0 ≤ x
  pub right : x < a.x1
  pub upper : a.y0 ≤ y
  pub lower : y < a.y1

some_column : (k w h : ℕ) → k < h * w → 0 < w
some_column k w h lt = grind arith

pub entry_place : (a : Rect) (k : ℕ) → k < places_of a → IsPlaceOf a (column_at a k) (row_at a k)
entry_place a k h =
    let some : 0 < columns_of a = some_column k (columns_of a) (rows_of a) h in
    let across : k % columns_of a < columns_of a = mod_below k (columns_of a) some in
    let down : k / columns_of a < rows_of a = div_below k (columns_of a) (rows_of a) some h in
    record { left = omega arith; right = omega arith; upper = omega arith; lower = omega arith }

-- where a place of the rectangle stands in the list
pub index_below : (a : Rect) (x y : ℕ) → IsPlaceOf a x y → (y - a.y0) * columns_of a + (x - a.x0) < places_of a
index_below a x y h =
    let left = h.left in let right = h.right in let upper = h.upper in let lower = h.lower in
    let fits : (y - a.y0) * columns_of a + columns_of a ≤ rows_of a * columns_of a = row_fits (y - a.y0) (columns_of a) (rows_of a) (columns_of a) (omega arith) (omega arith) in
    omega arith

-- what stands at a place of a raster
pub raster_at : (a : Rect) (f : ℕ → ℕ → ℤ) (x y : ℕ) → IsPlaceOf a x y → plane_at a (raster a f) x y ≡ f x y
raster_at a f x y h =
    let left = h.left in let right = h.right in let upper = h.upper in
    let w = columns_of a in
    let k = (y - a.y0) * w + (x - a.x0) in
    let inside : x - a.x0 < w = omega arith in
    let across : a.x0 + k % w ≡ x = ap (λ n. a.x0 + n) (mod-mul-add (y - a.y0) w (x - a.x0) inside) ∙ (let e : a.x0 + (x - a.x0) ≡ x = omega arith in e) in
    let down : a.y0 + k / w ≡ y = ap (λ n. a.y0 + n) (div-mul-add (y - a.y0) w (x - a.x0) inside) ∙ (let e : a.y0 + (y - a.y0) ≡ y = omega arith in e) in
    raster_entry a f k (index_below a x y h) ∙ ap (λ n. f n (row_at a k)) across ∙ ap (λ n. f x n) down

-- a list that has the values of f is its raster
pub raster_is : (a : Rect) (values : List ℤ) (f : ℕ → ℕ → ℤ) → length values ≡ places_of a →
    ((x y : ℕ) → IsPlaceOf a x y → plane_at a values x y ≡ f x y) → values ≡ raster a f
raster_is a values f long same =
    ext_get_or (pos 0) values (raster a f) (long ∙ sym (raster_length a f)) (λ k lt.
    let h : k < places_of a = omega arith in
    let whole : k / columns_of a * columns_of a + k % columns_of a ≡ k = div-add-mod' k (columns_of a) in
    let down : row_at a k - a.y0 ≡ k / columns_of a = omega arith in
    let across : column_at a k - a.x0 ≡ k % columns_of a = omega arith in
    let index : (row_at a k - a.y0) * columns_of a + (column_at a k - a.x0) ≡ k =
    ap (λ n. n * columns_of a + (column_at a k - a.x0)) down ∙ ap (λ n. k / columns_of a * columns_of a + n) across ∙ whole in
    ap (λ n. get_or values n (pos 0)) (sym index) ∙ same (column_at a k) (row_at a k) (entry_place a k h) ∙ sym (raster_entry a f k h))

-- two rasters of functions that agree on the rectangle are one
pub raster_same : (a : Rect) (f g : ℕ → ℕ → ℤ) → ((x y : ℕ) → IsPlaceOf a x y → f x y ≡ g x y) → raster a f ≡ raster a g
raster_same a f g same = raster_is a (raster a f) g (raster_length a f) (λ x y h. raster_at a f x y h ∙ same x y h)
