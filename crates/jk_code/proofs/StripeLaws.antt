-- Stripes of a picture: a part of it is small enough to be one, and its rows are those of all stripes.
use Rattle.std.proofs.Common.{◌≡◌, ℕ, ◌+◌, ◌*◌, ◌-◌, ◌/◌, ◌%◌, ◌<◌, ◌≤◌, ◌++◌, List, [], length, get_or, ℤ, pos, refl, sym, ap, ◌∙◌, inl, inr, arith}
use Rattle.std.specs.Global.{Vec}
use Rattle.std.proofs.lemmas.Bool.{cases_lt}
use Rattle.std.proofs.lemmas.List.{ext_get_or, length-append, length-map, get_or_append_left, get_or-append_right}
use Rattle.std.proofs.lemmas.List.FromFn.{length-map-range_with_len, get_or-map-range_with_len}
use Rattle.std.proofs.lemmas.Nat.{div-mul-add, mod-mul-add, mod_below, div-add-mod'}
use Rattle.jk_math.specs.Lists.{lists_of}
use Rattle.jk_math.specs.Picture.{Picture, IsPicture}
use Rattle.jk_math.specs.declared.rect.Rect.{Rect}
use Rattle.jk_math.specs.Raster.{raster}
use Rattle.jk_math.proofs.Laws.{raster_length, raster_entry, raster_is}
use Rattle.jk_geom.specs.Rectangles.{IsArea}
use Rattle.jk_params.specs.Headers.{Headers}
use Rattle.jk_tile.specs.Filling.{IsPartOf}
use Rattle.jk_window.specs.Views.{frame_of}
use Rattle.jk_code.specs.Made.{rows_of}
use Rattle.jk_code.specs.MeaningReading.{planes_of_tiles, picture_with}
use Rattle.jk_code.specs.RowsWritten.{sample_on_grid}
use Rattle.jk_code.specs.Tiles.{plane_in}
use Rattle.jk_code.specs.Viewing.{picture_on}
use Rattle.jk_code.proofs.FrameLaws.{tiles_picture}
use Rattle.jk_code.proofs.Planes.{HasFrame}
use Rattle.jk_code.proofs.ViewLaws.{seen_on, same_rect}

abbrev pub rows : (x0 x1 y0 y1 : ℕ) → Rect
rows x0 x1 y0 y1 = record { x0 = x0; y0 = y0; x1 = x1; y1 = y1 }

-- rows and those below them
pub raster_joined : (x0 x1 y0 y1 y2 : ℕ) (f : ℕ → ℕ → ℤ) → y0 ≤ y1 → y1 ≤ y2 → raster (rows x0 x1 y0 y1) f ++ raster (rows x0 x1 y1 y2) f ≡ raster (rows x0 x1 y0 y2) f
raster_joined x0 x1 y0 y1 y2 f low high =
    let w = x1 - x0 in
    let a = rows x0 x1 y0 y1 in
    let b = rows x0 x1 y1 y2 in
    let c = rows x0 x1 y0 y2 in
    let n = (y1 - y0) * w in
    let sum : (y1 - y0) * w + (y2 - y1) * w ≡ (y2 - y0) * w = sides (y1 - y0) (y2 - y1) (y2 - y0) w (omega (arith, low, high)) in
    let first = raster_length a f in
    let second = raster_length b f in
    let all = raster_length c f in
    let long : length (raster a f ++ raster b f) ≡ length (raster c f) = length-append (raster a f) (raster b f) ∙ (let e : length (raster a f) + length (raster b f) ≡ length (raster c f) = omega (arith, sum, first, second, all) in e) in
    ext_get_or (pos 0) (raster a f ++ raster b f) (raster c f) long (λ k lt.
    let inside : k < (y2 - y0) * w = omega (arith, lt, long, all) in
    elim (cases_lt k n) [
      | inl less ↦
          get_or_append_left (raster a f) (raster b f) (pos 0) k (omega (arith, less, first)) ∙ raster_entry a f k less ∙ sym (raster_entry c f k inside)
      | inr more ↦
          let j = k - n in
          let below : j < (y2 - y1) * w = omega (arith, inside, more, sum) in
          let wide : 0 < w = some_column j (y2 - y1) w below in
          let q : ℕ = j / w in
          let r : ℕ = j % w in
          let part : r < w = mod_below j w wide in
          let split : q * w + r ≡ j = div-add-mod' j w in
          let spread : (y1 - y0 + q) * w ≡ (y1 - y0) * w + q * w = grind arith in
          let whole : (y1 - y0 + q) * w + r ≡ k = omega (arith, spread, split, more) in
          let row : k / w ≡ y1 - y0 + q = ap (λ m. m / w) (sym whole) ∙ div-mul-add (y1 - y0 + q) w r part in
          let column : k % w ≡ r = ap (λ m. m % w) (sym whole) ∙ mod-mul-add (y1 - y0 + q) w r part in
          let down : y1 + q ≡ y0 + k / w = omega (arith, row, low) in
          get_or-append_right (raster a f) (raster b f) n k (pos 0) first more ∙ raster_entry b f j below
          ∙ ap (λ m. f (x0 + m) (y1 + q)) (sym column) ∙ ap (λ m. f (x0 + k % w) m) down ∙ sym (raster_entry c f k inside)
    ])
  where
    sides : (p q r w : ℕ) → p + q ≡ r → p * w + q * w ≡ r * w
    sides p q r w e = (let s : p * w + q * w ≡ (p + q) * w = grind arith in s) ∙ ap (λ m. m * w) e

    some_column : (k h w : ℕ) → k < h * w → 0 < w
    some_column k h w lt = grind arith

smaller : (w h v g : ℕ) → w ≤ v → h ≤ g → w * h ≤ v * g
smaller w h v g across down = grind arith

-- A part of an image that has a sample is large enough and small enough to be one.
pub part_frame : (w a : Rect) → IsPartOf w a → HasFrame a → w.x0 < w.x1 → w.y0 < w.y1 → HasFrame w
part_frame w a part frame wide high =
    let left = part.left in let right = part.right in let upper = part.upper in let lower = part.lower in
    let few = smaller (w.x1 - w.x0) (w.y1 - w.y0) (a.x1 - a.x0) (a.y1 - a.y0) (omega (arith, left, right, wide)) (omega (arith, upper, lower, high)) in
    let a_wide = frame.wide in let a_high = frame.high in let a_right = frame.right in let a_lower = frame.lower in let area = frame.area in
    record { wide = omega (arith, wide); high = omega (arith, high); right = omega (arith, left, right, wide, a_right, a_wide); lower = omega (arith, upper, lower, high, a_lower, a_high); area = omega (arith, few, area) }

-- the rows of the picture of all tiles
pub rows_are : (bytes : List ℕ) (h : Headers) (d y z : ℕ) → IsArea (frame_of h d) → (frame_of h d).y0 ≤ y → z ≤ (frame_of h d).y1
    → picture_with h.siz (record { x0 = (frame_of h d).x0; y0 = y; x1 = (frame_of h d).x1; y1 = z }) (planes_of_tiles bytes h d (record { x0 = (frame_of h d).x0; y0 = y; x1 = (frame_of h d).x1; y1 = z })) ≡ rows_of (tiles_picture bytes h d) y z
rows_are bytes h d y z is low high =
    let a = frame_of h d in
    let w : Rect = record { x0 = a.x0; y0 = y; x1 = a.x1; y1 = z } in
    let p = tiles_picture bytes h d in
    let left = is.left in
    seen_on bytes h d w (λ u v within. let l = within.left in let r = within.right in let t = within.upper in let b = within.lower in record { left = l; right = r; upper = omega (arith, low, t); lower = omega (arith, high, b) })
    ∙ ap (λ (r : Rect). picture_on r p) (same_rect w (record { x0 = p.x0; y0 = y; x1 = p.x0 + p.width; y1 = z }) refl refl (omega (arith, left)) refl)

-- the planes of some rows
pub rows_planes : (p : Picture) (y z c : ℕ) → c < length p.planes → get_or (rows_of p y z).planes c [] ≡ raster (rows p.x0 (p.x0 + p.width) y z) (sample_on_grid p c)
rows_planes p y z c lt = get_or-map-range_with_len (λ c. raster (rows p.x0 (p.x0 + p.width) y z) (sample_on_grid p c)) 0 (length p.planes) c c [] lt (omega arith)

pub rows_count : (p : Picture) (y z : ℕ) → length (rows_of p y z).planes ≡ length p.planes
rows_count p y z = length-map-range_with_len (λ c. raster (rows p.x0 (p.x0 + p.width) y z) (sample_on_grid p c)) 0 (length p.planes)

-- Lists that have all rows are the planes.
pub all_joined : (p : Picture) (planes : List (Vec ℤ)) → IsPicture p → length planes ≡ length p.planes
    → ((c : ℕ) → c < length p.planes → plane_in planes c ≡ raster (rows p.x0 (p.x0 + p.width) p.y0 (p.y0 + p.height)) (sample_on_grid p c)) → lists_of planes ≡ p.planes
all_joined p planes is count rows_are =
    let long : length (lists_of planes) ≡ length p.planes = length-map planes (λ (v : Vec ℤ). v.items) ∙ count in
    ext_get_or [] (lists_of planes) p.planes long (λ c lt.
    let less : c < length p.planes = omega (arith, lt, long) in
    let a : Rect = rows p.x0 (p.x0 + p.width) p.y0 (p.y0 + p.height) in
    let plane = get_or p.planes c [] in
    let size : length plane ≡ p.width * p.height = (is.components.each c [] less).count in
    let wide : p.x0 + p.width - p.x0 ≡ p.width = omega arith in
    let high : p.y0 + p.height - p.y0 ≡ p.height = omega arith in
    let places : p.width * p.height ≡ (p.y0 + p.height - p.y0) * (p.x0 + p.width - p.x0) = (let turned : p.width * p.height ≡ p.height * p.width = grind arith in turned) ∙ ap (λ t. p.height * t) (sym wide) ∙ ap (λ t. t * (p.x0 + p.width - p.x0)) (sym high) in
    rows_are c less
    ∙ sym (raster_is a plane (sample_on_grid p c) (size ∙ places) (λ x y within. ap (λ t. get_or plane ((y - p.y0) * t + (x - p.x0)) (pos 0)) wide)))
