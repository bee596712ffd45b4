-- A decoded window shows what the decoded image shows.
use Rattle.std.proofs.Common.{◌≡◌, ℕ, ◌-◌, ◌<◌, not, Bool, true, false, List, [], length, map, Result, Ok, ℤ, refl, sym, ap, ◌∙◌, arith}
use Rattle.std.specs.Prelude.{slice_range}
use Rattle.std.specs.List.{range_with_len}
use Rattle.std.proofs.lemmas.List.{ext_get_or}
use Rattle.std.proofs.lemmas.List.FromFn.{length-map-range_with_len, get_or-map-range_with_len}
use Rattle.jk_math.specs.Answer.{◌>>=◌, refuse}
use Rattle.jk_math.specs.Steps.{bind_then, refuse_then, ok_is}
use Rattle.jk_math.specs.declared.fault.Fault.{Fault}
use Rattle.jk_math.specs.declared.fault.Fault.TheVariants.{BadWindow}
use Rattle.jk_math.specs.declared.rect.Rect.{Rect}
use Rattle.jk_math.specs.Picture.{Picture, sample_at}
use Rattle.jk_math.specs.Raster.{raster}
use Rattle.jk_math.proofs.Laws.{raster_same}
use Rattle.jk_marks.specs.Siz.{tile_count}
use Rattle.jk_boxes.specs.Reading.{boxes_at}
use Rattle.jk_geom.specs.Rectangles.{is_empty, IsWithin}
use Rattle.jk_params.specs.Headers.{Headers}
use Rattle.jk_params.specs.HeadersReading.{headers_at}
use Rattle.jk_walk.specs.WalkReading.{packets_at}
use Rattle.jk_window.specs.declared.view.View.{View}
use Rattle.jk_window.specs.Views.{have_levels, frame_of, window_in, window_of, area_at}
use Rattle.jk_tile.specs.decoding.TileReading.{tested, tile_planes_at, part_planes_at}
use Rattle.jk_tile.proofs.Laws.{fine, each_found, each_only, each_fewer, bind_ok, part_fine}
use Rattle.jk_code.specs.MeaningReading.{places_at, packets_tested, tiles_tested, reduction_at, sample_of_tiles, picture_with, planes_of_tiles, picture_at, image_at, meaning_at}
use Rattle.jk_code.specs.Viewing.{rect_of, picture_on, picture_of_view}
use Rattle.jk_code.specs.ViewReading.{seen_part, is_seen, seen_packets_tested, seen_parts_tested, view_at, image_view_at, meaning_view_at}
use Rattle.jk_code.proofs.MeaningLaws.{picture_by}
use Rattle.jk_code.proofs.HeaderFacts.{sides_of}
use Rattle.jk_code.proofs.FrameLaws.{tiles_picture, tiles_sample}

-- ---- the window

record IsReduced (h : Headers) (d : ℕ) (a : Rect) : Type 0 where
  pub levels : not (have_levels h d) ≡ false
  pub some : is_empty (frame_of h d) ≡ false
  pub area : frame_of h d ≡ a

reduced_by : (h : Headers) (d : ℕ) (a : Rect) → reduction_at h d ≡ Ok a → IsReduced h d a
unfolding reduction_at
reduced_by h d a e =
    refuse_then (not (have_levels h d)) BadWindow _ a e (λ levels f.
    refuse_then (is_empty (frame_of h d)) BadWindow _ a f (λ some g.
    record { levels = levels; some = some; area = ok_is (frame_of h d) a g }))

window_by : (h : Headers) (v : View) → not (have_levels h v.reduce) ≡ false → is_empty (frame_of h v.reduce) ≡ false
    → area_at h v ≡ (refuse (is_empty (window_of h v)) BadWindow >>= λ _. Ok (window_of h v))
unfolding area_at
window_by h v levels some = rw (levels, some) refl

pub view_by : (bytes : List ℕ) (h : Headers) (v : View) → view_at h bytes v
    ≡ (area_at h v >>= λ w. seen_packets_tested bytes h v.reduce w (tile_count h.siz) >>= λ _. seen_parts_tested bytes h v.reduce w (tile_count h.siz) >>= λ _. Ok (picture_with h.siz w (planes_of_tiles bytes h v.reduce w)))
unfolding view_at
view_by bytes h v = refl

pub of_view : (v : View) (p : Picture) → picture_of_view v p ≡ (refuse (is_empty (window_in (rect_of p) v)) BadWindow >>= λ _. Ok (picture_on (window_in (rect_of p) v) p))
unfolding picture_of_view
of_view v p = refl

-- ---- its samples

pub same_rect : (a b : Rect) → a.x0 ≡ b.x0 → a.y0 ≡ b.y0 → a.x1 ≡ b.x1 → a.y1 ≡ b.y1 → a ≡ b
same_rect a b left upper right lower =
    ap (λ k. record { x0 = k; y0 = a.y0; x1 = a.x1; y1 = a.y1 }) left ∙ ap (λ k. record { x0 = b.x0; y0 = k; x1 = a.x1; y1 = a.y1 }) upper
    ∙ ap (λ k. record { x0 = b.x0; y0 = b.y0; x1 = k; y1 = a.y1 }) right ∙ ap (λ k. record { x0 = b.x0; y0 = b.y0; x1 = b.x1; y1 = k }) lower

-- the picture of all tiles lies where the reduced image does
tiles_rect : (bytes : List ℕ) (h : Headers) (d : ℕ) → is_empty (frame_of h d) ≡ false → rect_of (tiles_picture bytes h d) ≡ frame_of h d
tiles_rect bytes h d some =
    let a = frame_of h d in
    let sides = sides_of a some in
    let wide = sides.0 in
    let high = sides.1 in
    same_rect (rect_of (tiles_picture bytes h d)) a refl refl (omega (arith, wide)) (omega (arith, high))

-- What all tiles show on a part of the image is their picture there.
pub seen_on : (bytes : List ℕ) (h : Headers) (d : ℕ) (w : Rect) → ((x y : ℕ) → IsWithin w x y → IsWithin (frame_of h d) x y)
    → picture_with h.siz w (planes_of_tiles bytes h d w) ≡ picture_on w (tiles_picture bytes h d)
seen_on bytes h d w inside =
    let a = frame_of h d in
    let n = h.siz.components in
    let all = tiles_picture bytes h d in
    let f : ℕ → List ℤ = λ c. raster w (sample_of_tiles bytes h d c) in
    let g : ℕ → List ℤ = λ c. raster w (λ x y. sample_at all c (x - a.x0) (y - a.y0)) in
    let count : length all.planes ≡ n = length-map-range_with_len (λ c. raster a (sample_of_tiles bytes h d c)) 0 n in
    let long = length-map-range_with_len f 0 n in
    let longer = length-map-range_with_len g 0 (length all.planes) in
    ap (picture_with h.siz w) (ext_get_or [] (map f (range_with_len 0 n)) (map g (range_with_len 0 (length all.planes))) (long ∙ sym count ∙ sym longer) (λ c lt.
    let less : c < n = omega (arith, lt, long) in
    let within : c < length all.planes = omega (arith, less, count) in
    get_or-map-range_with_len f 0 n c c [] less (omega arith)
    ∙ raster_same w (sample_of_tiles bytes h d c) (λ x y. sample_at all c (x - a.x0) (y - a.y0)) (λ x y is.
    sym (tiles_sample bytes h d c x y less (inside x y (record { left = is.left; right = is.right; upper = is.upper; lower = is.lower }))))
    ∙ sym (get_or-map-range_with_len g 0 (length all.planes) c c [] within (omega arith))))

-- on a window
tiles_on : (bytes : List ℕ) (h : Headers) (v : View)
    → picture_with h.siz (window_of h v) (planes_of_tiles bytes h v.reduce (window_of h v)) ≡ picture_on (window_of h v) (tiles_picture bytes h v.reduce)
tiles_on bytes h v =
    seen_on bytes h v.reduce (window_of h v) (λ x y is.
    let left = is.left in
    let right = is.right in
    let upper = is.upper in
    let lower = is.lower in
    record { left = omega (arith, left); right = omega (arith, right); upper = omega (arith, upper); lower = omega (arith, lower) })

-- ---- what is tested

pub packets_fine : (bytes : List ℕ) (h : Headers) (d : ℕ) (w : Rect) (n : ℕ) → packets_tested bytes h n ≡ fine → seen_packets_tested bytes h d w n ≡ fine
packets_fine bytes h d w n e = each_fewer n (λ t. tested (packets_at bytes h t)) (is_seen h d w) e

parts_fine : (bytes : List ℕ) (h : Headers) (d : ℕ) (w : Rect) (n : ℕ) → tiles_tested bytes h d n ≡ fine → seen_parts_tested bytes h d w n ≡ fine
parts_fine bytes h d w n e =
    each_fewer n (λ t. tested (part_planes_at bytes h t d (seen_part h d w t) (places_at bytes h t))) (is_seen h d w)
    (each_only n _ (λ t lt. part_fine bytes h t d (seen_part h d w t) (places_at bytes h t) (each_found n (λ t. tested (tile_planes_at bytes h t d (places_at bytes h t))) tt e t lt)))

-- ---- the law

window_shown : (bytes : List ℕ) (h : Headers) (v : View) → packets_tested bytes h (tile_count h.siz) ≡ fine → tiles_tested bytes h v.reduce (tile_count h.siz) ≡ fine
    → (seen_packets_tested bytes h v.reduce (window_of h v) (tile_count h.siz) >>= λ _. seen_parts_tested bytes h v.reduce (window_of h v) (tile_count h.siz) >>= λ _.
    Ok (picture_with h.siz (window_of h v) (planes_of_tiles bytes h v.reduce (window_of h v)))) ≡ Ok (picture_on (window_of h v) (tiles_picture bytes h v.reduce))
window_shown bytes h v packets tiles =
    let d = v.reduce in
    let w = window_of h v in
    let n = tile_count h.siz in
    bind_ok (seen_packets_tested bytes h d w n) _ tt (packets_fine bytes h d w n packets)
    ∙ bind_ok (seen_parts_tested bytes h d w n) _ tt (parts_fine bytes h d w n tiles)
    ∙ ap (λ (p : Picture). let r : Result Picture Fault = Ok p in r) (tiles_on bytes h v)

-- behind the same test
behind : (b : Bool) (w : Rect) (f g : Rect → Result Picture Fault) → f w ≡ g w → ((refuse b BadWindow >>= λ _. Ok w) >>= f) ≡ (refuse b BadWindow >>= λ _. g w)
behind true w f g e = refl
behind false w f g e = e

view_shows : (bytes : List ℕ) (h : Headers) (v : View) (p : Picture) → picture_at h bytes v.reduce ≡ Ok p → view_at h bytes v ≡ picture_of_view v p
view_shows bytes h v p e =
    let d = v.reduce in
    let n = tile_count h.siz in
    bind_then (reduction_at h d) _ p (sym (picture_by bytes h d) ∙ e) (λ a s f.
    bind_then (packets_tested bytes h n) _ p f (λ u packets g.
    bind_then (tiles_tested bytes h d n) _ p g (λ z tiles k.
    let is = reduced_by h d a s in
    let made : tiles_picture bytes h d ≡ p = ap (λ (x : Rect). picture_with h.siz x (planes_of_tiles bytes h d x)) is.area ∙ ok_is (picture_with h.siz a (planes_of_tiles bytes h d a)) p k in
    let all = tiles_picture bytes h d in
    let seen : ℕ → Rect → Result Picture Fault = λ d w. seen_packets_tested bytes h d w n >>= λ _. seen_parts_tested bytes h d w n >>= λ _. Ok (picture_with h.siz w (planes_of_tiles bytes h d w)) in
    let shown : Rect → Result Picture Fault = λ w. Ok (picture_on w all) in
    let due : view_at h bytes v ≡ picture_of_view v all =
    view_by bytes h v
    ∙ ap (λ (r : Result Rect Fault). r >>= seen d) (window_by h v is.levels is.some)
    ∙ behind (is_empty (window_of h v)) (window_of h v) (seen d) shown (window_shown bytes h v packets tiles)
    ∙ sym (ap (λ (x : Rect). refuse (is_empty (window_in x v)) BadWindow >>= λ _. shown (window_in x v)) (tiles_rect bytes h d is.some))
    ∙ sym (of_view v all) in
    due ∙ ap (picture_of_view v) made)))

image_shows : (bytes : List ℕ) (v : View) (p : Picture) → image_at bytes v.reduce ≡ Ok p → image_view_at bytes v ≡ picture_of_view v p
unfolding image_at image_view_at
image_shows bytes v p e =
    bind_then (headers_at bytes) _ p e (λ h s f. bind_ok (headers_at bytes) (λ h. view_at h bytes v) h s ∙ view_shows bytes h v p f)

-- Where a file is decoded, its window is the picture on the window.
pub meaning_shows : (bytes : List ℕ) (v : View) (p : Picture) → meaning_at bytes v.reduce ≡ Ok p → meaning_view_at bytes v ≡ picture_of_view v p
unfolding meaning_at meaning_view_at
meaning_shows bytes v p e =
    bind_then (boxes_at bytes) _ p e (λ place s f.
    bind_ok (boxes_at bytes) (λ place. image_view_at (slice_range bytes place.start place.end) v) place s ∙ image_shows (slice_range bytes place.start place.end) v p f)
