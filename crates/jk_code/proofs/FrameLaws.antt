-- The picture of all tiles has its frame, and a picture of that frame with its samples is that picture.
use Rattle.std.proofs.Common.{◌≡◌, ℕ, ◌+◌, ◌-◌, ◌*◌, ◌<◌, Bool, List, [], length, get_or, ℤ, pos, refl, sym, ap, subst, ◌∙◌, arith}
use Rattle.std.proofs.lemmas.List.{ext_get_or}
use Rattle.std.proofs.lemmas.List.Elements.{All-get_or}
use Rattle.std.proofs.lemmas.List.FromFn.{length-map-range_with_len, get_or-map-range_with_len}
use Rattle.jk_math.specs.Picture.{Picture, sample_at}
use Rattle.jk_math.specs.Raster.{raster, plane_at, places_of}
use Rattle.jk_math.proofs.Laws.{raster_length, raster_at, raster_is}
use Rattle.jk_geom.specs.Rectangles.{IsWithin}
use Rattle.jk_params.specs.Headers.{Headers}
use Rattle.jk_code.specs.Meaning.{IsReducedFrame}
use Rattle.jk_code.specs.MeaningReading.{sample_of_tiles, picture_with, planes_of_tiles}
use Rattle.jk_window.specs.Views.{frame_of}

-- the picture of all tiles
abbrev pub tiles_picture : List ℕ → Headers → ℕ → Picture
tiles_picture bytes h d = picture_with h.siz (frame_of h d) (planes_of_tiles bytes h d (frame_of h d))

pub tiles_frame : (bytes : List ℕ) (h : Headers) (d : ℕ) → (frame_of h d).x0 < (frame_of h d).x1 → (frame_of h d).y0 < (frame_of h d).y1 → IsReducedFrame h d (tiles_picture bytes h d)
tiles_frame bytes h d wide high =
    let a = frame_of h d in
    let f : ℕ → List ℤ = λ c. raster a (sample_of_tiles bytes h d c) in
    let count = length-map-range_with_len f 0 h.siz.components in
    let turned : places_of a ≡ (a.x1 - a.x0) * (a.y1 - a.y0) = omega arith in
    record {
      left = refl;
      upper = refl;
      right = omega (arith, wide);
      lower = omega (arith, high);
      wide = omega (arith, wide);
      high = omega (arith, high);
      depth = refl;
      signed = refl;
      components = count;
      planes = λ c e lt.
          subst (λ (plane : List ℤ). length plane ≡ (a.x1 - a.x0) * (a.y1 - a.y0)) (sym (get_or-map-range_with_len f 0 h.siz.components c c e (omega (arith, lt, count)) (omega arith))) (raster_length a (sample_of_tiles bytes h d c) ∙ turned);
    }

-- its samples
pub tiles_sample : (bytes : List ℕ) (h : Headers) (d c x y : ℕ) → c < h.siz.components → IsWithin (frame_of h d) x y
    → sample_at (tiles_picture bytes h d) c (x - (frame_of h d).x0) (y - (frame_of h d).y0) ≡ sample_of_tiles bytes h d c x y
tiles_sample bytes h d c x y lt is =
    let a = frame_of h d in
    let f : ℕ → List ℤ = λ c. raster a (sample_of_tiles bytes h d c) in
    ap (λ (plane : List ℤ). plane_at a plane x y) (get_or-map-range_with_len f 0 h.siz.components c c [] lt (omega arith))
    ∙ raster_at a (sample_of_tiles bytes h d c) x y (record { left = is.left; right = is.right; upper = is.upper; lower = is.lower })

pub fields_from : (p : Picture) (x0 y0 width height depth : ℕ) (signed : Bool) (planes : List (List ℤ)) → p.x0 ≡ x0 → p.y0 ≡ y0 → p.width ≡ width → p.height ≡ height → p.depth ≡ depth → p.signed ≡ signed → p.planes ≡ planes
    → p ≡ record { x0 = x0; y0 = y0; width = width; height = height; depth = depth; signed = signed; planes = planes }
fields_from p x0 y0 width height depth signed planes a b c d e f g =
    ap (λ k. record p { x0 = k }) a ∙ ap (λ k. record p { x0 = x0; y0 = k }) b ∙ ap (λ k. record p { x0 = x0; y0 = y0; width = k }) c
    ∙ ap (λ k. record p { x0 = x0; y0 = y0; width = width; height = k }) d ∙ ap (λ k. record p { x0 = x0; y0 = y0; width = width; height = height; depth = k }) e
    ∙ ap (λ (k : Bool). record p { x0 = x0; y0 = y0; width = width; height = height; depth = depth; signed = k }) f
    ∙ ap (λ (k : List (List ℤ)). record p { x0 = x0; y0 = y0; width = width; height = height; depth = depth; signed = signed; planes = k }) g

-- A picture of the frame with these samples is that of the tiles.
pub picture_is : (bytes : List ℕ) (h : Headers) (d : ℕ) (p : Picture) → IsReducedFrame h d p
    → ((c x y : ℕ) → c < h.siz.components → IsWithin (frame_of h d) x y → sample_at p c (x - p.x0) (y - p.y0) ≡ sample_of_tiles bytes h d c x y) → p ≡ tiles_picture bytes h d
picture_is bytes h d p frame same =
    let a = frame_of h d in
    let n = h.siz.components in
    let f : ℕ → List ℤ = λ c. raster a (sample_of_tiles bytes h d c) in
    let x0 = frame.left in
    let y0 = frame.upper in
    let right = frame.right in
    let lower = frame.lower in
    let width : p.width ≡ a.x1 - a.x0 = omega (arith, x0, right) in
    let height : p.height ≡ a.y1 - a.y0 = omega (arith, y0, lower) in
    let count : p.width * p.height ≡ places_of a = ap (λ z. z * p.height) width ∙ ap (λ z. (a.x1 - a.x0) * z) height ∙ (let e : (a.x1 - a.x0) * (a.y1 - a.y0) ≡ places_of a = omega arith in e) in
    let plane : (c : ℕ) → c < n → get_or p.planes c [] ≡ raster a (sample_of_tiles bytes h d c) = λ c lt.
    let long : length (get_or p.planes c []) ≡ p.width * p.height = All-get_or (λ (plane : List ℤ). length plane ≡ p.width * p.height) p.planes c [] (omega (arith, lt, frame.components)) frame.planes in
    raster_is a (get_or p.planes c []) (sample_of_tiles bytes h d c) (long ∙ count) (λ x y is.
    ap (λ z. get_or (get_or p.planes c []) ((y - a.y0) * z + (x - a.x0)) (pos 0)) (sym width)
    ∙ ap (λ z. get_or (get_or p.planes c []) ((y - z) * p.width + (x - a.x0)) (pos 0)) (sym y0) ∙ ap (λ z. get_or (get_or p.planes c []) ((y - p.y0) * p.width + (x - z)) (pos 0)) (sym x0)
    ∙ same c x y lt (record { left = is.left; right = is.right; upper = is.upper; lower = is.lower })) in
    let planes : p.planes ≡ planes_of_tiles bytes h d a = ext_get_or [] p.planes (planes_of_tiles bytes h d a) (frame.components ∙ sym (length-map-range_with_len f 0 n)) (λ c lt.
    let less : c < n = omega (arith, lt, frame.components) in
    plane c less ∙ sym (get_or-map-range_with_len f 0 n c c [] less (omega arith))) in
    fields_from p a.x0 a.y0 (a.x1 - a.x0) (a.y1 - a.y0) h.siz.depth h.siz.signed (planes_of_tiles bytes h d a) x0 y0 width height frame.depth frame.signed planes
