-- What a file means is a picture of the profile, and its frame tells no fault that it hasn't.
use Rattle.std.proofs.Common.{◌≡◌, ℕ, ◌<◌, ◌≤◌, not, List, Result, Ok, Err, ap, subst, ◌∙◌}
use Rattle.std.specs.Prelude.{slice_range}
use Rattle.jk_math.specs.Answer.{◌>>=◌, Refuses}
use Rattle.jk_math.specs.Steps.{bind_then, refuse_then, ok_is}
use Rattle.jk_math.specs.declared.fault.Fault.{Fault}
use Rattle.jk_math.specs.declared.fault.Fault.TheVariants.{BadWindow}
use Rattle.jk_math.specs.declared.rect.Rect.{Rect}
use Rattle.jk_math.specs.Picture.{Picture, IsPicture}
use Rattle.jk_math.proofs.Laws.{AreBytes}
use Rattle.jk_marks.specs.Siz.{tile_count, IsSiz}
use Rattle.jk_boxes.specs.Reading.{boxes_at}
use Rattle.jk_geom.specs.Rectangles.{is_empty}
use Rattle.jk_params.specs.Headers.{Headers}
use Rattle.jk_params.specs.HeadersReading.{headers_at}
use Rattle.jk_params.proofs.Laws.{found_headers, sound_headers}
use Rattle.jk_window.specs.Views.{frame_of, have_levels}
use Rattle.jk_tile.proofs.Laws.{refuses_on}
use Rattle.jk_code.specs.declared.frames.ImageFrame.{ImageFrame}
use Rattle.jk_code.specs.Frames.{frame_at, codestream_frame_at, headers_frame_at}
use Rattle.jk_code.specs.MeaningReading.{reduction_at, packets_tested, tiles_tested, picture_with, planes_of_tiles, picture_at, image_at, meaning_at}
use Rattle.jk_code.proofs.HeaderFacts.{reduced_frame, sides_of}
use Rattle.jk_code.proofs.MeaningLaws.{slice_bytes}
use Rattle.jk_code.proofs.Planes.{tiles_are_picture}

-- the first step's fault, or one that goes through what follows it
through : {A B C : Type 0} (r : Result A Fault) (f : A → Result B Fault) (g : A → Result C Fault) (e : Fault) → ((x : A) → f x ≡ Err e → g x ≡ Err e) → (r >>= f) ≡ Err e → (r >>= g) ≡ Err e
through (Ok x) f g e go is = go x is
through (Err d) f g e go is = cc

frame_fails : (bytes : List ℕ) (d : ℕ) (e : Fault) → frame_at bytes d ≡ Err e → meaning_at bytes d ≡ Err e
unfolding frame_at codestream_frame_at headers_frame_at meaning_at image_at picture_at
frame_fails bytes d e is = through (boxes_at bytes) _ _ e (λ place. through (headers_at (slice_range bytes place.start place.end)) _ _ e (λ h. through (reduction_at h d) _ _ e (λ area bad. absurd cc))) is

-- A frame's fault is the file's.
pub frame_refused : (bytes : List ℕ) (d : ℕ) (e : Fault) → Refuses e (frame_at bytes d) → Refuses e (meaning_at bytes d)
frame_refused bytes d e h = refuses_on e (frame_at bytes d) (meaning_at bytes d) h (frame_fails bytes d e)

siz_read : (bytes : List ℕ) (from to : ℕ) (h : Headers) → AreBytes bytes → headers_at (slice_range bytes from to) ≡ Ok h → IsSiz h.siz
siz_read bytes from to h fits e =
    let codestream = slice_range bytes from to in
    (sound_headers codestream h (found_headers codestream h (slice_bytes bytes from to fits) e)).siz

area_read : (h : Headers) (d : ℕ) (a : Rect) → IsSiz h.siz → reduction_at h d ≡ Ok a → (frame_of h d ≡ a) × ((frame_of h d).x0 < (frame_of h d).x1) × ((frame_of h d).y0 < (frame_of h d).y1)
unfolding reduction_at
area_read h d a siz e =
    refuse_then (not (have_levels h d)) BadWindow _ a e (λ few e.
    refuse_then (is_empty (frame_of h d)) BadWindow _ a e (λ some e.
    let sides = sides_of (frame_of h d) some in
    (ok_is (frame_of h d) a e, sides.0, sides.1)))

-- What a file means is a picture of the profile.
pub meant_picture : (bytes : List ℕ) (d : ℕ) (p : Picture) → AreBytes bytes → meaning_at bytes d ≡ Ok p → IsPicture p
unfolding meaning_at image_at picture_at
meant_picture bytes d p fits e =
    bind_then (boxes_at bytes) _ p e (λ place s e.
    let codestream = slice_range bytes place.start place.end in
    bind_then (headers_at codestream) _ p e (λ h t e.
    let siz = siz_read bytes place.start place.end h fits t in
    bind_then (reduction_at h d) _ p e (λ a u e.
    let area = area_read h d a siz u in
    bind_then (packets_tested codestream h (tile_count h.siz)) _ p e (λ v packets e.
    bind_then (tiles_tested codestream h d (tile_count h.siz)) _ p e (λ w tiles e.
    subst IsPicture (ap (λ (r : Rect). picture_with h.siz r (planes_of_tiles codestream h d r)) area.0 ∙ ok_is (picture_with h.siz a (planes_of_tiles codestream h d a)) p e)
    (tiles_are_picture codestream h d (frame_of h d) siz (reduced_frame h.siz d siz area.1 area.2)))))))

-- A frame's samples have few bits.
pub frame_depth : (bytes : List ℕ) (d : ℕ) (f : ImageFrame) → AreBytes bytes → frame_at bytes d ≡ Ok f → f.depth ≤ 16
unfolding frame_at codestream_frame_at headers_frame_at
frame_depth bytes d f fits e =
    bind_then (boxes_at bytes) _ f e (λ place s e.
    bind_then (headers_at (slice_range bytes place.start place.end)) _ f e (λ h t e.
    bind_then (reduction_at h d) _ f e (λ area u e.
    subst (λ (x : ImageFrame). x.depth ≤ 16) (ok_is _ f e) (siz_read bytes place.start place.end h fits t).few_bits)))
