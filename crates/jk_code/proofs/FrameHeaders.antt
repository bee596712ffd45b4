-- The frame that headers tell is that of the picture that the file means.
use Rattle.std.proofs.Common.{◌≡◌, ℕ, ◌-◌, List, Result, Ok, Err, refl, sym, subst, ◌∙◌}
use Rattle.std.specs.Prelude.{slice_range, IfErr}
use Rattle.std.proofs.lemmas.List.FromFn.{length-map-range_with_len}
use Rattle.jk_math.specs.Answer.{Refuses, Answers}
use Rattle.jk_math.specs.Steps.{bind_then, ok_is}
use Rattle.jk_math.specs.declared.fault.Fault.{Fault}
use Rattle.jk_math.specs.declared.fault.Fault.TheVariants.{Memory}
use Rattle.jk_math.specs.Memory.{IsMemory}
use Rattle.jk_math.specs.Picture.{Picture}
use Rattle.jk_math.specs.Raster.{raster}
use Rattle.jk_marks.specs.Siz.{tile_count}
use Rattle.jk_boxes.specs.Reading.{boxes_at}
use Rattle.jk_params.specs.Headers.{Headers}
use Rattle.jk_params.specs.HeadersReading.{headers_at}
use Rattle.jk_tile.proofs.Laws.{bind_ok}
use Rattle.jk_params.specs.Levels.{least_levels}
use Rattle.jk_code.specs.declared.frames.ImageFrame.{ImageFrame}
use Rattle.jk_code.specs.MeaningReading.{packets_tested, tiles_tested, sample_of_tiles, reduction_at, picture_with, planes_of_tiles, picture_at, image_at, meaning_at}
use Rattle.jk_code.specs.Frames.{headers_frame_at, codestream_frame_at, frame_at, IsFrameOfPicture}
use Rattle.jk_code.proofs.MeaningLaws.{picture_by}

-- A frame is due, and it is that of the picture.
pub record IsFramed (due : Result ImageFrame Fault) (p : Picture) : Type 0 where
  pub frame : ImageFrame
  pub told : due ≡ Ok frame
  pub same : IsFrameOfPicture frame p

-- of headers
pub headers_framed : (bytes : List ℕ) (h : Headers) (d : ℕ) (p : Picture) → picture_at h bytes d ≡ Ok p → IsFramed (headers_frame_at h d) p
unfolding headers_frame_at
headers_framed bytes h d p e =
    bind_then (reduction_at h d) _ p (sym (picture_by bytes h d) ∙ e) (λ a s f.
    bind_then (packets_tested bytes h (tile_count h.siz)) _ p f (λ u packets g.
    bind_then (tiles_tested bytes h d (tile_count h.siz)) _ p g (λ v tiles k.
    let made : picture_with h.siz a (planes_of_tiles bytes h d a) ≡ p = ok_is (picture_with h.siz a (planes_of_tiles bytes h d a)) p k in
    let frame : ImageFrame = record { x0 = a.x0; y0 = a.y0; width = a.x1 - a.x0; height = a.y1 - a.y0; components = h.siz.components; depth = h.siz.depth; signed = h.siz.signed; levels = least_levels h.tiles (tile_count h.siz) } in
    let count = length-map-range_with_len (λ c. raster a (sample_of_tiles bytes h d c)) 0 h.siz.components in
    let told : headers_frame_at h d ≡ Ok frame = bind_ok (reduction_at h d) _ a s in
    let same : IsFrameOfPicture frame (picture_with h.siz a (planes_of_tiles bytes h d a)) = record { left = refl; upper = refl; width = refl; height = refl; components = sym count; depth = refl; signed = refl } in
    record { frame = frame; told = told; same = subst (IsFrameOfPicture frame) made same }
    )))

-- of a codestream
codestream_framed : (bytes : List ℕ) (d : ℕ) (p : Picture) → image_at bytes d ≡ Ok p → IsFramed (codestream_frame_at bytes d) p
unfolding image_at codestream_frame_at
codestream_framed bytes d p e =
    bind_then (headers_at bytes) _ p e (λ h s f.
    subst (λ (r : Result ImageFrame Fault). IsFramed r p) (sym (bind_ok (headers_at bytes) (λ h. headers_frame_at h d) h s)) (headers_framed bytes h d p f))

-- of a file
pub framed : (bytes : List ℕ) (d : ℕ) (p : Picture) → meaning_at bytes d ≡ Ok p → IsFramed (frame_at bytes d) p
unfolding meaning_at frame_at
framed bytes d p e =
    bind_then (boxes_at bytes) _ p e (λ place s f.
    subst (λ (r : Result ImageFrame Fault). IsFramed r p) (sym (bind_ok (boxes_at bytes) (λ place. codestream_frame_at (slice_range bytes place.start place.end) d) place s))
    (codestream_framed (slice_range bytes place.start place.end) d p f))

-- ---- answers

memory_alone : {X : Type 0} (e : Fault) (due : Result X Fault) (x : X) → due ≡ Ok x → Refuses e due → IsMemory e
memory_alone (Memory r) due x is h = tt
memory_alone e due x is h = absurd (let both = sym is ∙ h in cc)

-- where a value is due, no other fault is answered
pub only_memory : {X : Type 0} (r due : Result X Fault) (x : X) → Answers (λ (y : X). y) r due → due ≡ Ok x → IfErr r IsMemory
only_memory (Ok y) due x a is = tt
only_memory (Err e) due x a is = memory_alone e due x is a
