-- What decoding gives is what the file means, and a file's meaning is given.
use Rattle.std.proofs.Common.{◌≡◌, ℕ, ◌-◌, ◌<◌, ◌≤◌, not, List, length, drop, Ok, refl, sym, ap, subst, ◌∙◌, arith}
use Rattle.std.specs.Prelude.{slice_range}
use Rattle.std.specs.List.{AllByRecursion}
use Rattle.std.proofs.lemmas.Bool.{not-false}
use Rattle.jk_math.specs.Steps.{bind_then, refuse_then, done, ok_is}
use Rattle.jk_math.specs.declared.fault.Fault.TheVariants.{BadWindow}
use Rattle.jk_math.specs.declared.rect.Rect.{Rect}
use Rattle.jk_math.specs.Picture.{Picture}
use Rattle.jk_marks.specs.declared.coding.Coding.{Coding}
use Rattle.jk_marks.specs.Siz.{tile_count}
use Rattle.jk_math.proofs.Laws.{AreBytes, are_bytes_after, are_bytes_taken}
use Rattle.jk_boxes.specs.Reading.{boxes_at}
use Rattle.jk_boxes.proofs.Laws.{boxes_take, boxes_again}
use Rattle.jk_geom.specs.Rectangles.{is_empty}
use Rattle.jk_geom.specs.Partitions.{image_area, reduced_area}
use Rattle.jk_geom.proofs.Laws.{sides_some}
use Rattle.jk_geom.proofs.Laws.{tile_covers}
use Rattle.jk_params.specs.Headers.{Headers, TileFields, tile_in, IsHeaders, AreHeaders}
use Rattle.jk_params.specs.HeadersReading.{headers_at}
use Rattle.jk_params.proofs.Laws.{found_headers, only_headers, sound_headers}
use Rattle.jk_code.specs.Meaning.{IsReducedFrame, ShowsTile, MeansPicture, Means}
use Rattle.jk_walk.specs.WalkReading.{packets_at}
use Rattle.jk_tile.specs.decoding.TileReading.{tested, tile_planes_at}
use Rattle.jk_code.specs.MeaningReading.{places_at, packets_tested, tiles_tested, reduction_at, picture_with, planes_of_tiles, picture_at, image_at, meaning_at}
use Rattle.jk_window.specs.Views.{frame_of, has_levels, holds_below}
use Rattle.jk_code.proofs.HeaderFacts.{sides_of}
use Rattle.jk_window.proofs.Laws.{levels_found, levels_only}
use Rattle.jk_tile.proofs.Laws.{each_found, each_only, bind_ok}
use Rattle.jk_code.proofs.Tiling.{tile_shows, TileRead, tile_read, tile_value, tile_levels}
use Rattle.jk_code.proofs.FrameLaws.{tiles_picture, tiles_frame, picture_is}
use Rattle.jk_math.specs.Answer.{◌>>=◌}

-- ---- the reduction

-- each tile-component has d levels
abbrev HaveLevels : ℕ → List TileFields → Type 0
HaveLevels d tiles = AllByRecursion (λ (f : TileFields). AllByRecursion (λ (k : Coding). d ≤ k.levels) f.codings) tiles

record IsReduction (h : Headers) (d : ℕ) (a : Rect) : Type 0 where
  pub levels : HaveLevels d h.tiles
  pub wide : (reduced_area (image_area h.siz) d).x0 < (reduced_area (image_area h.siz) d).x1
  pub high : (reduced_area (image_area h.siz) d).y0 < (reduced_area (image_area h.siz) d).y1
  pub area : reduced_area (image_area h.siz) d ≡ a

reduction_found : (h : Headers) (d : ℕ) (a : Rect) → length h.tiles ≡ tile_count h.siz → reduction_at h d ≡ Ok a → IsReduction h d a
unfolding reduction_at
reduction_found h d a long e =
    let below = holds_below (λ t. has_levels d (tile_in h.tiles t)) (tile_count h.siz) in
    refuse_then (not below) BadWindow _ a e (λ few f.
    refuse_then (is_empty (reduced_area (image_area h.siz) d)) BadWindow _ a f (λ some g.
    let sides = sides_of (reduced_area (image_area h.siz) d) some in
    record { levels = levels_found d (tile_count h.siz) h.tiles long (not-false below few); wide = sides.0; high = sides.1; area = ok_is (reduced_area (image_area h.siz) d) a g }
    ))

reduction_only : (h : Headers) (d : ℕ) → length h.tiles ≡ tile_count h.siz → HaveLevels d h.tiles → (reduced_area (image_area h.siz) d).x0 < (reduced_area (image_area h.siz) d).x1
    → (reduced_area (image_area h.siz) d).y0 < (reduced_area (image_area h.siz) d).y1 → reduction_at h d ≡ Ok (reduced_area (image_area h.siz) d)
unfolding reduction_at
reduction_only h d long levels wide high =
    let below = levels_only d (tile_count h.siz) h.tiles long levels in
    let some = sides_some (reduced_area (image_area h.siz) d) wide high in
    rw (below, some) refl

-- ---- a codestream

pub picture_by : (bytes : List ℕ) (h : Headers) (d : ℕ) → picture_at h bytes d
    ≡ (reduction_at h d >>= λ area. packets_tested bytes h (tile_count h.siz) >>= λ _. tiles_tested bytes h d (tile_count h.siz) >>= λ _. Ok (picture_with h.siz area (planes_of_tiles bytes h d area)))
unfolding picture_at
picture_by bytes h d = refl

-- What a codestream that is read gives is what it means.
pub found_picture : (bytes : List ℕ) (h : Headers) (d : ℕ) (p : Picture) → IsHeaders bytes h → picture_at h bytes d ≡ Ok p → MeansPicture bytes d p
found_picture bytes h d p says e =
    let sound = sound_headers bytes h says in
    bind_then (reduction_at h d) _ p (sym (picture_by bytes h d) ∙ e) (λ a s f.
    bind_then (packets_tested bytes h (tile_count h.siz)) _ p f (λ u packets g.
    bind_then (tiles_tested bytes h d (tile_count h.siz)) _ p g (λ v tiles k.
    let is = reduction_found h d a sound.tiles s in
    let made : tiles_picture bytes h d ≡ p = ap (λ (x : Rect). picture_with h.siz x (planes_of_tiles bytes h d x)) is.area ∙ ok_is (picture_with h.siz a (planes_of_tiles bytes h d a)) p k in
    let means : MeansPicture bytes d (tiles_picture bytes h d) = record {
      headers = h;
      says = says;
      reduction = is.levels;
      frame = tiles_frame bytes h d is.wide is.high;
      tiles = λ t lt. tile_shows bytes h d t sound lt (each_found (tile_count h.siz) (λ t. tested (packets_at bytes h t)) u packets t lt)
          (each_found (tile_count h.siz) (λ t. tested (tile_planes_at bytes h t d (places_at bytes h t))) v tiles t lt);
    } in
    subst (MeansPicture bytes d) made means
    )))

pub found_image : (bytes : List ℕ) (d : ℕ) (p : Picture) → AreBytes bytes → image_at bytes d ≡ Ok p → MeansPicture bytes d p
unfolding image_at
found_image bytes d p fits e =
    bind_then (headers_at bytes) _ p e (λ h s f. found_picture bytes h d p (found_headers bytes h fits s) f)

only_picture : (bytes : List ℕ) (h : Headers) (d : ℕ) (p : Picture) → AreHeaders (length bytes) h → HaveLevels d h.tiles → IsReducedFrame h d p
    → ((t : ℕ) → t < tile_count h.siz → ShowsTile bytes h d p t) → picture_at h bytes d ≡ Ok p
only_picture bytes h d p sound levels frame tiles =
    let left = frame.left in
    let upper = frame.upper in
    let right = frame.right in
    let lower = frame.lower in
    let wide = frame.wide in
    let high = frame.high in
    let n = tile_count h.siz in
    let reduction = reduction_only h d sound.tiles levels (omega (arith, left, right, wide)) (omega (arith, upper, lower, high)) in
    let read : (t : ℕ) → t < n → TileRead bytes h d p t = λ t lt. tile_read bytes h d p t sound lt (tile_levels d h.tiles t levels (omega (arith, lt, sound.tiles))) (tiles t lt) in
    let packets = each_only n (λ t. tested (packets_at bytes h t)) (λ t lt. (read t lt).packets) in
    let decoded = each_only n (λ t. tested (tile_planes_at bytes h t d (places_at bytes h t))) (λ t lt. (read t lt).planes) in
    let same : p ≡ tiles_picture bytes h d = picture_is bytes h d p frame (λ c x y some inside.
    let tile = tile_covers h.siz d x y sound.siz inside in
    let t = tile.0 in
    (read t tile.1.tile).samples c x y some tile.1.place ∙ sym (tile_value bytes h d t c x y sound.siz tile.1)) in
    picture_by bytes h d ∙ bind_ok (reduction_at h d) _ (frame_of h d) reduction ∙ bind_ok (packets_tested bytes h n) _ tt packets ∙ bind_ok (tiles_tested bytes h d n) _ tt decoded ∙ ap done (sym same)

-- What a codestream means is given.
pub only_image : (bytes : List ℕ) (d : ℕ) (p : Picture) → AreBytes bytes → MeansPicture bytes d p → image_at bytes d ≡ Ok p
unfolding image_at
only_image bytes d p fits m =
    let headers = only_headers bytes m.headers m.says in
    let picture = only_picture bytes m.headers d p (sound_headers bytes m.headers m.says) m.reduction m.frame m.tiles in
    rw headers picture

-- ---- files

pub slice_bytes : (bytes : List ℕ) (from to : ℕ) → AreBytes bytes → AreBytes (slice_range bytes from to)
slice_bytes bytes from to fits = are_bytes_taken (to - from) (drop from bytes) (are_bytes_after from bytes fits)

-- What a file that is read gives is what it means.
pub found_meaning : (bytes : List ℕ) (d : ℕ) (p : Picture) → AreBytes bytes → meaning_at bytes d ≡ Ok p → Means bytes d p
unfolding meaning_at
found_meaning bytes d p fits e =
    bind_then (boxes_at bytes) _ p e (λ place s e.
    let opened = boxes_take bytes place fits s in
    record {
      codestream = slice_range bytes place.start place.end;
      holds = opened.holds;
      picture = found_image (slice_range bytes place.start place.end) d p (slice_bytes bytes place.start place.end fits) e;
    })

-- What a file means is given.
pub only_meaning : (bytes : List ℕ) (d : ℕ) (p : Picture) → AreBytes bytes → Means bytes d p → meaning_at bytes d ≡ Ok p
unfolding meaning_at
only_meaning bytes d p fits m =
    let o = boxes_again bytes m.codestream m.holds in
    let bytes-are : AreBytes m.codestream = subst AreBytes (sym o.here) (slice_bytes bytes o.boxed.start o.boxed.end fits) in
    let image = only_image m.codestream d p bytes-are m.picture in
    rw o.due (ap (λ (c : List ℕ). image_at c d) (sym o.here) ∙ image)
