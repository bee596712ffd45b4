-- The file of a window means a picture that is the stored one on the window.
use Rattle.std.proofs.Common.{◌≡◌, ℕ, suc, ◌+◌, ◌-◌, ◌<◌, ◌≤◌, not, List, [], ◌∷◌, ◌++◌, length, Option, Result, Ok, ℤ, refl, sym, ap, ◌∙◌, subst, inl, inr, arith}
use Rattle.std.specs.Prelude.{slice_range}
use Rattle.std.specs.List.{flat_map, AllByRecursion}
use Rattle.jk_math.specs.Answer.{◌>>=◌, refuse}
use Rattle.jk_math.specs.Steps.{bind_then, refuse_then, ok_is}
use Rattle.jk_math.specs.declared.fault.Fault.{Fault}
use Rattle.jk_math.specs.declared.fault.Fault.TheVariants.{BadWindow}
use Rattle.jk_math.specs.declared.rect.Rect.{Rect}
use Rattle.jk_math.specs.Picture.{Picture, sample_at}
use Rattle.jk_marks.specs.declared.siz.Siz.{Siz}
use Rattle.jk_marks.specs.declared.coding.Coding.{Coding}
use Rattle.jk_marks.specs.Markers.{eoc, marker_text}
use Rattle.jk_marks.specs.Siz.{tile_count, siz_text}
use Rattle.jk_marks.specs.Segments.{segment_text}
use Rattle.jk_marks.specs.Codestream.{Tree, main_text, part_text, codestream_text}
use Rattle.jk_boxes.specs.declared.place.Boxed.{Boxed}
use Rattle.jk_boxes.specs.Boxes.{IsBare, HoldsCodestream, HoldsAt}
use Rattle.jk_boxes.proofs.Laws.{boxes_again, place_again, recoded_holds}
use Rattle.jk_geom.specs.Rectangles.{IsWithin, is_empty, tile_area}
use Rattle.jk_geom.specs.Partitions.{image_area, reduced_area, TileHolds}
use Rattle.jk_geom.proofs.Laws.{tile_covers, tile_inside}
use Rattle.jk_params.specs.Headers.{Headers, TileFields, tile_in, AreHeaders}
use Rattle.jk_params.proofs.Laws.{only_headers, sound_headers}
use Rattle.jk_walk.specs.declared.places.PacketPlace.{PacketPlace}
use Rattle.jk_walk.specs.WalkReading.{packets_at}
use Rattle.jk_tile.specs.TileMeaning.{shown_area, DecodesTile}
use Rattle.jk_tile.specs.decoding.TileReading.{tested, tile_planes_at, component_samples}
use Rattle.jk_tile.proofs.Laws.{tile_only, tested_ok}
use Rattle.jk_window.specs.declared.view.View.{View}
use Rattle.jk_window.specs.Views.{have_levels, window_of, area_at, window_at, HaveLevels, frame_of}
use Rattle.jk_window.specs.Indexing.{IndexFields, IsIndexOf}
use Rattle.jk_window.specs.Cutting.{with_codestream, cut_tree}
use Rattle.jk_window.proofs.Laws.{cut_again, window_area_is}
use Rattle.jk_code.specs.Meaning.{IsReducedFrame, ShowsLayers, ShowsTile, MeansPictureIn, MeansPicture, MeansLayers}
use Rattle.jk_code.specs.MeaningReading.{places_or, places_at}
use Rattle.jk_code.specs.Windows.{IsSameOnWindow, IsWindowMeant}
use Rattle.jk_code.proofs.FrameLaws.{tiles_picture, tiles_frame, tiles_sample}
use Rattle.jk_code.proofs.Tiling.{tile_value, tile_shows, tile_levels}
use Rattle.jk_code.proofs.WindowBands.{seen}
use Rattle.jk_code.proofs.WindowTile.{IsTileSeen, tile_seen}

-- ---- the stored file

-- What a codestream of these headers means, in these layers.
record IsPictureOf (codestream : List ℕ) (h : Headers) (d : ℕ) (layers : Option ℕ) (p : Picture) : Type 0 where
  reduction : HaveLevels h d
  frame : IsReducedFrame h d p
  tiles : (t : ℕ) → t < tile_count h.siz → ShowsLayers codestream h d layers p t

-- There is one reading of a file's codestream and headers.
picture_of : (bytes : List ℕ) (i : IndexFields) (is : IsIndexOf bytes i) (d : ℕ) (layers : Option ℕ) (p : Picture) → MeansLayers bytes d layers p → IsPictureOf is.codestream i.headers d layers p
picture_of bytes i is d layers p m =
    let o = boxes_again bytes m.codestream m.holds in
    let own = place_again bytes is.codestream i.place is.holds in
    let place : o.boxed ≡ i.place = ok_is o.boxed i.place (sym o.due ∙ own.0) in
    let same : m.codestream ≡ is.codestream = o.here ∙ ap (λ (b : Boxed). slice_range bytes b.start b.end) place ∙ sym own.1 in
    let picture : MeansPictureIn is.codestream d layers p = subst (λ (c : List ℕ). MeansPictureIn c d layers p) same m.picture in
    let headers : picture.headers ≡ i.headers =
    ok_is picture.headers i.headers (sym (only_headers is.codestream picture.headers picture.says) ∙ only_headers is.codestream i.headers is.says) in
    subst (λ (h : Headers). IsPictureOf is.codestream h d layers p) headers (record { reduction = picture.reduction; frame = picture.frame; tiles = picture.tiles })

-- ---- what is the same of alike headers

-- each tile-component has d levels
abbrev pub HaveLevelsIn : ℕ → List TileFields → Type 0
HaveLevelsIn d tiles = AllByRecursion (λ (f : TileFields). AllByRecursion (λ (k : Coding). d ≤ k.levels) f.codings) tiles

pub levels_alike : (d : ℕ) (tiles others : List TileFields) → HaveLevelsIn d others → length tiles ≡ length others → ((t : ℕ) → t < length tiles → (tile_in tiles t).codings ≡ (tile_in others t).codings) → HaveLevelsIn d tiles
levels_alike d [] others all long same = tt
levels_alike d (f ∷ tiles) [] all long same = absurd (omega (arith, long))
levels_alike d (f ∷ tiles) (g ∷ others) all long same = (
  subst (λ (ks : List Coding). AllByRecursion (λ (k : Coding). d ≤ k.levels) ks) (sym (same 0 (omega arith))) all.0,
  levels_alike d tiles others all.1 (omega (arith, long)) (λ t lt. same (suc t) (omega (arith, lt))),
)

-- ---- the window

window_is : (h : Headers) (v : View) (w : Rect) → window_at h v ≡ Ok w → w ≡ window_of h v
unfolding area_at
window_is h v w is =
    let e = window_area_is h v w is in
    let last : Unit {0} → Result Rect Fault = λ u. Ok (window_of h v) in
    let second : Unit {0} → Result Rect Fault = λ u. refuse (is_empty (window_of h v)) BadWindow >>= last in
    let first : Unit {0} → Result Rect Fault = λ u. refuse (is_empty (frame_of h v.reduce)) BadWindow >>= second in
    refuse_then (not (have_levels h v.reduce)) BadWindow first w e (λ a f.
    refuse_then (is_empty (frame_of h v.reduce)) BadWindow second w f (λ b g.
    refuse_then (is_empty (window_of h v)) BadWindow last w g (λ c k. sym (ok_is (window_of h v) w k))))

-- ---- the reply

text_bare : (tree : Tree) → IsBare (codestream_text tree) (codestream_text tree)
unfolding codestream_text main_text
text_bare tree = record {
  others = (siz_text tree.siz ++ flat_map segment_text tree.segments) ++ (flat_map part_text tree.parts ++ marker_text eoc);
  text = refl;
  whole = refl;
}

pub reply_holds : (bytes codestream : List ℕ) (b : Boxed) (holds : HoldsAt bytes codestream b) (tree : Tree) (reply : List ℕ) → with_codestream holds (codestream_text tree) ≡ Ok reply → HoldsCodestream reply (codestream_text tree)
reply_holds bytes codestream b (inl bare) tree reply e =
    subst (λ (r : List ℕ). HoldsCodestream r (codestream_text tree)) (ok_is (codestream_text tree) reply e) (inl (text_bare tree))
reply_holds bytes codestream b (inr jp2) tree reply e = inr (recoded_holds bytes codestream (codestream_text tree) reply jp2.0 e)

-- ---- its picture

-- The picture of a codestream whose tiles are decoded.
record IsShown (new : List ℕ) (g : Headers) (d t : ℕ) (shown : ℕ → ℕ → ℕ → ℤ) : Type 0 where
  shows : ShowsTile new g d (tiles_picture new g d) t
  there : (c x y : ℕ) → c < g.siz.components → IsWithin (shown_area g.siz t d) x y → sample_at (tiles_picture new g d) c (x - (frame_of g d).x0) (y - (frame_of g d).y0) ≡ shown c x y

tile_shown : (new : List ℕ) (g : Headers) (d t : ℕ) (shown : ℕ → ℕ → ℕ → ℤ) → AreHeaders (length new) g → t < tile_count g.siz → AllByRecursion (λ (k : Coding). d ≤ k.levels) (tile_in g.tiles t).codings
    → DecodesTile new g (tile_in g.tiles t) t d shown → IsShown new g d t shown
tile_shown new g d t shown are lt levels decoded =
    let is = tile_only new g t d shown are lt levels decoded in
    let places : is.places ≡ places_at new g t = sym (ap places_or is.packets) in
    let shows = tile_shows new g d t are lt (tested_ok (packets_at new g t) is.places is.packets)
    (ap (λ (ws : List PacketPlace). tested (tile_planes_at new g t d ws)) (sym places) ∙ tested_ok (tile_planes_at new g t d is.places) _ is.planes) in
    record {
      shows = shows;
      there = λ c x y some within.
          (let holds : TileHolds g.siz d t x y = record { tile = lt; place = within } in
          tiles_sample new g d c x y some (tile_inside g.siz d t x y are.siz holds)
          ∙ tile_value new g d t c x y are.siz holds
          ∙ ap (λ (ws : List PacketPlace). component_samples new g t d ws c x y) (sym places)
          ∙ sym (is.same c x y some within));
    }

-- ---- the picture of the reply

-- The picture of the reply, and what of it is p: h are the headers of the stored codestream, g those of the reply's.
record IsReply (new : List ℕ) (h : Headers) (d : ℕ) (w : Rect) (p : Picture) : Type 0 where
  headers : Headers
  means : MeansPicture new d (tiles_picture new headers d)
  siz : headers.siz ≡ h.siz
  count : length (tiles_picture new headers d).planes ≡ h.siz.components
  same : (c x y : ℕ) → c < h.siz.components → IsWithin (frame_of h d) x y → IsWithin w x y → sample_at (tiles_picture new headers d) c (x - (frame_of headers d).x0) (y - (frame_of headers d).y0) ≡ sample_at p c (x - p.x0) (y - p.y0)

reply_is : (bytes : List ℕ) (i : IndexFields) (is : IsIndexOf bytes i) (w : Rect) (v : View) (p : Picture) → IsPictureOf is.codestream i.headers v.reduce v.layers p → IsReply (codestream_text (cut_tree is w v)) i.headers v.reduce w p
reply_is bytes i is w v p picture =
    let d = v.reduce in
    let h = i.headers in
    let new = codestream_text (cut_tree is w v) in
    let again = cut_again bytes i is w v in
    let g = again.headers in
    let alike = again.alike in
    let stored = sound_headers is.codestream h is.says in
    let sound = sound_headers new g again.says in
    let count : tile_count g.siz ≡ tile_count h.siz = ap tile_count alike.siz in
    let some : frame_of g d ≡ frame_of h d = ap (λ (s : Siz). reduced_area (image_area s) d) alike.siz in
    let long = stored.tiles in
    let many = sound.tiles in
    let left = picture.frame.left in let upper = picture.frame.upper in
    let right = picture.frame.right in let lower = picture.frame.lower in
    let wide = picture.frame.wide in let high = picture.frame.high in
    let frame = tiles_frame new g d (subst (λ (a : Rect). a.x0 < a.x1) (sym some) (omega (arith, left, right, wide))) (subst (λ (a : Rect). a.y0 < a.y1) (sym some) (omega (arith, upper, lower, high))) in
    let levels : HaveLevels g d = levels_alike d g.tiles h.tiles picture.reduction (many ∙ count ∙ sym long) (λ t lt. alike.codings t (omega (arith, lt, many, count))) in
    let seen_at : (t : ℕ) (lt : t < tile_count h.siz) → IsTileSeen new g (tile_area h.siz t) t d w h.siz.components (picture.tiles t lt).samples = λ t lt.
    tile_seen is.codestream new h g t d w v.layers is.runs (picture.tiles t lt).samples stored alike lt (tile_levels d h.tiles t picture.reduction (omega (arith, lt, long)))
    (is.tiles t lt) (again.tiles t (omega (arith, lt, count))) (picture.tiles t lt).decoded in
    let shown_at : (t : ℕ) (lt : t < tile_count h.siz) → IsShown new g d t (seen_at t lt).shown = λ t lt.
    tile_shown new g d t (seen_at t lt).shown sound (omega (arith, lt, count)) (tile_levels d g.tiles t levels (omega (arith, lt, count, many))) (seen_at t lt).decoded in
    record {
      headers = g;
      means = record {
        headers = g;
        says = again.says;
        reduction = levels;
        frame = frame;
        tiles = λ t lt. (shown_at t (omega (arith, lt, count))).shows;
      };
      siz = alike.siz;
      count = frame.components ∙ ap (λ (s : Siz). s.components) alike.siz;
      same = λ c x y few inside window.
          (let tile = tile_covers h.siz d x y stored.siz inside in
          let t = tile.0 in
          let lt = tile.1.tile in
          let place : IsWithin (shown_area h.siz t d) x y = tile.1.place in
          let there : IsWithin (shown_area g.siz t d) x y = subst (λ (s : Siz). IsWithin (shown_area s t d) x y) (sym alike.siz) place in
          let mine : c < g.siz.components = subst (λ (s : Siz). c < s.components) (sym alike.siz) few in
          let l = place.left in let r = place.right in let u = place.upper in let b = place.lower in
          let wl = window.left in let wr = window.right in let wu = window.upper in let wb = window.lower in
          let within : IsWithin (seen (tile_area h.siz t) w d) x y = record { left = omega (arith, l, wl); right = omega (arith, r, wr); upper = omega (arith, u, wu); lower = omega (arith, b, wb) } in
          (shown_at t lt).there c x y mine there ∙ (seen_at t lt).same c x y few within ∙ sym ((picture.tiles t lt).placed c x y few place));
    }

-- ---- the file of a window

same_window : (new : List ℕ) (h : Headers) (v : View) (w : Rect) (p : Picture) → w ≡ window_of h v → IsReducedFrame h v.reduce p → (r : IsReply new h v.reduce w p) → IsSameOnWindow v p (tiles_picture new r.headers v.reduce)
same_window new h v w p own frame r =
    let d = v.reduce in
    let a = frame_of h d in
    let some : frame_of r.headers d ≡ a = ap (λ (s : Siz). reduced_area (image_area s) d) r.siz in
    let x0 : (frame_of r.headers d).x0 ≡ a.x0 = ap (λ (z : Rect). z.x0) some in
    let y0 : (frame_of r.headers d).y0 ≡ a.y0 = ap (λ (z : Rect). z.y0) some in
    let x1 : (frame_of r.headers d).x1 ≡ a.x1 = ap (λ (z : Rect). z.x1) some in
    let y1 : (frame_of r.headers d).y1 ≡ a.y1 = ap (λ (z : Rect). z.y1) some in
    let left = frame.left in let upper = frame.upper in
    let right = frame.right in let lower = frame.lower in
    let count = frame.components in
    record {
      left = x0 ∙ sym left;
      upper = y0 ∙ sym upper;
      width = omega (arith, x0, x1, left, right);
      height = omega (arith, y0, y1, upper, lower);
      depth = ap (λ (s : Siz). s.depth) r.siz ∙ sym frame.depth;
      signed = ap (λ (s : Siz). s.signed) r.siz ∙ sym frame.signed;
      components = r.count ∙ sym count;
      samples = λ c x y few across down x_from x_to y_from y_to.
          (let inside : IsWithin a (p.x0 + x) (p.y0 + y) = record { left = omega (arith, left); right = omega (arith, right, across); upper = omega (arith, upper); lower = omega (arith, lower, down) } in
          let window : IsWithin w (p.x0 + x) (p.y0 + y) = subst (λ (z : Rect). IsWithin z (p.x0 + x) (p.y0 + y)) (sym own)
          (record { left = omega (arith, left, x_from); right = omega (arith, left, right, across, x_to); upper = omega (arith, upper, y_from); lower = omega (arith, upper, lower, down, y_to) }) in
          let qx : x ≡ p.x0 + x - (frame_of r.headers d).x0 = omega (arith, x0, left) in
          let qy : y ≡ p.y0 + y - (frame_of r.headers d).y0 = omega (arith, y0, upper) in
          let px : p.x0 + x - p.x0 ≡ x = omega arith in
          let py : p.y0 + y - p.y0 ≡ y = omega arith in
          (λ k. sample_at (tiles_picture new r.headers d) c (qx k) (qy k)) ∙ r.same c (p.x0 + x) (p.y0 + y) (omega (arith, few, count)) inside window ∙ (λ k. sample_at p c (px k) (py k)));
    }

-- What the file of a window means.
pub window_meant : IsWindowMeant
window_meant bytes i is v reply due p m =
    let picture = picture_of bytes i is v.reduce v.layers p m in
    bind_then (window_at i.headers v) _ reply due (λ w found rest.
    let r = reply_is bytes i is w v p picture in
    let tree = cut_tree is w v in (
      tiles_picture (codestream_text tree) r.headers v.reduce,
      record { codestream = codestream_text tree; holds = reply_holds bytes is.codestream i.place is.holds tree reply rest; picture = r.means },
      same_window (codestream_text tree) i.headers v w p (window_is i.headers v w found) picture.frame r,
    ))
