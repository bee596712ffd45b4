-- The first layers of a file that was written mean the image that is rebuilt from the coefficients without their lowest bit-planes.
use Rattle.std.proofs.Common.{◌≡◌, ℕ, zero, suc, ◌+◌, ◌-◌, ◌*◌, ◌^◌, ◌<◌, ◌≤◌, true, false, List, [], ◌∷◌, length, replicate, get_or, Option, Some, ℤ, pos, refl, sym, ap, ◌∙◌, subst, arith}
use Rattle.std.specs.Prelude.{slice_range}
use Rattle.std.specs.List.{AllByRecursion}
use Rattle.std.proofs.lemmas.List.Elements.{All-from_get_or}
use Rattle.std.proofs.lemmas.List.FromFn.{length-map-range_with_len, get_or-map-range_with_len}
use Rattle.jk_math.specs.Steps.{bind_then, ok_is}
use Rattle.jk_math.specs.Picture.{Picture, IsPicture, sample_at}
use Rattle.jk_math.specs.Raster.{raster}
use Rattle.jk_math.proofs.Laws.{raster_length, raster_at}
use Rattle.jk_marks.specs.declared.siz.Siz.{Siz}
use Rattle.jk_marks.specs.declared.coding.Coding.{Coding}
use Rattle.jk_marks.specs.Siz.{tile_count}
use Rattle.jk_marks.specs.Codestream.{codestream_text}
use Rattle.jk_boxes.specs.declared.place.Boxed.{Boxed}
use Rattle.jk_boxes.specs.Boxes.{HoldsCodestream}
use Rattle.jk_boxes.proofs.Laws.{boxes_again, place_again}
use Rattle.jk_geom.specs.Rectangles.{IsWithin, is_empty, tile_area}
use Rattle.jk_geom.specs.TileShapes.{coding_of}
use Rattle.jk_geom.specs.Partitions.{tile_of, TileHolds}
use Rattle.jk_geom.proofs.Laws.{tile_inside}
use Rattle.jk_params.specs.declared.parameters.Parameters.{Parameters}
use Rattle.jk_params.specs.Headers.{Headers, TileFields, tile_in, IsHeaders, AreHeaders}
use Rattle.jk_params.specs.Profile.{siz_of, IsWrittenBy}
use Rattle.jk_params.proofs.Laws.{only_headers, sound_headers}
use Rattle.jk_walk.specs.TilePackets.{Body, Packet, shape_in}
use Rattle.jk_tile.specs.encoding.Fronts.{front_sample}
use Rattle.jk_tile.specs.encoding.PacketsWritten.{written_coding}
use Rattle.jk_tile.specs.TileMeaning.{shown_area, IsBlockAt, DecodesLayers, DecodesTile}
use Rattle.jk_tile.proofs.Laws.{front_decodes, one_front}
use Rattle.jk_window.specs.Indexing.{IndexFields, joined_runs, HasRuns, IsIndexOf}
use Rattle.jk_window.specs.Again.{front_runs, AreAlike}
use Rattle.jk_window.specs.Views.{HaveLevels, frame_of, window_at}
use Rattle.jk_window.specs.Fronts.{front_tree}
use Rattle.jk_window.proofs.Laws.{front_bodies, front_again, front_fits, window_found}
use Rattle.jk_code.specs.Meaning.{IsReducedFrame, ShowsLayers, MeansPictureIn, MeansPicture, MeansLayers}
use Rattle.jk_code.specs.Written.{tree_for, parts_fit}
use Rattle.jk_code.specs.Fronts.{reduced_place, front_picture, HasFronts}
use Rattle.jk_code.proofs.EmptiedTiles.{left_of, left_tile, decodes_alike}
use Rattle.jk_code.proofs.HeaderFacts.{sides_of}
use Rattle.jk_code.proofs.Tiling.{tile_number}
use Rattle.jk_code.proofs.WindowLaws.{levels_alike, reply_holds, window_meant}
use Rattle.jk_code.proofs.WrittenLaws.{headers_for, places_for, fields_said, headers_are, content_said}

-- ---- a tile

-- A tile whose first layers decode to samples decodes to them where the others are empty.
front_tile : (bytes new : List ℕ) (h g : Headers) (t d k : ℕ) (runs : ℕ → List (List Packet)) (samples : ℕ → ℕ → ℕ → ℤ) → AreHeaders (length bytes) h → AreAlike g h → t < tile_count h.siz
    → HasRuns bytes h t (runs t) → HasRuns new g t (front_runs h (λ _ _ _ _. k) runs t) → DecodesLayers bytes h (tile_in h.tiles t) t d (Some k) samples → DecodesTile new g (tile_in g.tiles t) t d samples
front_tile bytes new h g t d k runs samples are alike lt has again is =
    let f = tile_in h.tiles t in
    let packets = joined_runs (runs t) in
    let read = one_front bytes h t k is.packets packets are lt is.tile has.packets in
    decodes_alike new g h t d samples alike lt (record {
      packets = left_of h (λ _ _ _ _. k) runs t;
      tile = left_tile new g h t (λ _ _ _ _. k) runs alike lt again;
      coefficients = is.coefficients;
      blocks = λ c r n i j precinct low band block.
          subst (λ (bs : List Body). IsBlockAt (tile_area h.siz t) (coding_of f.codings c) bs (is.coefficients c) r n i j) (read c r n ∙ sym (front_bodies (shape_in h.siz f t) f.cod.sop f.cod.eph packets (λ _ _ _. k) c r n has.packets.order precinct))
          (is.blocks c r n i j precinct low band block);
      shown = λ c x y some within. is.shown c x y some within;
    })

-- ---- the image

-- the tiles of what is written, in their first layers
stored : (p : Picture) (q : Parameters) (k d t : ℕ) → IsPicture p → IsWrittenBy q p → 1 ≤ k → k ≤ q.layers → t < tile_count (siz_of p q)
    → DecodesLayers (codestream_text (tree_for p q)) (headers_for p q) (tile_in (headers_for p q).tiles t) t d (Some k) (front_sample p q k d t)
stored p q k d t is by some few lt =
    subst (λ (f : TileFields). DecodesLayers (codestream_text (tree_for p q)) (headers_for p q) f t d (Some k) (front_sample p q k d t)) (sym (fields_said p q by t lt))
    (front_decodes p q k d t (codestream_text (tree_for p q)) (headers_for p q) (places_for p q t) is by some few lt refl (content_said p q t lt))

-- the planes of the image
abbrev plane_sample : Picture → Parameters → (k d c : ℕ) → ℕ → ℕ → ℤ
plane_sample p q k d c x y = front_sample p q k d (tile_of (siz_of p q) (x * 2 ^ d) (y * 2 ^ d)) c x y

front_count : (p : Picture) (q : Parameters) (k d : ℕ) → length (front_picture p q k d).planes ≡ length p.planes
front_count p q k d = length-map-range_with_len (λ c. raster (reduced_place p q d) (plane_sample p q k d c)) 0 (length p.planes)

front_plane : (p : Picture) (q : Parameters) (k d c : ℕ) → c < length p.planes → get_or (front_picture p q k d).planes c [] ≡ raster (reduced_place p q d) (plane_sample p q k d c)
front_plane p q k d c lt = get_or-map-range_with_len (λ c. raster (reduced_place p q d) (plane_sample p q k d c)) 0 (length p.planes) c c [] lt (omega arith)

front_frame : (p : Picture) (q : Parameters) (k d : ℕ) (tiles : List TileFields) → is_empty (reduced_place p q d) ≡ false → IsReducedFrame (record { siz = siz_of p q; tiles = tiles }) d (front_picture p q k d)
front_frame p q k d tiles some =
    let area = reduced_place p q d in
    let sides = sides_of area some in
    let wide = sides.0 in
    let high = sides.1 in
    record {
      left = refl;
      upper = refl;
      right = omega (arith, wide);
      lower = omega (arith, high);
      wide = omega (arith, wide);
      high = omega (arith, high);
      depth = refl;
      signed = refl;
      components = front_count p q k d;
      planes = All-from_get_or (λ (plane : List ℤ). length plane ≡ (area.x1 - area.x0) * (area.y1 - area.y0)) (front_picture p q k d).planes [] (λ c lt.
          let long = raster_length area (plane_sample p q k d c) in
          let turned : (area.y1 - area.y0) * (area.x1 - area.x0) ≡ (area.x1 - area.x0) * (area.y1 - area.y0) = omega arith in
          ap (λ (plane : List ℤ). length plane) (front_plane p q k d c (omega (arith, lt, front_count p q k d))) ∙ long ∙ turned);
    }

front_sample_at : (p : Picture) (q : Parameters) (k d t c x y : ℕ) → IsWrittenBy q p → t < tile_count (siz_of p q) → c < length p.planes → IsWithin (shown_area (siz_of p q) t d) x y
    → sample_at (front_picture p q k d) c (x - (reduced_place p q d).x0) (y - (reduced_place p q d).y0) ≡ front_sample p q k d t c x y
front_sample_at p q k d t c x y by lt some within =
    let siz = siz_of p q in
    let area = reduced_place p q d in
    let holds : TileHolds siz d t x y = record { tile = lt; place = within } in
    let inside : IsWithin area x y = tile_inside siz d t x y by.siz holds in
    ap (λ (plane : List ℤ). get_or plane ((y - area.y0) * (area.x1 - area.x0) + (x - area.x0)) (pos 0)) (front_plane p q k d c some)
    ∙ raster_at area (plane_sample p q k d c) x y (record { left = inside.left; right = inside.right; upper = inside.upper; lower = inside.lower })
    ∙ ap (λ n. front_sample p q k d n c x y) (tile_number siz d t x y by.siz holds)

-- ---- its levels

-- all codings of a tile that is written have as many levels
levels_of : (d n : ℕ) (k : Coding) → d ≤ k.levels → AllByRecursion (λ (x : Coding). d ≤ x.levels) (replicate n k)
levels_of d zero k le = tt
levels_of d (suc n) k le = (le, levels_of d n k le)

-- what holds for each number holds for all
each_at : (d : ℕ) (tiles : List TileFields) → ((t : ℕ) → t < length tiles → AllByRecursion (λ (x : Coding). d ≤ x.levels) (tile_in tiles t).codings) → AllByRecursion (λ (f : TileFields). AllByRecursion (λ (x : Coding). d ≤ x.levels) f.codings) tiles
each_at d [] each = tt
each_at d (f ∷ tiles) each = (each 0 (omega arith), each_at d tiles (λ t lt. each (suc t) (omega (arith, lt))))

written_levels : (p : Picture) (q : Parameters) (d : ℕ) → IsPicture p → IsWrittenBy q p → parts_fit p q ≡ true → d ≤ q.levels → HaveLevels (headers_for p q) d
written_levels p q d is by fit le =
    let sound = sound_headers (codestream_text (tree_for p q)) (headers_for p q) (headers_are p q is by fit) in
    let long = sound.tiles in
    each_at d (headers_for p q).tiles (λ t lt. subst (λ (f : TileFields). AllByRecursion (λ (x : Coding). d ≤ x.levels) f.codings) (sym (fields_said p q by t (omega (arith, lt, long)))) (levels_of d (length p.planes) (written_coding p q) le))

-- ---- what is written means it

-- The codestream means the image, in its first layers.
front_means : (p : Picture) (q : Parameters) (k d : ℕ) → IsPicture p → IsWrittenBy q p → parts_fit p q ≡ true → 1 ≤ k → k ≤ q.layers → HaveLevels (headers_for p q) d → is_empty (reduced_place p q d) ≡ false
    → MeansPictureIn (codestream_text (tree_for p q)) d (Some k) (front_picture p q k d)
front_means p q k d is by fit first few levels some = record {
  headers = headers_for p q;
  says = headers_are p q is by fit;
  reduction = levels;
  frame = front_frame p q k d (headers_for p q).tiles some;
  tiles = λ t lt. record {
    samples = front_sample p q k d t;
    decoded = stored p q k d t is by first few lt;
    placed = λ c x y there within. front_sample_at p q k d t c x y by lt there within;
  };
}

-- ---- a codestream of the first layers

front_shown : (p : Picture) (q : Parameters) (k d : ℕ) (bytes : List ℕ) (i : IndexFields) (is : IsIndexOf bytes i) → MeansPictureIn is.codestream d (Some k) p → MeansPicture (codestream_text (front_tree is k)) d p
front_shown p q k d bytes i is means =
    let h = i.headers in
    let new = codestream_text (front_tree is k) in
    let again = front_again is.codestream h is.says is.runs is.tiles (λ _ _ _ _. k) in
    let g = again.headers in
    let alike = again.alike in
    let sound = sound_headers is.codestream h is.says in
    let made = sound_headers new g again.says in
    let long = sound.tiles in
    let many = made.tiles in
    let count : tile_count g.siz ≡ tile_count h.siz = ap tile_count alike.siz in
    let one : means.headers ≡ h = ok_is means.headers h (sym (only_headers is.codestream means.headers means.says) ∙ only_headers is.codestream h is.says) in
    let levels : HaveLevels h d = subst (λ (x : Headers). HaveLevels x d) one means.reduction in
    let frame : IsReducedFrame h d p = subst (λ (x : Headers). IsReducedFrame x d p) one means.frame in
    let tiles : (t : ℕ) → t < tile_count h.siz → ShowsLayers is.codestream h d (Some k) p t = subst (λ (x : Headers). (t : ℕ) → t < tile_count x.siz → ShowsLayers is.codestream x d (Some k) p t) one means.tiles in
    record {
      headers = g;
      says = again.says;
      reduction = levels_alike d g.tiles h.tiles levels (many ∙ count ∙ sym long) (λ t lt. alike.codings t (omega (arith, lt, many, count)));
      frame = subst (λ (s : Siz). IsReducedFrame (record g { siz = s }) d p) (sym alike.siz) (record {
        left = frame.left;
        upper = frame.upper;
        right = frame.right;
        lower = frame.lower;
        wide = frame.wide;
        high = frame.high;
        depth = frame.depth;
        signed = frame.signed;
        components = frame.components;
        planes = frame.planes;
      });
      tiles = λ t lt.
          (let small : t < tile_count h.siz = subst (λ (s : Siz). t < tile_count s) alike.siz lt in
          let old = tiles t small in
          record {
            samples = old.samples;
            decoded = front_tile is.codestream new h g t d k is.runs old.samples sound alike small (is.tiles t small) (again.tiles t lt) old.decoded;
            placed = λ c x y there within.
                old.placed c x y (subst (λ (s : Siz). c < s.components) alike.siz there) (subst (λ (s : Siz). IsWithin (shown_area s t d) x y) alike.siz within);
          });
    }

-- ---- the file

-- The codestream of the index is what was written.
record IsStored (p : Picture) (q : Parameters) (bytes : List ℕ) (i : IndexFields) (is : IsIndexOf bytes i) : Type 0 where
  text : codestream_text (tree_for p q) ≡ is.codestream
  said : headers_for p q ≡ i.headers

is_stored : (p : Picture) (q : Parameters) (bytes : List ℕ) (i : IndexFields) (is : IsIndexOf bytes i) → IsPicture p → IsWrittenBy q p → parts_fit p q ≡ true → HoldsCodestream bytes (codestream_text (tree_for p q)) → IsStored p q bytes i is
is_stored p q bytes i is picture by fit holds =
    let text = codestream_text (tree_for p q) in
    let o = boxes_again bytes text holds in
    let own = place_again bytes is.codestream i.place is.holds in
    let place : o.boxed ≡ i.place = ok_is o.boxed i.place (sym o.due ∙ own.0) in
    let same : text ≡ is.codestream = o.here ∙ ap (λ (b : Boxed). slice_range bytes b.start b.end) place ∙ sym own.1 in
    let says : IsHeaders is.codestream (headers_for p q) = subst (λ (c : List ℕ). IsHeaders c (headers_for p q)) same (headers_are p q picture by fit) in
    record {
      text = same;
      said = ok_is (headers_for p q) i.headers (sym (only_headers is.codestream (headers_for p q) says) ∙ only_headers is.codestream i.headers is.says);
    }

pub fronts_mean : (p : Picture) (q : Parameters) (bytes : List ℕ) → IsPicture p → IsWrittenBy q p → parts_fit p q ≡ true → HoldsCodestream bytes (codestream_text (tree_for p q)) → HasFronts p q bytes
fronts_mean p q bytes picture by fit holds =
    let means : (k d : ℕ) → 1 ≤ k → k ≤ q.layers → HaveLevels (headers_for p q) d → is_empty (reduced_place p q d) ≡ false → MeansLayers bytes d (Some k) (front_picture p q k d) =
    λ k d some few levels area. record { codestream = codestream_text (tree_for p q); holds = holds; picture = front_means p q k d picture by fit some few levels area } in
    record {
      layers = λ k d some few r. means k d some few (written_levels p q d picture by fit r.levels) r.some;
      files = λ k d some few r i is.
          (let file = front_fits bytes i is k in
          let stored = is_stored p q bytes i is picture by fit holds in
          let own = front_means p q k d picture by fit some few (written_levels p q d picture by fit r.levels) r.some in (
            file.0,
            file.1,
            record {
              codestream = codestream_text (front_tree is k);
              holds = reply_holds bytes is.codestream i.place is.holds (front_tree is k) file.0 file.1;
              picture = front_shown (front_picture p q k d) q k d bytes i is (subst (λ (c : List ℕ). MeansPictureIn c d (Some k) (front_picture p q k d)) stored.text own);
            },
          ));
      windows = λ v k asked some few i is reply due.
          (let stored = is_stored p q bytes i is picture by fit holds in
          let sound = sound_headers is.codestream i.headers is.says in
          let seen = bind_then (window_at i.headers v) _ reply due (λ w found rest. (window_found i.headers v w sound.tiles found).0) in
          let levels : HaveLevels (headers_for p q) v.reduce = subst (λ (h : Headers). HaveLevels h v.reduce) (sym stored.said) seen.area.levels in
          let area : is_empty (reduced_place p q v.reduce) ≡ false = ap (λ (h : Headers). is_empty (frame_of h v.reduce)) stored.said ∙ seen.area.image in
          window_meant bytes i is v reply due (front_picture p q k v.reduce)
          (subst (λ (l : Option ℕ). MeansLayers bytes v.reduce l (front_picture p q k v.reduce)) (sym asked) (means k v.reduce some few levels area)));
    }
