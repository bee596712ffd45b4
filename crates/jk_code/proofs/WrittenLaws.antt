-- What is written means the image.
use Rattle.std.proofs.Common.{◌≡◌, ℕ, ◌+◌, ◌-◌, ◌*◌, ◌/◌, ◌<◌, ◌≤◌, true, List, [], ◌∷◌, ◌++◌, length, map, drop, replicate, ℤ, refl, ap, sym, ◌∙◌, subst, arith, inl}
use Rattle.std.specs.List.{flat_map, AllByRecursion}
use Rattle.jk_math.specs.declared.rect.Rect.{Rect}
use Rattle.std.specs.Prelude.{All}
use Rattle.std.proofs.lemmas.List.Elements.{All-get_or, All-from_get_or}
use Rattle.jk_math.specs.Picture.{Picture, IsPicture, IsPlane, sample_at}
use Rattle.jk_marks.specs.declared.coding.Coding.{Coding}
use Rattle.jk_marks.specs.Siz.{tile_count}
use Rattle.jk_marks.specs.Segments.{Segment}
use Rattle.jk_marks.specs.Markers.{marker_text, eoc}
use Rattle.jk_marks.specs.Codestream.{CodestreamPart, main_text, part_text, codestream_text, of_tile}
use Rattle.jk_boxes.specs.Boxes.{HoldsCodestream}
use Rattle.jk_geom.specs.Rectangles.{tile_area, resolution_area}
use Rattle.jk_geom.specs.Partitions.{image_area, reduced_area}
use Rattle.jk_geom.specs.Counts.{packet_number}
use Rattle.jk_params.specs.declared.parameters.Parameters.{Parameters}
use Rattle.jk_params.specs.Coding.{HasPlanes, coding_of as coding_by}
use Rattle.jk_params.specs.Headers.{Headers, TileFields, head_segments, tile_in, headers_of, packets_alike, packets_of, most_packets, IsHeaders}
use Rattle.jk_params.specs.Profile.{siz_of, cod_of, coding_for, packets_for, IsWrittenBy}
use Rattle.jk_params.proofs.Laws.{places_from, contents_from, tiles_said, fields_with, said_at, same_packets, tile_same}
use Rattle.jk_walk.specs.TilePackets.{slice_of}
use Rattle.jk_tile.specs.encoding.PacketsWritten.{tile_text}
use Rattle.jk_tile.specs.TileMeaning.{DecodesTile}
use Rattle.jk_tile.proofs.Laws.{planes_have, written_decodes}
use Rattle.jk_code.specs.Meaning.{IsReducedFrame, ShowsTile, MeansPicture, Means}
use Rattle.jk_code.specs.Written.{tree_for, parts_fit}
use Rattle.jk_code.proofs.HeaderLaws.{segments_for, quantisation_for, coding_in, main_is, coding_said, codings_said}
use Rattle.jk_code.proofs.PartLaws.{parts_for, part_said, parts_are, total_below}

-- the headers of what is written
abbrev pub headers_for : Picture → Parameters → Headers
headers_for p q = record { siz = siz_of p q; tiles = tiles_said (siz_of p q) (segments_for p q) (parts_for p q) }

-- where the data of a tile stand
abbrev pub places_for : Picture → Parameters → ℕ → List (ℕ × ℕ)
places_for p q t = places_from (length (main_text (siz_of p q) (segments_for p q))) (parts_for p q) t

-- the fields of a tile
abbrev fields_for : Picture → Parameters → ℕ → TileFields
fields_for p q t = record { cod = cod_of q; codings = replicate (length p.planes) (coding_in p q); data_places = places_for p q t }

pub fields_said : (p : Picture) (q : Parameters) → IsWrittenBy q p → (t : ℕ) → t < tile_count (siz_of p q) → tile_in (headers_for p q).tiles t ≡ fields_for p q t
fields_said p q by t lt =
    let siz = siz_of p q in
    let segments = segments_for p q in
    let head : head_segments (of_tile t (parts_for p q)) ≡ [] = ap head_segments (part_said p q t lt) in
    said_at siz segments (parts_for p q) t lt
    ∙ ap (λ (h : List Segment). fields_with siz segments h (places_for p q t)) head
    ∙ ap (λ (ks : List Coding). record { cod = cod_of q; codings = ks; data_places = places_for p q t }) (codings_said p q by (length p.planes))

-- the packets of tile t
abbrev packets_in : Picture → Parameters → ℕ → ℕ
packets_in p q t = packet_number (tile_area (siz_of p q) t) q.layers (replicate (length p.planes) (coding_for q))

-- exponents don't change their number
tile_packets : (p : Picture) (q : Parameters) (t : ℕ) → packet_number (tile_area (siz_of p q) t) q.layers (replicate (length p.planes) (coding_in p q)) ≡ packets_in p q t
tile_packets p q t = tile_same (tile_area (siz_of p q) t) q.layers (length p.planes) (cod_of q).style (quantisation_for p q) (record { guard = 2; exponents = [] })

main_few : (p : Picture) (q : Parameters) → packets_alike (siz_of p q) q.layers (replicate (length p.planes) (coding_in p q)) ≡ packets_for q p
main_few p q = same_packets (siz_of p q) q.layers (length p.planes) (cod_of q).style (quantisation_for p q) (record { guard = 2; exponents = [] })

all_few : (p : Picture) (q : Parameters) → IsWrittenBy q p → packets_of (siz_of p q) (headers_for p q).tiles ≡ packets_for q p
all_few p q by =
    let siz = siz_of p q in
    let number : ℕ → TileFields → ℕ = λ t f. packet_number (tile_area siz t) f.cod.layers f.codings in
    total_below (λ t. number t (tile_in (headers_for p q).tiles t)) (packets_in p q) (tile_count siz)
    (λ t lt. ap (number t) (fields_said p q by t lt) ∙ tile_packets p q t)

pub headers_are : (p : Picture) (q : Parameters) → IsPicture p → IsWrittenBy q p → parts_fit p q ≡ true → IsHeaders (codestream_text (tree_for p q)) (headers_for p q)
unfolding headers_of
headers_are p q is by fit =
    let few = by.few in
    let segments = segments_for p q in
    let n = length p.planes in
    record {
      tree = tree_for p q;
      spelled = record { header = main_is p q is by; parts = parts_are p q by fit; text = refl };
      says = refl;
      main_planes = λ c lt. subst HasPlanes (sym (coding_said p q by c)) (planes_have p q is by);
      main_few = subst (λ (ks : List Coding). packets_alike (siz_of p q) q.layers ks ≤ most_packets) (sym (codings_said p q by n)) (subst (λ k. k ≤ most_packets) (sym (main_few p q)) few);
      planes = λ t c tile lt.
          subst (λ (h : List Segment). HasPlanes (coding_by segments h c)) (sym (ap head_segments (part_said p q t tile))) (subst HasPlanes (sym (coding_said p q by c)) (planes_have p q is by));
      few = subst (λ k. k ≤ most_packets) (sym (all_few p q by)) few;
    }

-- an area that is reduced by no level
ceil_one : (x : ℕ) → (x + 1 - 1) / 1 ≡ x
ceil_one x = omega arith

pub whole_area : (a : Rect) → reduced_area a 0 ≡ a
unfolding resolution_area
whole_area a = λ i. record { x0 = ceil_one a.x0 i; y0 = ceil_one a.y0 i; x1 = ceil_one a.x1 i; y1 = ceil_one a.y1 i }

-- each plane of a picture has all its samples
planes_full : (p : Picture) → IsPicture p → All (λ (plane : List ℤ). length plane ≡ p.width * p.height) p.planes
planes_full p is =
    All-from_get_or (λ (plane : List ℤ). length plane ≡ p.width * p.height) p.planes [] (λ c lt. (All-get_or (IsPlane (p.width * p.height) p.depth p.signed) p.planes c [] lt is.components.each).count)

pub frame_is : (p : Picture) (q : Parameters) → IsPicture p → IsReducedFrame (headers_for p q) 0 p
frame_is p q is =
    let whole = sym (whole_area (image_area (siz_of p q))) in
    record {
      left = ap (λ (a : Rect). a.x0) whole;
      upper = ap (λ (a : Rect). a.y0) whole;
      right = ap (λ (a : Rect). a.x1) whole;
      lower = ap (λ (a : Rect). a.y1) whole;
      wide = is.frame.wide;
      high = is.frame.high;
      depth = refl;
      signed = refl;
      components = refl;
      planes = planes_full p is;
    }

-- the data of a tile
pub content_said : (p : Picture) (q : Parameters) (t : ℕ) → t < tile_count (siz_of p q) → map (slice_of (codestream_text (tree_for p q))) (places_for p q t) ≡ tile_text p q t ∷ []
content_said p q t lt = contents_from (codestream_text (tree_for p q)) (tree_for p q) t refl ∙ ap (λ (ps : List CodestreamPart). map (λ (x : CodestreamPart). x.content) ps) (part_said p q t lt)

-- the samples of a tile
abbrev samples_of : Picture → ℕ → ℕ → ℕ → ℤ
samples_of p c x y = sample_at p c (x - p.x0) (y - p.y0)

shows : (p : Picture) (q : Parameters) → IsPicture p → IsWrittenBy q p → (t : ℕ) → t < tile_count (siz_of p q) → ShowsTile (codestream_text (tree_for p q)) (headers_for p q) 0 p t
shows p q is by t lt = record {
  samples = samples_of p;
  decoded = subst (λ (f : TileFields). DecodesTile (codestream_text (tree_for p q)) (headers_for p q) f t 0 (samples_of p)) (sym (fields_said p q by t lt))
      (written_decodes p q t (codestream_text (tree_for p q)) (headers_for p q) (places_for p q t) is by lt refl (content_said p q t lt));
  placed = λ component x y some within. refl;
}

each_of : {X : Type 0} (P : X → Type 0) → ((x : X) → P x) → (xs : List X) → AllByRecursion P xs
each_of P h [] = tt
each_of P h (x ∷ xs) = (h x, each_of P h xs)

-- the codestream means the picture
pub written_means : (p : Picture) (q : Parameters) → IsPicture p → IsWrittenBy q p → parts_fit p q ≡ true → MeansPicture (codestream_text (tree_for p q)) 0 p
written_means p q is by fit = record {
  headers = headers_for p q;
  says = headers_are p q is by fit;
  reduction = each_of _ (λ (f : TileFields). each_of _ (λ (k : Coding). omega arith) f.codings) (headers_for p q).tiles;
  frame = frame_is p q is;
  tiles = shows p q is by;
}

-- and is a bare file
pub written_bare : (p : Picture) (q : Parameters) → HoldsCodestream (codestream_text (tree_for p q)) (codestream_text (tree_for p q))
unfolding codestream_text main_text
written_bare p q = inl (record { others = drop 2 (codestream_text (tree_for p q)); text = refl; whole = refl })

-- a file that holds a codestream means what the codestream means
pub holds_means : (bytes codestream : List ℕ) (p : Picture) → HoldsCodestream bytes codestream → MeansPicture codestream 0 p → Means bytes 0 p
holds_means bytes codestream p holds means = record { codestream = codestream; holds = holds; picture = means }

-- the parts of the text, as they are written
pub text_parts : (p : Picture) (q : Parameters) → codestream_text (tree_for p q) ≡ main_text (siz_of p q) (segments_for p q) ++ (flat_map part_text (parts_for p q) ++ marker_text eoc)
unfolding codestream_text
text_parts p q = refl
