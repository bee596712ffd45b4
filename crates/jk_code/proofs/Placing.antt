-- Tiles put into the planes of the image.
use Rattle.std.proofs.Common.{◌≡◌, ℕ, ◌+◌, ◌-◌, ◌*◌, ◌/◌, ◌%◌, ◌^◌, ◌<◌, ◌≤◌, min, max, List, [], ◌∷◌, ◌++◌, length, get_or, set, Result, Ok, Err, IfOk, ℤ, sym, ap, subst, ◌∙◌, inl, inr, arith, lit<}
use Rattle.std.specs.Global.{Vec}
use Rattle.std.specs.List.{AllByRecursion}
use Rattle.std.proofs.lemmas.Bool.{cases_eq}
use Rattle.std.proofs.lemmas.Nat.{pow_pos, mod_below, div_below}
use Rattle.std.proofs.Math.Nat.{mul-le-mul_right, div-add-mod'}
use Rattle.std.proofs.lemmas.List.{length-set, length-map, length-append, ext_get_or, get_or_default, get_or_append_left, get_or-append_right}
use Rattle.jk_math.specs.declared.fault.Fault.{Fault}
use Rattle.std.proofs.lemmas.List.FromFn.{length-map-range_with_len, get_or-map-range_with_len}
use Rattle.jk_math.specs.Answer.{Answers}
use Rattle.jk_math.specs.declared.rect.Rect.{Rect}
use Rattle.jk_math.specs.Lists.{lists_of}
use Rattle.jk_math.specs.Raster.{raster, plane_at, places_of}
use Rattle.jk_math.proofs.Laws.{raster_length, raster_at, raster_is}
use Rattle.jk_marks.specs.declared.siz.Siz.{Siz}
use Rattle.jk_marks.specs.Siz.{IsSiz, tiles_across, tiles_down, tile_count}
use Rattle.jk_geom.specs.Rectangles.{IsWithin, IsArea, tile_area, resolution_area}
use Rattle.jk_geom.specs.Partitions.{image_area, reduced_area, TileHolds}
use Rattle.jk_geom.proofs.Laws.{ceil_mono, tile_covers}
use Rattle.jk_params.specs.Headers.{Headers}
use Rattle.jk_walk.specs.declared.places.PacketPlace.{PacketPlace}
use Rattle.jk_geom.specs.declared.shape.TileShape.{TileShape}
use Rattle.jk_walk.specs.WalkReading.{place_end, IsPacketPlace, packets_at}
use Rattle.jk_tile.specs.Filling.{IsPartOf}
use Rattle.jk_tile.specs.TileMeaning.{shown_area}
use Rattle.jk_tile.specs.decoding.TileReading.{tested, tile_planes_at, component_samples}
use Rattle.jk_tile.proofs.Laws.{each_none, each_more, each_fails, refuses_on, tested_ok, tested_err, tile_tested, IsPut, Agrees, put_keeps, put_at, put_here, put_there, vector_items}
use Rattle.jk_code.specs.MeaningReading.{places_or, places_at, sample_of_tiles, tiles_tested, planes_of_tiles}
use Rattle.jk_code.specs.Tiles.{plane_in, ArePlanes, ShowsSample, KeepsSamples, ShowsTileAt, IsPartSeen, part_lists, AreRead}
use Rattle.jk_window.specs.Views.{frame_of}
use Rattle.jk_code.proofs.Tiling.{tile_value}

-- ---- the part of a tile

reduced_part : (a b : Rect) (d : ℕ) → IsArea b → a.x0 ≤ b.x0 → b.x1 ≤ a.x1 → a.y0 ≤ b.y0 → b.y1 ≤ a.y1 → IsPartOf (resolution_area b d 0) (resolution_area a d 0)
unfolding resolution_area
reduced_part a b d is left right upper lower = record {
  left = ceil_mono a.x0 b.x0 (2 ^ (d - 0)) (pow_pos (d - 0)) left;
  across = ceil_mono b.x0 b.x1 (2 ^ (d - 0)) (pow_pos (d - 0)) is.left;
  right = ceil_mono b.x1 a.x1 (2 ^ (d - 0)) (pow_pos (d - 0)) right;
  upper = ceil_mono a.y0 b.y0 (2 ^ (d - 0)) (pow_pos (d - 0)) upper;
  down = ceil_mono b.y0 b.y1 (2 ^ (d - 0)) (pow_pos (d - 0)) is.upper;
  lower = ceil_mono b.y1 a.y1 (2 ^ (d - 0)) (pow_pos (d - 0)) lower;
}

tile_bounds : (s : Siz) (t : ℕ) → (s.x0 ≤ (tile_area s t).x0) × ((tile_area s t).x1 ≤ s.x1) × (s.y0 ≤ (tile_area s t).y0) × ((tile_area s t).y1 ≤ s.y1)
unfolding tile_area
tile_bounds s t = (omega arith, omega arith, omega arith, omega arith)

pub tile_part : (h : Headers) (t d : ℕ) → IsArea (tile_area h.siz t) → IsPartOf (shown_area h.siz t d) (frame_of h d)
tile_part h t d is =
    let b = tile_bounds h.siz t in
    reduced_part (image_area h.siz) (tile_area h.siz t) d is b.0 b.1 b.2 b.3

-- a place of a part
pub within_part : (part area : Rect) (x y : ℕ) → IsPartOf part area → IsWithin part x y → IsWithin area x y
within_part part area x y is h =
    let hl = h.left in let hr = h.right in let hu = h.upper in let hd = h.lower in
    record { left = omega (arith, hl, is.left); right = omega (arith, hr, is.right); upper = omega (arith, hu, is.upper); lower = omega (arith, hd, is.lower) }

-- what is put is the samples
pub tile_agrees : (bytes : List ℕ) (h : Headers) (d t c : ℕ) (part : Rect) (places : List PacketPlace) (values : List ℤ) → IsSiz h.siz → t < tile_count h.siz → packets_at bytes h t ≡ Ok places → IsPartOf part (shown_area h.siz t d)
    → values ≡ raster part (component_samples bytes h t d places c) → Agrees part values (sample_of_tiles bytes h d c)
tile_agrees bytes h d t c part places values is lt read inside e x y within =
    let holds : TileHolds h.siz d t x y = record { tile = lt; place = within_part part (shown_area h.siz t d) x y inside within } in
    ap (λ (l : List ℤ). plane_at part l x y) e
    ∙ raster_at part (component_samples bytes h t d places c) x y (record { left = within.left; right = within.right; upper = within.upper; lower = within.lower })
    ∙ sym (ap (λ (r : Result (List PacketPlace) Fault). component_samples bytes h t d (places_or r) c x y) read) ∙ sym (tile_value bytes h d t c x y is holds)

-- plane c of a part
pub shown_plane : (bytes : List ℕ) (h : Headers) (d t c : ℕ) (part : Rect) (places : List PacketPlace) (planes : List (List ℤ)) → planes ≡ part_lists bytes h t d part places → c < h.siz.components
    → get_or planes c [] ≡ raster part (component_samples bytes h t d places c)
shown_plane bytes h d t c part places planes e lt =
    ap (λ (ls : List (List ℤ)). get_or ls c []) e ∙ get_or-map-range_with_len (λ i. raster part (component_samples bytes h t d places i)) 0 h.siz.components c c [] lt (omega arith)

shown_count : (bytes : List ℕ) (h : Headers) (d t : ℕ) (part : Rect) (places : List PacketPlace) (planes : List (List ℤ)) → planes ≡ part_lists bytes h t d part places → length planes ≡ h.siz.components
shown_count bytes h d t part places planes e =
    ap (λ (ls : List (List ℤ)). length ls) e ∙ length-map-range_with_len (λ i. raster part (component_samples bytes h t d places i)) 0 h.siz.components

-- the same of vectors
pub shown_vectors : (bytes : List ℕ) (h : Headers) (d t : ℕ) (part : Rect) (places : List PacketPlace) (planes : List (Vec ℤ)) → lists_of planes ≡ part_lists bytes h t d part places → length planes ≡ h.siz.components
shown_vectors bytes h d t part places planes e = sym (length-map planes (λ v. v.items)) ∙ shown_count bytes h d t part places (lists_of planes) e

pub shown_vector : (bytes : List ℕ) (h : Headers) (d t c : ℕ) (part : Rect) (places : List PacketPlace) (planes : List (Vec ℤ)) (plane : Vec ℤ) → lists_of planes ≡ part_lists bytes h t d part places → c < h.siz.components → plane ≡ get_or planes c plane
    → plane.items ≡ raster part (component_samples bytes h t d places c)
shown_vector bytes h d t c part places planes plane e lt is =
    vector_items planes c plane (let n = shown_vectors bytes h d t part places planes e in omega (arith, lt, n)) is ∙ shown_plane bytes h d t c part places (lists_of planes) e lt

-- ---- one plane more

pub planes_put : (h : Headers) (a : Rect) (c : ℕ) (planes : List (Vec ℤ)) (w : Vec ℤ) → ArePlanes h a planes → c < h.siz.components → length w.items ≡ places_of a → ArePlanes h a (set planes c w)
planes_put h a c planes w is lt long = record {
  count = length-set planes c w ∙ is.count;
  each = λ i few. elim (cases_eq i c) [
    | inl same ↦ ap (λ n. length (plane_in (set planes c w) n)) same ∙ ap (λ (l : List ℤ). length l) (put_here planes c w (omega (arith, lt, is.count))) ∙ long
    | inr other ↦ ap (λ (l : List ℤ). length l) (put_there planes c i w other) ∙ is.each i few
  ];
}

pub planes_keep : (bytes : List ℕ) (h : Headers) (d : ℕ) (a : Rect) (c : ℕ) (planes : List (Vec ℤ)) (w : Vec ℤ) (part : Rect) (values : List ℤ) → ArePlanes h a planes → c < h.siz.components
    → IsPut a part (plane_in planes c) w.items values → Agrees part values (sample_of_tiles bytes h d c) → KeepsSamples bytes h d a planes (set planes c w)
planes_keep bytes h d a c planes w part values is lt put agrees i x y few within before = elim (cases_eq i c) [
  | inl same ↦
      let was : ShowsSample bytes h d a c (plane_in planes c) x y = subst (λ n. ShowsSample bytes h d a n (plane_in planes n) x y) same before in
      subst (λ n. ShowsSample bytes h d a n (plane_in (set planes c w) n) x y) (sym same)
      (ap (λ (l : List ℤ). plane_at a l x y) (put_here planes c w (omega (arith, lt, is.count))) ∙ put_keeps a part (plane_in planes c) w.items values (sample_of_tiles bytes h d c) put agrees x y within was)
  | inr other ↦ ap (λ (l : List ℤ). plane_at a l x y) (put_there planes c i w other) ∙ before
]

pub planes_show : (bytes : List ℕ) (h : Headers) (d : ℕ) (a : Rect) (t c : ℕ) (planes : List (Vec ℤ)) (w : Vec ℤ) (part : Rect) (values : List ℤ) → ArePlanes h a planes → c < h.siz.components → IsPartSeen h d t a part
    → IsPut a part (plane_in planes c) w.items values → Agrees part values (sample_of_tiles bytes h d c) → ShowsTileAt bytes h d a t c planes → ShowsTileAt bytes h d a t (c + 1) (set planes c w)
planes_show bytes h d a t c planes w part values is lt seen put agrees before i x y few within inside = elim (cases_eq i c) [
  | inl same ↦
      subst (λ n. ShowsSample bytes h d a n (plane_in (set planes c w) n) x y) (sym same)
      (ap (λ (l : List ℤ). plane_at a l x y) (put_here planes c w (omega (arith, lt, is.count))) ∙ put_at a part (plane_in planes c) w.items values (sample_of_tiles bytes h d c) put agrees x y (seen.all x y within inside) inside)
  | inr other ↦ ap (λ (l : List ℤ). plane_at a l x y) (put_there planes c i w other) ∙ before i x y (omega (arith, few, other)) within inside
]

-- ---- all tiles

-- all tiles are shown: so are all places of a part of the reduced image
pub planes_are : (bytes : List ℕ) (h : Headers) (d : ℕ) (a : Rect) (planes : List (Vec ℤ)) → IsSiz h.siz → ((x y : ℕ) → IsWithin a x y → IsWithin (frame_of h d) x y) → ArePlanes h a planes
    → ((t : ℕ) → t < tile_count h.siz → ShowsTileAt bytes h d a t h.siz.components planes) → lists_of planes ≡ planes_of_tiles bytes h d a
planes_are bytes h d a planes siz part is shows =
    let f : ℕ → List ℤ = λ c. raster a (sample_of_tiles bytes h d c) in
    ext_get_or [] (lists_of planes) (planes_of_tiles bytes h d a) (length-map planes (λ v. v.items) ∙ is.count ∙ sym (length-map-range_with_len f 0 h.siz.components)) (λ c less.
    let lt : c < h.siz.components = omega (arith, less, length-map planes (λ (v : Vec ℤ). v.items), is.count) in
    raster_is a (plane_in planes c) (sample_of_tiles bytes h d c) (is.each c lt) (λ x y place.
    let within : IsWithin a x y = record { left = place.left; right = place.right; upper = place.upper; lower = place.lower } in
    let tile = tile_covers h.siz d x y siz (part x y within) in
    shows tile.0 tile.1.tile c x y lt tile.1.place within)
    ∙ sym (get_or-map-range_with_len f 0 h.siz.components c c [] lt (omega arith)))

-- ---- the packets of all tiles

-- one tile's more
pub read_more : (bytes : List ℕ) (h : Headers) (n : ℕ) (all : List (List PacketPlace)) (places : List PacketPlace) → AreRead bytes h n all → packets_at bytes h n ≡ Ok places → AreRead bytes h (n + 1) (all ++ places ∷ [])
read_more bytes h n all places is read = record {
  count = length-append all (places ∷ []) ∙ ap (λ k. k + 1) is.count;
  each = λ t lt. elim (cases_eq t n) [
    | inl same ↦ ap (packets_at bytes h) same ∙ read ∙ ap (λ (ws : List PacketPlace). Ok ws) (sym (ap (λ k. get_or (all ++ places ∷ []) k []) same ∙ get_or-append_right all (places ∷ []) n n [] is.count (omega arith) ∙ (let z : n - n ≡ 0 = omega arith in ap (λ k. get_or (places ∷ []) k []) z)))
    | inr other ↦ is.each t (omega (arith, lt, other)) ∙ ap (λ (ws : List PacketPlace). Ok ws) (sym (get_or_append_left all (places ∷ []) [] t (omega (arith, lt, other, is.count))))
  ];
}

-- the part of a tile that is shown
pub part_is : (h : Headers) (t d : ℕ) (siz : Siz) (rect part : Rect) → siz ≡ h.siz → rect ≡ tile_area siz t → part ≡ reduced_area rect d → part ≡ shown_area h.siz t d
part_is h t d siz rect part es er e = e ∙ ap (λ (a : Rect). reduced_area a d) (er ∙ ap (λ (s : Siz). tile_area s t) es)

-- the packets of a tile end where the codestream does
pub ends_of : (size : ℕ) (s : TileShape) (places : List PacketPlace) → AllByRecursion (IsPacketPlace size s) places → AllByRecursion (λ w. place_end w ≤ size) places
ends_of size s [] h = tt
ends_of size s (w ∷ places) h = (h.0.within, ends_of size s places h.1)

-- the packets that are kept of a tile
pub tile_places : (bytes : List ℕ) (h : Headers) (n t : ℕ) (all : List (List PacketPlace)) (places : List PacketPlace) → AreRead bytes h n all → t < n → places ≡ get_or all t places → packets_at bytes h t ≡ Ok places
tile_places bytes h n t all places is lt e = is.each t lt ∙ ap (λ (ws : List PacketPlace). Ok ws) (get_or_default all t [] places (omega (arith, lt, is.count)) ∙ sym e)
