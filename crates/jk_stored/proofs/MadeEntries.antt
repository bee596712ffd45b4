-- The entries of each tile of the codestream are those that were read where the outline tells its data.
use Rattle.std.proofs.Common.{◌≡◌, ℕ, zero, suc, ◌+◌, ◌-◌, ◌<◌, List, [], ◌∷◌, ◌++◌, length, length-append, map, get_or, Some, Ok, refl, sym, ap, ◌∙◌, subst, arith, append_assoc, append-nil}
use Rattle.std.specs.Prelude.{slice_get}
use Rattle.std.specs.List.{flat_map, AllByRecursion}
use Rattle.std.proofs.lemmas.Grind.{flat_map-append}
use Rattle.jk_math.specs.declared.rect.Rect.{Rect}
use Rattle.jk_marks.specs.declared.siz.Siz.{Siz}
use Rattle.jk_marks.specs.declared.segments.Cod.{Cod}
use Rattle.jk_marks.specs.declared.coding.Coding.{Coding}
use Rattle.jk_marks.specs.Siz.{tile_count}
use Rattle.jk_marks.specs.Codestream.{CodestreamPart, Tree, IsPart, AreParts, data_start, part_length, part_text, main_text, of_tile}
use Rattle.jk_geom.specs.Rectangles.{meet, tile_area}
use Rattle.jk_geom.specs.Partitions.{reduced_area}
use Rattle.jk_geom.specs.declared.shape.TileShape.{TileShape}
use Rattle.jk_order.specs.PacketOrder.{order}
use Rattle.jk_params.specs.Headers.{Headers, TileFields, tile_in, headers_of}
use Rattle.jk_params.proofs.Laws.{part_placed, part_text_length, said_at, places_from}
use Rattle.jk_params.proofs.PlacesLaws.{places_count}
use Rattle.jk_walk.specs.declared.entries.PacketEntry.{PacketEntry}
use Rattle.jk_walk.specs.TilePackets.{slice_of, shape_in}
use Rattle.jk_walk.specs.WalkReading.{blank_states, names_at, packets_at, each_of}
use Rattle.jk_walk.specs.Entries.{entries_at, packet_entry}
use Rattle.jk_window.specs.Again.{AreAlike}
use Rattle.jk_stored.specs.declared.outline.PartSize.{PartSize}
use Rattle.jk_stored.specs.Outlines.{Front, IsFront, AreFronts, size_of}
use Rattle.jk_stored.specs.Walks.{entries_in}
use Rattle.jk_stored.specs.Contents.{tile_content}
use Rattle.jk_stored.specs.Making.{Made, IsMade, data_in, Shows, AreMade}
use Rattle.jk_stored.proofs.OutlineLaws.{IsAligned, AreAligned, grown_by, grown}
use Rattle.jk_stored.proofs.OutlineHeaders.{with_parts, more_long}
use Rattle.jk_stored.proofs.MadeTiles.{AreMadeOf, only_one, first_of}

-- ---- where the data of a tile stand

places_said : (tree : Tree) (t : ℕ) → t < tile_count tree.siz → (tile_in (headers_of tree).tiles t).data_places ≡ places_from (length (main_text tree.siz tree.segments)) tree.parts t
unfolding headers_of
places_said tree t lt = ap (λ (f : TileFields). f.data_places) (said_at tree.siz tree.segments tree.parts t lt)

count_said : (tree : Tree) (t : ℕ) → t < tile_count tree.siz → length (tile_in (headers_of tree).tiles t).data_places ≡ length (of_tile t tree.parts)
count_said tree t lt = ap (λ (ps : List (ℕ × ℕ)). length ps) (places_said tree t lt) ∙ places_count (length (main_text tree.siz tree.segments)) tree.parts t

-- a part among those of a codestream, behind others
pub record StandsAt (tree : Tree) (p : CodestreamPart) (at : ℕ) : Type 0 where
  pub front : List CodestreamPart
  pub back : List CodestreamPart
  pub split : tree.parts ≡ front ++ p ∷ back
  pub place : at ≡ length (main_text tree.siz tree.segments) + length (flat_map part_text front)

placed : (tree : Tree) (p : CodestreamPart) (t at : ℕ) → AreParts tree.siz tree.parts → StandsAt tree p at → p.tile ≡ t → p.number ≡ 0 → t < tile_count tree.siz → slice_get (tile_in (headers_of tree).tiles t).data_places 0 ≡ Some (at + data_start p, at + part_length p)
placed tree p t at are stands tile number lt =
    let place = part_placed tree at stands.front p stands.back are stands.split (subst (λ k. k < tile_count tree.siz) (sym tile) lt) stands.place in
    (λ i. slice_get (tile_in (headers_of tree).tiles (sym tile i)).data_places (sym number i)) ∙ place

-- The data of a tile's only part stand where the outline and the places tell it.
pub place_known : (tree : Tree) (parts : List CodestreamPart) (p : CodestreamPart) (more : List ℕ) (t at place size : ℕ) → AreParts tree.siz tree.parts → AreParts tree.siz parts → StandsAt tree p at → StandsAt (with_parts tree parts) (grown_by more p) place
    → p.tile ≡ t → p.number ≡ 0 → t < tile_count tree.siz → part_length (grown_by more p) ≡ size → length (tile_in (headers_of tree).tiles t).data_places ≡ 1 → length (of_tile t parts) ≡ length (of_tile t tree.parts)
    → (tile_in (headers_of (with_parts tree parts)).tiles t).data_places ≡ data_in (headers_of tree) t at place size ∷ []
place_known tree parts p more t at place size are again old new tile number lt long one count =
    let whole = with_parts tree parts in
    let before = placed tree p t at are old tile number lt in
    let after = placed whole (grown_by more p) t place again new tile number lt in
    let begun : (get_or (tile_in (headers_of tree).tiles t).data_places 0 (0, 0)).0 - at ≡ data_start p =
    ap (λ (q : ℕ × ℕ). q.0 - at) (first_of (tile_in (headers_of tree).tiles t).data_places (0, 0) (at + data_start p, at + part_length p) before) ∙ (let e : at + data_start p - at ≡ data_start p = omega arith in e) in
    let single : length (tile_in (headers_of whole).tiles t).data_places ≡ 1 = count_said whole t lt ∙ count ∙ sym (count_said tree t lt) ∙ one in
    only_one (tile_in (headers_of whole).tiles t).data_places (place + data_start p, place + part_length (grown_by more p)) single after
    ∙ (λ i. (place + sym begun i, place + long i) ∷ [])

-- ---- the entries of a tile

entries_are : (c : List ℕ) (h : Headers) (t : ℕ) → entries_at c h t ≡ each_of (packet_entry c (tile_in h.tiles t).cod.sop) (names_at c (order (shape_in h.siz (tile_in h.tiles t) t)) (blank_states (shape_in h.siz (tile_in h.tiles t) t) (tile_in h.tiles t).cod.sop (tile_in h.tiles t).cod.eph) (tile_in h.tiles t).data_places)
unfolding entries_at packets_at
entries_are c h t = refl

abbrev shape_by : Siz → Cod → List Coding → ℕ → TileShape
shape_by siz cod codings t = record { rect = tile_area siz t; layers = cod.layers; order = cod.order; codings = codings }

pub entries_known : (c : List ℕ) (g h : Headers) (t : ℕ) (part : ℕ × ℕ) → AreAlike g h → t < tile_count h.siz → (tile_in g.tiles t).data_places ≡ part ∷ []
    → entries_at c g t ≡ entries_in c (shape_in h.siz (tile_in h.tiles t) t) (tile_in h.tiles t).cod.sop (tile_in h.tiles t).cod.eph part
entries_known c g h t part alike lt places =
    let cod = alike.cod t lt in
    let codings = alike.codings t lt in
    entries_are c g t
    ∙ (λ i. each_of (packet_entry c (cod i).sop) (names_at c (order (shape_by (alike.siz i) (cod i) (codings i) t)) (blank_states (shape_by (alike.siz i) (cod i) (codings i) t) (cod i).sop (cod i).eph) (places i)))

content_alike : (c : List ℕ) (g h : Headers) (w : Rect) (d t : ℕ) (entries : List PacketEntry) → AreAlike g h → t < tile_count h.siz
    → tile_content c (shape_in g.siz (tile_in g.tiles t) t) (meet w (reduced_area (tile_area g.siz t) d)) d (tile_in g.tiles t).cod.eph entries
    ≡ tile_content c (shape_in h.siz (tile_in h.tiles t) t) (meet w (reduced_area (tile_area h.siz t) d)) d (tile_in h.tiles t).cod.eph entries
content_alike c g h w d t entries alike lt =
    let cod = alike.cod t lt in
    let codings = alike.codings t lt in
    λ i. tile_content c (shape_by (alike.siz i) (cod i) (codings i) t) (meet w (reduced_area (tile_area (alike.siz i) t) d)) d (cod i).eph entries

-- ---- all tiles

-- What is known of a tile of the codestream, and of the data that are made of it.
pub record IsKnown (c : List ℕ) (g h : Headers) (w : Rect) (d t : ℕ) (m : Made) : Type 0 where
  pub entries : List PacketEntry
  pub read : entries_at c g t ≡ Ok entries
  pub content : m.content ≡ tile_content c (shape_in g.siz (tile_in g.tiles t) t) (meet w (reduced_area (tile_area g.siz t) d)) d (tile_in g.tiles t).cod.eph entries
  pub part : ℕ × ℕ
  pub place : (tile_in g.tiles t).data_places ≡ part ∷ []

abbrev pub AreKnown : (c : List ℕ) (g h : Headers) (w : Rect) (d t : ℕ) → List Made → Type 0
AreKnown c g h w d t [] = Unit {0}
AreKnown c g h w d t (m ∷ made) = IsKnown c g h w d t m × AreKnown c g h w d (t + 1) made

behind_part : (front : List CodestreamPart) (p : CodestreamPart) (at n k : ℕ) → at ≡ k + length (flat_map part_text front) → n ≡ length (part_text p) → at + n ≡ k + length (flat_map part_text (front ++ p ∷ []))
behind_part front p at n k place long =
    let all = ap (λ (xs : List ℕ). length xs) (flat_map-append part_text front (p ∷ []) ∙ ap (λ (xs : List ℕ). flat_map part_text front ++ xs) (append-nil (part_text p))) in
    omega (arith, place, long, all, length-append (flat_map part_text front) (part_text p))

grown_length : (c : List ℕ) (at : ℕ) (p : CodestreamPart) (f : Front) → IsFront c at f → IsAligned p f → part_length (grown_by (slice_of c (at + length f.bytes, at + f.size)) p) ≡ f.size
grown_length c at p f is al =
    let more = slice_of c (at + length f.bytes, at + f.size) in
    let own = al.long in
    let fits = is.part in
    let long = more_long c at f is in
    omega (arith, own, fits, long, length-append p.content more)

pub all_known : (c : List ℕ) (tree : Tree) (parts : List CodestreamPart) (w : Rect) (d t at place stop : ℕ) (first now : List CodestreamPart) (left : List CodestreamPart) (fronts : List Front) (made : List Made)
    → AreParts tree.siz tree.parts → AreParts tree.siz parts → AreAlike (headers_of (with_parts tree parts)) (headers_of tree) → ((k : ℕ) → length (of_tile k parts) ≡ length (of_tile k tree.parts))
    → tree.parts ≡ first ++ left → parts ≡ now ++ grown c place fronts left → at ≡ length (main_text tree.siz tree.segments) + length (flat_map part_text first) → place ≡ length (main_text tree.siz tree.segments) + length (flat_map part_text now)
    → AllByRecursion (IsPart tree.siz) left → AreFronts c place fronts stop → AreAligned left fronts → map (λ (m : Made). m.size) made ≡ map size_of fronts → AreMadeOf t left made
    → (o : List ℕ) → AreMade (λ i a _ m. IsMade o (headers_of tree) i a m) t at place made → AreMade (Shows c (headers_of tree) w d) t at place made → (headers_of tree).siz ≡ tree.siz
    → AreKnown c (headers_of (with_parts tree parts)) (headers_of tree) w d t made
all_known c tree parts w d t at place stop first now [] fronts [] are again alike count split new at-is place-is each in_code al sizes of-parts o heads shows siz = tt
all_known c tree parts w d t at place stop first now [] fronts (m ∷ made) are again alike count split new at-is place-is each in_code al sizes of-parts o heads shows siz = absurd of-parts
all_known c tree parts w d t at place stop first now (p ∷ left) [] made are again alike count split new at-is place-is each in_code al sizes of-parts o heads shows siz = absurd al
all_known c tree parts w d t at place stop first now (p ∷ left) (f ∷ fronts) [] are again alike count split new at-is place-is each in_code al sizes of-parts o heads shows siz = absurd of-parts
all_known c tree parts w d t at place stop first now (p ∷ left) (f ∷ fronts) (m ∷ made) are again alike count split new at-is place-is each in_code al sizes of-parts o heads shows siz =
    let h = headers_of tree in
    let more = slice_of c (place + length f.bytes, place + f.size) in
    let q = grown_by more p in
    let size : m.size ≡ size_of f = cc in
    let rest : map (λ (u : Made). u.size) made ≡ map size_of fronts = cc in
    let lt : t < tile_count tree.siz = subst (λ k. k < tile_count tree.siz) of-parts.0.tile each.0.tile in
    let long : part_length q ≡ m.size.size = grown_length c place p f in_code.0 al.0 ∙ sym (ap (λ (s : PartSize). s.size) size) in
    let old : StandsAt tree p at = record { front = first; back = left; split = split; place = at-is } in
    let anew : StandsAt (with_parts tree parts) q place = record { front = now; back = grown c (place + f.size) fronts left; split = new; place = place-is } in
    let places = place_known tree parts p more t at place m.size.size are again old anew of-parts.0.tile of-parts.0.number lt long heads.0.one (count t) in
    let held : m.size.held ≡ length (part_text p) = ap (λ (s : PartSize). s.held) size ∙ sym (part_text_length p ∙ al.0.long) in
    let full : m.size.size ≡ length (part_text q) = sym (part_text_length q ∙ long) in
    let far : place + f.size ≡ place + m.size.size = ap (λ (s : PartSize). place + s.size) (sym size) in (
      record {
        entries = shows.0.0;
        read = entries_known c (headers_of (with_parts tree parts)) h t (data_in h t at place m.size.size) alike (subst (λ (s : Siz). t < tile_count s) (sym siz) lt) places ∙ shows.0.1;
        content = shows.0.2 ∙ sym (content_alike c (headers_of (with_parts tree parts)) h w d t shows.0.0 alike (subst (λ (s : Siz). t < tile_count s) (sym siz) lt));
        part = data_in h t at place m.size.size;
        place = places;
      },
      all_known c tree parts w d (t + 1) (at + m.size.held) (place + m.size.size) stop (first ++ p ∷ []) (now ++ q ∷ []) left fronts made are again alike count
          (split ∙ sym (append_assoc first (p ∷ []) left))
          (new ∙ ap (λ k. now ++ q ∷ grown c k fronts left) far ∙ sym (append_assoc now (q ∷ []) (grown c (place + m.size.size) fronts left)))
          (behind_part first p at m.size.held (length (main_text tree.siz tree.segments)) at-is held)
          (behind_part now q place m.size.size (length (main_text tree.siz tree.segments)) place-is full)
          each.1 (subst (λ k. AreFronts c k fronts stop) far in_code.1) al.1 rest of-parts.1 o heads.1 shows.1 siz,
    )

-- one of them
pub known_at : (c : List ℕ) (g h : Headers) (w : Rect) (d t : ℕ) (made : List Made) (none : Made) (i : ℕ) → AreKnown c g h w d t made → i < length made → IsKnown c g h w d (t + i) (get_or made i none)
known_at c g h w d t [] none i known lt = absurd (omega (arith, lt))
known_at c g h w d t (m ∷ made) none zero known lt = subst (λ k. IsKnown c g h w d k m) (let e : t ≡ t + 0 = omega arith in e) known.0
known_at c g h w d t (m ∷ made) none (suc i) known lt =
    subst (λ k. IsKnown c g h w d k (get_or made i none)) (let e : t + 1 + i ≡ t + suc i = omega arith in e) (known_at c g h w d (t + 1) made none i known.1 (omega (arith, lt)))
