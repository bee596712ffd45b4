-- What holds of the headers of a codestream: each tile has layers, codings with magnitude planes, and its data within the bytes.
use Rattle.std.proofs.Common.{◌≡◌, ℕ, zero, suc, ◌+◌, ◌<◌, ◌≤◌, Bool, true, false, eqb, List, [], ◌∷◌, ◌++◌, length, map, sym, ap, subst, arith, lit≤}
use Rattle.std.specs.List.{flat_map, range_with_len, AllByRecursion}
use Rattle.std.proofs.lemmas.Bool.{false≢true}
use Rattle.std.proofs.lemmas.List.{length-append}
use Rattle.std.proofs.lemmas.List.FromFn.{get_or-map-range_with_len, length-map-range_with_len}
use Rattle.jk_marks.specs.declared.siz.Siz.{Siz}
use Rattle.jk_marks.specs.declared.segments.Cod.{Cod}
use Rattle.jk_marks.specs.declared.segments.CodingStyle.{CodingStyle}
use Rattle.jk_marks.specs.declared.head.Heading.TheVariants.{MainHeader}
use Rattle.jk_marks.specs.Markers.{eoc, marker_text}
use Rattle.jk_marks.specs.Coding.{IsCoding}
use Rattle.jk_marks.specs.Siz.{tile_count, IsSiz}
use Rattle.jk_marks.specs.Segments.{Segment, IsCod, IsStyle, cods, cocs_of}
use Rattle.jk_marks.specs.Codestream.{CodestreamPart, Tree, main_text, part_text, part_length, codestream_text, of_tile, first, no_coding, heading_of, IsPart}
use Rattle.jk_geom.specs.TileShapes.{AreCodings, no_coding as no_component}
use Rattle.jk_params.specs.Coding.{style_for, quantisation_for, coding_of, codings_of, HasPlanes}
use Rattle.jk_params.specs.Headers.{Headers, head_segments, cod_for, headers_of, tile_in, packets_of, most_packets, IsHeaders, AreFields, AreHeaders}
use Rattle.jk_params.proofs.GoodLaws.{HasLayers, first_all, or_holds, cods_are, styles_are, cod_style, cod_layers, all_mapped, no_style, coding_is}
use Rattle.jk_params.proofs.PlacesLaws.{places_from, put, place_in, part_text_length}
use Rattle.jk_params.proofs.PartsLaws.{tiles_said, said_at, said_length, fields_with}

all_joined : {X : Type 0} (P : X → Type 0) (xs ys : List X) → AllByRecursion P xs → AllByRecursion P ys → AllByRecursion P (xs ++ ys)
all_joined P [] ys h k = k
all_joined P (x ∷ xs) ys h k = (h.0, all_joined P xs ys h.1 k)

put_all : {X : Type 0} (P : X → Type 0) (b : Bool) (x : X) (xs : List X) → P x → AllByRecursion P xs → AllByRecursion P (put b x xs)
put_all P true x xs h hs = (h, hs)
put_all P false x xs h hs = hs

map_all : {X Y : Type 0} (P : Y → Type 0) (f : X → Y) (xs : List X) → AllByRecursion (λ x. P (f x)) xs → AllByRecursion P (map f xs)
map_all P f [] h = tt
map_all P f (x ∷ xs) h = (h.0, map_all P f xs h.1)

range_all : {X : Type 0} (P : X → Type 0) (f : ℕ → X) (a n : ℕ) → ((i : ℕ) → a ≤ i → i < a + n → P (f i)) → AllByRecursion P (map f (range_with_len a n))
range_all P f a zero h = tt
range_all P f a (suc n) h = (h a (omega arith) (omega arith), range_all P f (a + 1) n (λ i le lt. h i (omega (arith, le)) (omega (arith, lt))))

tile_all : (P : CodestreamPart → Type 0) (t : ℕ) (parts : List CodestreamPart) → AllByRecursion P parts → AllByRecursion P (of_tile t parts)
tile_all P t [] h = tt
tile_all P t (p ∷ parts) h = put_all P (eqb p.tile t) p (of_tile t parts) h.0 (tile_all P t parts h.1)

-- what holds of no segments and of those of each part holds of those of the first
head_all : (siz : Siz) (P : List Segment → Type 0) → P [] → ((p : CodestreamPart) → IsPart siz p → P p.segments) → (parts : List CodestreamPart) → AllByRecursion (IsPart siz) parts → P (head_segments parts)
head_all siz P none some [] h = none
head_all siz P none some (p ∷ parts) h = some p h.0

-- the COD and COC among segments are such
record AreSaid (n : ℕ) (ss : List Segment) : Type 0 where
  every_cod : AllByRecursion (IsCod n) (cods ss)
  styles : (i : ℕ) → AllByRecursion IsStyle (cocs_of i ss)

part_said : (siz : Siz) (p : CodestreamPart) → IsPart siz p → AreSaid siz.components p.segments
part_said siz p is =
    let each = is.well_formed.each in
    let heading = heading_of p.number in
    record { every_cod = cods_are heading siz.components p.segments each; styles = λ i. styles_are heading siz.components i p.segments each }

style_for_is : (n : ℕ) (main head : List Segment) (i : ℕ) → AreSaid n main → AreSaid n head → IsStyle (style_for main head i)
style_for_is n main head i m h =
    let style : Cod → CodingStyle = λ c. c.style in
    let a = cocs_of i head in
    let b = map style (cods head) in
    let c = cocs_of i main in
    let d = map style (cods main) in
    let last = map_all IsStyle style (cods main) (cod_style n main m.every_cod) in
    let third = all_joined IsStyle c d (m.styles i) last in
    let second = all_joined IsStyle b (c ++ d) (map_all IsStyle style (cods head) (cod_style n head h.every_cod)) third in
    or_holds IsStyle no_coding.style (first (a ++ (b ++ (c ++ d)))) no_style (first_all IsStyle (a ++ (b ++ (c ++ d))) (all_joined IsStyle a (b ++ (c ++ d)) (h.styles i) second))

cod_for_has : (n : ℕ) (main head : List Segment) → AreSaid n main → AreSaid n head → HasLayers (cod_for main head)
cod_for_has n main head m h =
    or_holds HasLayers no_coding (first (cods head ++ cods main)) (lit≤ tt, lit≤ tt)
    (first_all HasLayers (cods head ++ cods main) (all_joined HasLayers (cods head) (cods main) (cod_layers n head h.every_cod) (cod_layers n main m.every_cod)))

-- the colour transform is asked for where there are three components
abbrev HasColours : ℕ → Cod → Type 0
HasColours n c = c.colour ≡ true → 3 ≤ n

cod_for_colours : (n : ℕ) (main head : List Segment) → AreSaid n main → AreSaid n head → HasColours n (cod_for main head)
cod_for_colours n main head m h =
    let all : (ss : List Segment) → AllByRecursion (IsCod n) (cods ss) → AllByRecursion (HasColours n) (cods ss) =
    λ ss. all_mapped (HasColours n) (λ (c : Cod). c) (IsCod n) (λ c is. is.colour) (cods ss) in
    or_holds (HasColours n) no_coding (first (cods head ++ cods main)) (λ e. absurd (false≢true e))
    (first_all (HasColours n) (cods head ++ cods main) (all_joined (HasColours n) (cods head) (cods main) (all head h.every_cod) (all main m.every_cod)))

codings_of_are : (n components : ℕ) (main head : List Segment) → 1 ≤ components → components ≤ 4 → AreSaid n main → AreSaid n head → AreCodings (codings_of components main head)
codings_of_are n components main head some few m h =
    let size = length-map-range_with_len (coding_of main head) 0 components in
    record {
      some = omega (arith, size, some);
      few = omega (arith, size, few);
      each = λ c lt.
          let here = get_or-map-range_with_len (coding_of main head) 0 components c c no_component (omega (arith, lt, size)) (omega arith) in
          subst IsCoding (sym here) (coding_is (style_for main head c) (quantisation_for main head c) (style_for_is n main head c m h));
    }

-- the places of a tile's data lie in the text of the parts
abbrev IsWithin : ℕ → ℕ × ℕ → Type 0
IsWithin size p = (p.0 ≤ p.1) × (p.1 ≤ size)

places_within : (at size : ℕ) (parts : List CodestreamPart) (t : ℕ) → at + length (flat_map part_text parts) ≤ size → AllByRecursion (IsWithin size) (places_from at parts t)
unfolding places_from
places_within at size [] t le = tt
places_within at size (p ∷ parts) t le =
    let len = length-append (part_text p) (flat_map part_text parts) in
    let here : IsWithin size (place_in at p) = (omega arith, omega (arith, le, len, part_text_length p)) in
    put_all (IsWithin size) (eqb p.tile t) (place_in at p) (places_from (at + part_length p) parts t) here
    (places_within (at + part_length p) size parts t (omega (arith, le, len, part_text_length p)))

pub sound_headers : (bytes : List ℕ) (h : Headers) → IsHeaders bytes h → AreHeaders (length bytes) h
unfolding headers_of codestream_text
sound_headers bytes h is = subst (AreHeaders (length bytes)) (sym is.says) sound
  where
    tree : Tree
    tree = is.tree

    siz : Siz
    siz = tree.siz

    segments : List Segment
    segments = tree.segments

    parts : List CodestreamPart
    parts = tree.parts

    size : IsSiz siz
    size = is.spelled.header.size

    front : List ℕ
    front = main_text siz segments

    said : AreSaid siz.components segments
    said =
        let each = is.spelled.header.well_formed.each in
        record { every_cod = cods_are MainHeader siz.components segments each; styles = λ i. styles_are MainHeader siz.components i segments each }

    within : length front + length (flat_map part_text parts) ≤ length bytes
    within =
        let text : bytes ≡ front ++ (flat_map part_text parts ++ marker_text eoc) = is.spelled.text in
        omega (arith, ap (λ (x : List ℕ). length x) text, length-append front (flat_map part_text parts ++ marker_text eoc), length-append (flat_map part_text parts) (marker_text eoc))

    fields : (t : ℕ) → t < tile_count siz → AreFields siz.components (length bytes) (tile_in (tiles_said siz segments parts) t)
    fields t lt =
        let head = head_segments (of_tile t parts) in
        let told : AreSaid siz.components head =
        head_all siz (AreSaid siz.components) (record { every_cod = tt; styles = λ i. tt }) (part_said siz) (of_tile t parts) (tile_all (IsPart siz) t parts is.spelled.parts.each) in
        let layers = cod_for_has siz.components segments head said told in
        let places = places_from (length front) parts t in
        let here : AreFields siz.components (length bytes) (fields_with siz segments head places) = record {
          some_layers = layers.0;
          few_layers = layers.1;
          colour = cod_for_colours siz.components segments head said told;
          codings = codings_of_are siz.components siz.components segments head size.some_components size.few_components said told;
          all = length-map-range_with_len (coding_of segments head) 0 siz.components;
          planes = range_all HasPlanes (coding_of segments head) 0 siz.components (λ c le less. is.planes t c lt (omega (arith, less)));
          places = places_within (length front) (length bytes) parts t within;
        } in
        subst (AreFields siz.components (length bytes)) (sym (said_at siz segments parts t lt)) here

    sound : AreHeaders (length bytes) (headers_of tree)
    sound = record {
      siz = size;
      tiles = said_length siz segments parts;
      each = fields;
      few = subst (λ (x : Headers). packets_of x.siz x.tiles ≤ most_packets) is.says is.few;
    }
