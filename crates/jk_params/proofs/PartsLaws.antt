-- The fields of all tiles when one part more is read.
use Rattle.std.proofs.Common.{◌≡◌, ◌≢◌, ℕ, zero, suc, ◌+◌, ◌<◌, ◌≤◌, Bool, true, false, eqb, List, [], ◌∷◌, ◌++◌, length, get_or, set, map, Some, Ok, refl, sym, ap, subst, ◌∙◌, append_assoc, arith, inl, inr}
use Rattle.std.specs.List.{flat_map, range_with_len}
use Rattle.std.proofs.lemmas.Bool.{eqb-true, eqb-false, eq-eqb}
use Rattle.std.proofs.lemmas.List.{length-set, get_or-set_same, get_or-set_other, get_or-map, ext_get_or, append-nil, nil_from_length}
use Rattle.std.proofs.lemmas.List.FromFn.{get_or-map-range_with_len, length-map-range_with_len}
use Rattle.jk_math.specs.Answer.{◌>>=◌}
use Rattle.jk_math.specs.Steps.{bind_then, chosen, ok_is}
use Rattle.jk_marks.specs.declared.siz.Siz.{Siz}
use Rattle.jk_marks.specs.declared.coding.Coding.{Coding}
use Rattle.jk_marks.specs.declared.segments.Cod.{Cod}
use Rattle.jk_marks.specs.Siz.{tile_count}
use Rattle.jk_marks.specs.Segments.{Segment, cods}
use Rattle.jk_marks.specs.Codestream.{CodestreamPart, Tree, main_text, part_text, first, head_of, main_of, or_else, no_coding, of_tile, place_of}
use Rattle.jk_params.specs.Coding.{coding_of, codings_of, coding_with, HasPlanes}
use Rattle.jk_params.specs.CodingReading.{style_in, quantisation_in, coding_at, codings_from, codings_at, planes_at}
use Rattle.jk_params.specs.Headers.{TileFields, head_segments, cod_for, fields_of, tile_in, no_fields}
use Rattle.jk_params.specs.HeadersReading.{parts_seen, tiles_with, with_place, with_coding, place_at}
use Rattle.jk_params.proofs.CodingLaws.{planes_found, planes_again, few_exponents, coding_same}
use Rattle.jk_params.proofs.PlacesLaws.{places_from, places_are, put, place_in, places_more, places_count, of_tile_more}

abbrev pub tree_of : Siz → List Segment → List CodestreamPart → Tree
tree_of siz segments parts = record { siz = siz; segments = segments; parts = parts }

-- the fields of all tiles, by a main header and parts
abbrev pub tiles_said : Siz → List Segment → List CodestreamPart → List TileFields
tiles_said siz segments parts = map (fields_of (tree_of siz segments parts)) (range_with_len 0 (tile_count siz))

abbrev pub fields_with : Siz → List Segment → List Segment → List (ℕ × ℕ) → TileFields
fields_with siz segments head places = record { cod = cod_for segments head; codings = codings_of siz.components segments head; data_places = places }

fields_are : (siz : Siz) (segments : List Segment) (parts : List CodestreamPart) (t : ℕ)
    → fields_of (tree_of siz segments parts) t ≡ fields_with siz segments (head_segments (of_tile t parts)) (places_from (length (main_text siz segments)) parts t)
unfolding fields_of
fields_are siz segments parts t =
    ap (λ (places : List (ℕ × ℕ)). fields_with siz segments (head_segments (of_tile t parts)) places) (places_are (tree_of siz segments parts) t)

pub said_at : (siz : Siz) (segments : List Segment) (parts : List CodestreamPart) (t : ℕ) → t < tile_count siz
    → tile_in (tiles_said siz segments parts) t ≡ fields_with siz segments (head_segments (of_tile t parts)) (places_from (length (main_text siz segments)) parts t)
said_at siz segments parts t lt = get_or-map-range_with_len (fields_of (tree_of siz segments parts)) 0 (tile_count siz) t t no_fields lt (omega arith) ∙ fields_are siz segments parts t

pub said_length : (siz : Siz) (segments : List Segment) (parts : List CodestreamPart) → length (tiles_said siz segments parts) ≡ tile_count siz
said_length siz segments parts = length-map-range_with_len (fields_of (tree_of siz segments parts)) 0 (tile_count siz)

-- so many parts of a tile were seen
pub seen_at : (siz : Siz) (segments : List Segment) (parts : List CodestreamPart) (t : ℕ) → t < tile_count siz → get_or (parts_seen (tiles_said siz segments parts)) t 0 ≡ length (of_tile t parts)
seen_at siz segments parts t lt =
    let tiles = tiles_said siz segments parts in
    let count : TileFields → ℕ = λ f. length f.data_places in
    get_or-map count tiles t no_fields 0 (omega (arith, lt, said_length siz segments parts)) ∙ ap count (said_at siz segments parts t lt) ∙ places_count (length (main_text siz segments)) parts t

pub other_parts : (t : ℕ) (parts : List CodestreamPart) (p : CodestreamPart) → eqb p.tile t ≡ false → of_tile t (parts ++ p ∷ []) ≡ of_tile t parts
other_parts t parts p e = of_tile_more t parts p ∙ ap (λ b. of_tile t parts ++ put b p []) e ∙ append-nil (of_tile t parts)

pub own_parts : (t : ℕ) (parts : List CodestreamPart) (p : CodestreamPart) → eqb p.tile t ≡ true → of_tile t (parts ++ p ∷ []) ≡ of_tile t parts ++ p ∷ []
own_parts t parts p e = of_tile_more t parts p ∙ ap (λ b. of_tile t parts ++ put b p []) e

other_places : (at end t : ℕ) (parts : List CodestreamPart) (p : CodestreamPart) → end ≡ at + length (flat_map part_text parts) → eqb p.tile t ≡ false → places_from at (parts ++ p ∷ []) t ≡ places_from at parts t
other_places at end t parts p end-is e =
    places_more at end parts p t end-is ∙ ap (λ b. places_from at parts t ++ put b (place_in end p) []) e ∙ append-nil (places_from at parts t)

own_places : (at end : ℕ) (parts : List CodestreamPart) (p : CodestreamPart) → end ≡ at + length (flat_map part_text parts) → places_from at (parts ++ p ∷ []) p.tile ≡ places_from at parts p.tile ++ place_in end p ∷ []
own_places at end parts p end-is = places_more at end parts p p.tile end-is ∙ ap (λ b. places_from at parts p.tile ++ put b (place_in end p) []) (eq-eqb p.tile p.tile refl)

pub head_kept : (xs : List CodestreamPart) (p : CodestreamPart) → 0 < length xs → head_segments (xs ++ p ∷ []) ≡ head_segments xs
head_kept [] p lt = absurd (omega (arith, lt))
head_kept (x ∷ xs) p lt = refl

pub head_first : (t : ℕ) (parts : List CodestreamPart) (p : CodestreamPart) → eqb p.tile t ≡ true → length (of_tile t parts) ≡ 0 → head_segments (of_tile t (parts ++ p ∷ [])) ≡ p.segments
head_first t parts p e none = ap head_segments (own_parts t parts p e) ∙ ap (λ (x : List CodestreamPart). head_segments (x ++ p ∷ [])) (nil_from_length (of_tile t parts) none)

pub head_later : (t : ℕ) (parts : List CodestreamPart) (p : CodestreamPart) → eqb p.tile t ≡ true → 0 < length (of_tile t parts) → head_segments (of_tile t (parts ++ p ∷ [])) ≡ head_segments (of_tile t parts)
head_later t parts p e some = ap head_segments (own_parts t parts p e) ∙ head_kept (of_tile t parts) p some

pub head_other : (t : ℕ) (parts : List CodestreamPart) (p : CodestreamPart) → eqb p.tile t ≡ false → head_segments (of_tile t (parts ++ p ∷ [])) ≡ head_segments (of_tile t parts)
head_other t parts p e = ap head_segments (other_parts t parts p e)

-- a tile's new fields in their place
said_set : (siz : Siz) (segments : List Segment) (parts : List CodestreamPart) (p : CodestreamPart) (at : ℕ) (x : TileFields) → p.tile < tile_count siz
    → at ≡ length (main_text siz segments) + length (flat_map part_text parts)
    → x ≡ fields_with siz segments (head_segments (of_tile p.tile (parts ++ p ∷ []))) (places_from (length (main_text siz segments)) (parts ++ p ∷ []) p.tile)
    → set (tiles_said siz segments parts) p.tile x ≡ tiles_said siz segments (parts ++ p ∷ [])
said_set siz segments parts p at x tile at-is x-is =
    let len = said_length siz segments parts in
    ext_get_or no_fields (set old p.tile x) new (length-set old p.tile x ∙ len ∙ sym (said_length siz segments (parts ++ p ∷ [])))
    (λ t lt. go t (omega (arith, lt, length-set old p.tile x, len)) (eqb p.tile t) refl)
  where
    start : ℕ
    start = length (main_text siz segments)

    old : List TileFields
    old = tiles_said siz segments parts

    new : List TileFields
    new = tiles_said siz segments (parts ++ p ∷ [])

    go : (t : ℕ) → t < tile_count siz → (b : Bool) → eqb p.tile t ≡ b → get_or (set old p.tile x) t no_fields ≡ get_or new t no_fields
    go t lt true e =
        let same : p.tile ≡ t = eqb-true p.tile t e in
        let inside : p.tile < length old = omega (arith, tile, said_length siz segments parts) in
        let here : get_or (set old p.tile x) p.tile no_fields ≡ get_or new p.tile no_fields =
        get_or-set_same old p.tile x no_fields inside ∙ x-is ∙ sym (said_at siz segments (parts ++ p ∷ []) p.tile tile) in
        subst (λ k. get_or (set old p.tile x) k no_fields ≡ get_or new k no_fields) same here
    go t lt false e =
        let differs : p.tile ≢ t = eqb-false p.tile t e in
        get_or-set_other old p.tile t x no_fields (λ z. differs (sym z)) ∙ said_at siz segments parts t lt
        ∙ ap (λ (h : List Segment). fields_with siz segments h (places_from start parts t)) (sym (head_other t parts p e))
        ∙ ap (λ (ps : List (ℕ × ℕ)). fields_with siz segments (head_segments (of_tile t (parts ++ p ∷ []))) ps) (sym (other_places start at t parts p at-is e))
        ∙ sym (said_at siz segments (parts ++ p ∷ []) t lt)

-- the codings that are read are those by the segments
codings_said : (siz : Siz) (segments head : List Segment) (more c : ℕ) (done ks : List Coding) → c + more ≤ 4 → codings_from (main_of siz segments) (head_of head) more c done ≡ Ok ks
    → (ks ≡ done ++ map (coding_of segments head) (range_with_len c more)) × ((i : ℕ) → c ≤ i → i < c + more → HasPlanes (coding_of segments head i))
unfolding codings_from
codings_said siz segments head zero c done ks few e = (sym (ok_is done ks e) ∙ sym (append-nil done), λ i le lt. absurd (omega (arith, le, lt)))
codings_said siz segments head (suc more) c done ks few e =
    let main = main_of siz segments in
    let tile = head_of head in
    let coding = coding_with (style_in main tile c) (quantisation_in main tile c) in
    bind_then (coding_at main (Some tile) c) (λ k. codings_from main tile more (c + 1) (done ++ k ∷ [])) ks e (λ k s e.
    let g = planes_found coding k (few_exponents (style_in main tile c) (quantisation_in main tile c)) s in
    let k-is : k ≡ coding_of segments head c = g.0 ∙ coding_same siz segments head main tile c (omega (arith, few)) refl refl in
    let rest = codings_said siz segments head more (c + 1) (done ++ k ∷ []) ks (omega (arith, few)) e in
    let others = map (coding_of segments head) (range_with_len (c + 1) more) in
    (rest.0 ∙ append_assoc done (k ∷ []) others ∙ ap (λ (x : Coding). done ++ x ∷ others) k-is, λ i le lt. go i le lt (eqb c i) refl (subst HasPlanes k-is g.1) rest.1))
  where
    go : (i : ℕ) → c ≤ i → i < c + suc more → (b : Bool) → eqb c i ≡ b → HasPlanes (coding_of segments head c) → ((j : ℕ) → c + 1 ≤ j → j < c + 1 + more → HasPlanes (coding_of segments head j))
        → HasPlanes (coding_of segments head i)
    go i le lt true e here rest = subst (λ k. HasPlanes (coding_of segments head k)) (eqb-true c i e) here
    go i le lt false e here rest =
        let differs = eqb-false c i e in
        rest i (omega (arith, le, differs)) (omega (arith, lt))

codings_again : (siz : Siz) (segments head : List Segment) (more c : ℕ) (done : List Coding) → c + more ≤ 4 → ((i : ℕ) → c ≤ i → i < c + more → HasPlanes (coding_of segments head i))
    → codings_from (main_of siz segments) (head_of head) more c done ≡ Ok (done ++ map (coding_of segments head) (range_with_len c more))
unfolding codings_from
codings_again siz segments head zero c done few has = ap Ok (sym (append-nil done))
codings_again siz segments head (suc more) c done few has =
    let main = main_of siz segments in
    let tile = head_of head in
    let k = coding_of segments head c in
    let s : coding_at main (Some tile) c ≡ Ok k = ap planes_at (coding_same siz segments head main tile c (omega (arith, few)) refl refl) ∙ planes_again k (has c (omega arith) (omega arith)) in
    let rest = codings_again siz segments head more (c + 1) (done ++ k ∷ []) (omega (arith, few)) (λ i le lt. has i (omega (arith, le)) (omega (arith, lt))) in
    rw s (rest ∙ ap Ok (append_assoc done (k ∷ []) (map (coding_of segments head) (range_with_len (c + 1) more))))

-- a component has a coding for each of its sub-bands
abbrev pub HavePlanes : Siz → (main head : List Segment) → Type 0
HavePlanes siz main head = (c : ℕ) → c < siz.components → HasPlanes (coding_of main head c)

pub codings_found : (siz : Siz) (segments head : List Segment) (ks : List Coding) → siz.components ≤ 4 → codings_at (main_of siz segments) (head_of head) ≡ Ok ks
    → (ks ≡ codings_of siz.components segments head) × HavePlanes siz segments head
codings_found siz segments head ks few e =
    let g = codings_said siz segments head siz.components 0 [] ks (omega (arith, few)) e in
    (g.0, λ c lt. g.1 c (omega arith) (omega (arith, lt)))

pub codings_only : (siz : Siz) (segments head : List Segment) → siz.components ≤ 4 → HavePlanes siz segments head
    → codings_at (main_of siz segments) (head_of head) ≡ Ok (codings_of siz.components segments head)
codings_only siz segments head few has = codings_again siz segments head siz.components 0 [] (omega (arith, few)) (λ i le lt. has i (omega (arith, lt)))

first_joined : {X : Type 0} (d : X) (xs ys : List X) → or_else d (first (xs ++ ys)) ≡ or_else (or_else d (first ys)) (first xs)
first_joined d [] ys = refl
first_joined d (x ∷ xs) ys = refl

-- the fields of a tile of which the first part is read
first_fields : (siz : Siz) (segments : List Segment) (parts : List CodestreamPart) (p : CodestreamPart) (at : ℕ) (ks : List Coding) → p.tile < tile_count siz → length (of_tile p.tile parts) ≡ 0
    → at ≡ length (main_text siz segments) + length (flat_map part_text parts) → ks ≡ codings_of siz.components segments p.segments
    → with_place (with_coding (tile_in (tiles_said siz segments parts) p.tile) (or_else (main_of siz segments).cod (head_of p.segments).cod) ks) (place_at at (place_of p))
    ≡ fields_with siz segments (head_segments (of_tile p.tile (parts ++ p ∷ []))) (places_from (length (main_text siz segments)) (parts ++ p ∷ []) p.tile)
first_fields siz segments parts p at ks tile none at-is ks-is =
    let start = length (main_text siz segments) in
    let place = place_in at p in
    let make : Cod → List Coding → List (ℕ × ℕ) → TileFields = λ c k ps. record { cod = c; codings = k; data_places = ps } in
    let cod-is : or_else (main_of siz segments).cod (head_of p.segments).cod ≡ cod_for segments p.segments = sym (first_joined no_coding (cods p.segments) (cods segments)) in
    let old = ap (λ (f : TileFields). f.data_places) (said_at siz segments parts p.tile tile) in
    ap (λ (ps : List (ℕ × ℕ)). make (or_else (main_of siz segments).cod (head_of p.segments).cod) ks (ps ++ place ∷ [])) old
    ∙ ap (λ (ps : List (ℕ × ℕ)). make (or_else (main_of siz segments).cod (head_of p.segments).cod) ks ps) (sym (own_places start at parts p at-is))
    ∙ ap (λ (c : Cod). make c ks (places_from start (parts ++ p ∷ []) p.tile)) cod-is
    ∙ ap (λ (k : List Coding). make (cod_for segments p.segments) k (places_from start (parts ++ p ∷ []) p.tile)) ks-is
    ∙ ap (λ (h : List Segment). fields_with siz segments h (places_from start (parts ++ p ∷ []) p.tile)) (sym (head_first p.tile parts p (eq-eqb p.tile p.tile refl) none))

-- the fields of a tile of which a later part is read
later_fields : (siz : Siz) (segments : List Segment) (parts : List CodestreamPart) (p : CodestreamPart) (at : ℕ) → p.tile < tile_count siz → 0 < length (of_tile p.tile parts)
    → at ≡ length (main_text siz segments) + length (flat_map part_text parts)
    → with_place (tile_in (tiles_said siz segments parts) p.tile) (place_at at (place_of p))
    ≡ fields_with siz segments (head_segments (of_tile p.tile (parts ++ p ∷ []))) (places_from (length (main_text siz segments)) (parts ++ p ∷ []) p.tile)
later_fields siz segments parts p at tile some at-is =
    let start = length (main_text siz segments) in
    ap (λ (f : TileFields). with_place f (place_in at p)) (said_at siz segments parts p.tile tile)
    ∙ ap (λ (ps : List (ℕ × ℕ)). fields_with siz segments (head_segments (of_tile p.tile parts)) ps) (sym (own_places start at parts p at-is))
    ∙ ap (λ (h : List Segment). fields_with siz segments h (places_from start (parts ++ p ∷ []) p.tile)) (sym (head_later p.tile parts p (eq-eqb p.tile p.tile refl) some))

-- the tiles with a part that was read
pub tiles_found : (siz : Siz) (segments : List Segment) (parts : List CodestreamPart) (p : CodestreamPart) (at : ℕ) (more : List TileFields) → siz.components ≤ 4
    → p.tile < tile_count siz → p.number ≡ length (of_tile p.tile parts)
    → at ≡ length (main_text siz segments) + length (flat_map part_text parts) → tiles_with (main_of siz segments) at (place_of p) (tiles_said siz segments parts) ≡ Ok more
    → (more ≡ tiles_said siz segments (parts ++ p ∷ [])) × (p.number ≡ 0 → HavePlanes siz segments p.segments)
unfolding tiles_with
tiles_found siz segments parts p at more few tile number at-is e =
    let main = main_of siz segments in
    let head = head_of p.segments in
    let tiles = tiles_said siz segments parts in
    let old = tile_in tiles p.tile in
    let place = place_at at (place_of p) in
    let new : List Coding → TileFields = λ ks. with_place (with_coding old (or_else main.cod head.cod) ks) place in
    elim (chosen (eqb p.number 0) (codings_at main head >>= λ ks. Ok (set tiles p.tile (new ks))) (Ok (set tiles p.tile (with_place old place))) (Ok more) e) [
      | inl w ↦
          bind_then (codings_at main head) (λ ks. Ok (set tiles p.tile (new ks))) more w.1 (λ ks s e.
          let g = codings_found siz segments p.segments ks few s in
          let none : length (of_tile p.tile parts) ≡ 0 = sym number ∙ eqb-true p.number 0 w.0 in
          (sym (ok_is _ more e) ∙ said_set siz segments parts p at (new ks) tile at-is (first_fields siz segments parts p at ks tile none at-is g.0), λ _. g.1))
      | inr w ↦
          let differs = eqb-false p.number 0 w.0 in
          let some : 0 < length (of_tile p.tile parts) = omega (arith, differs, number) in
          (sym (ok_is _ more w.1) ∙ said_set siz segments parts p at (with_place old place) tile at-is (later_fields siz segments parts p at tile some at-is), λ z. absurd (differs z))
    ]

-- the tiles with a part that stands there
pub tiles_only : (siz : Siz) (segments : List Segment) (parts : List CodestreamPart) (p : CodestreamPart) (at : ℕ) → siz.components ≤ 4 → p.tile < tile_count siz → p.number ≡ length (of_tile p.tile parts)
    → at ≡ length (main_text siz segments) + length (flat_map part_text parts) → (p.number ≡ 0 → HavePlanes siz segments p.segments)
    → tiles_with (main_of siz segments) at (place_of p) (tiles_said siz segments parts) ≡ Ok (tiles_said siz segments (parts ++ p ∷ []))
unfolding tiles_with
tiles_only siz segments parts p at few tile number at-is has = go (eqb p.number 0) refl
  where
    tiles : List TileFields
    tiles = tiles_said siz segments parts

    go : (b : Bool) → eqb p.number 0 ≡ b → tiles_with (main_of siz segments) at (place_of p) (tiles_said siz segments parts) ≡ Ok (tiles_said siz segments (parts ++ p ∷ []))
    go true e =
        let zero-is = eqb-true p.number 0 e in
        let ks = codings_of siz.components segments p.segments in
        let s = codings_only siz segments p.segments few (has zero-is) in
        let none : length (of_tile p.tile parts) ≡ 0 = sym number ∙ zero-is in
        rw (e, s) (ap Ok (said_set siz segments parts p at _ tile at-is (first_fields siz segments parts p at ks tile none at-is refl)))
    go false e =
        let differs = eqb-false p.number 0 e in
        let some : 0 < length (of_tile p.tile parts) = omega (arith, differs, number) in
        rw e (ap Ok (said_set siz segments parts p at _ tile at-is (later_fields siz segments parts p at tile some at-is)))
