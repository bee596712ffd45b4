-- Where the data of a part stand among those of its tile.
use Rattle.std.proofs.Common.{◌≡◌, ℕ, ◌+◌, ◌<◌, Bool, true, false, cond, eqb, List, [], ◌∷◌, ◌++◌, length, length-append, map, get_or, Some, refl, sym, ap, ◌∙◌, arith}
use Rattle.std.specs.Prelude.{slice_get}
use Rattle.std.specs.List.{flat_map, range_with_len}
use Rattle.std.proofs.lemmas.Bool.{eq-eqb}
use Rattle.std.proofs.lemmas.List.{get_or_at}
use Rattle.std.proofs.lemmas.List.FromFn.{get_or-range_with_len}
use Rattle.std.proofs.lemmas.List.Elements.{filter-append}
use Rattle.std.proofs.lemmas.Option.{slice_get-get_or}
use Rattle.std.proofs.Math.ListN.{get_or-map}
use Rattle.jk_marks.specs.Siz.{tile_count}
use Rattle.jk_marks.specs.Codestream.{CodestreamPart, Tree, data_start, part_length, part_text, main_text, of_tile, AreParts}
use Rattle.jk_params.specs.Headers.{TileFields, tile_in, headers_of, no_part}
use Rattle.jk_params.proofs.PlacesLaws.{put, place_in, places_from, places_count, part_text_length}
use Rattle.jk_params.proofs.PartsLaws.{said_at}

put-append : {X : Type 0} (b : Bool) (x : X) (xs ys : List X) → put b x (xs ++ ys) ≡ put b x xs ++ ys
put-append true x xs ys = refl
put-append false x xs ys = refl

parts_length : (p : CodestreamPart) (parts : List CodestreamPart) → length (flat_map part_text (p ∷ parts)) ≡ part_length p + length (flat_map part_text parts)
parts_length p parts = omega (arith, part_text_length p, length-append (part_text p) (flat_map part_text parts))

places_append : (start at : ℕ) (front back : List CodestreamPart) (t : ℕ) → at ≡ start + length (flat_map part_text front) → places_from start (front ++ back) t ≡ places_from start front t ++ places_from at back t
unfolding places_from
places_append start at [] back t e = let same : start ≡ at = omega (arith, e) in ap (λ k. places_from k back t) same
places_append start at (p ∷ front) back t e =
    let next = start + part_length p in
    let more = places_append next at front back t (omega (arith, e, parts_length p front)) in
    ap (λ (xs : List (ℕ × ℕ)). put (eqb p.tile t) (place_in start p) xs) more ∙ put-append (eqb p.tile t) (place_in start p) (places_from next front t) (places_from at back t)

places_own : (at : ℕ) (p : CodestreamPart) (back : List CodestreamPart) → places_from at (p ∷ back) p.tile ≡ place_in at p ∷ places_from (at + part_length p) back p.tile
unfolding places_from
places_own at p back = ap (λ b. put b (place_in at p) (places_from (at + part_length p) back p.tile)) (eq-eqb p.tile p.tile refl)

own_append : (front : List CodestreamPart) (p : CodestreamPart) (back : List CodestreamPart) → of_tile p.tile (front ++ p ∷ back) ≡ of_tile p.tile front ++ p ∷ of_tile p.tile back
own_append front p back =
    filter-append (λ (q : CodestreamPart). eqb q.tile p.tile) front (p ∷ back)
    ∙ ap (λ b. of_tile p.tile front ++ cond b (p ∷ of_tile p.tile back) (of_tile p.tile back)) (eq-eqb p.tile p.tile refl)

-- the number of a part is how many of its tile stand before it
number_is : (parts front : List CodestreamPart) (p : CodestreamPart) (back : List CodestreamPart) → parts ≡ front ++ p ∷ back → map (λ (q : CodestreamPart). q.number) (of_tile p.tile parts) ≡ range_with_len 0 (length (of_tile p.tile parts))
    → p.number ≡ length (of_tile p.tile front)
number_is parts front p back split numbered =
    let k = length (of_tile p.tile front) in
    let own : of_tile p.tile parts ≡ of_tile p.tile front ++ p ∷ of_tile p.tile back = ap (of_tile p.tile) split ∙ own_append front p back in
    let long = ap (λ (ps : List CodestreamPart). length ps) own ∙ length-append (of_tile p.tile front) (p ∷ of_tile p.tile back) in
    let here : get_or (of_tile p.tile parts) k no_part ≡ p = ap (λ (ps : List CodestreamPart). get_or ps k no_part) own ∙ get_or_at (of_tile p.tile front) p (of_tile p.tile back) no_part k refl in
    let number : get_or (map (λ (q : CodestreamPart). q.number) (of_tile p.tile parts)) k 0 ≡ p.number = get_or-map (λ (q : CodestreamPart). q.number) (of_tile p.tile parts) k no_part ∙ ap (λ (q : CodestreamPart). q.number) here in
    let count : get_or (range_with_len 0 (length (of_tile p.tile parts))) k 0 ≡ 0 + k = get_or-range_with_len 0 (length (of_tile p.tile parts)) k 0 (omega (arith, long)) in
    omega (arith, number, count, ap (λ (ns : List ℕ). get_or ns k 0) numbered)

place_found : (start at : ℕ) (parts front : List CodestreamPart) (p : CodestreamPart) (back : List CodestreamPart) → parts ≡ front ++ p ∷ back → at ≡ start + length (flat_map part_text front)
    → map (λ (q : CodestreamPart). q.number) (of_tile p.tile parts) ≡ range_with_len 0 (length (of_tile p.tile parts)) → slice_get (places_from start parts p.tile) p.number ≡ Some (place_in at p)
place_found start at parts front p back split at-is numbered =
    let t = p.tile in
    let before = places_from start front t in
    let after = places_from (at + part_length p) back t in
    let all : places_from start parts t ≡ before ++ place_in at p ∷ after =
    ap (λ (ps : List CodestreamPart). places_from start ps t) split ∙ places_append start at front (p ∷ back) t at-is ∙ ap (λ (xs : List (ℕ × ℕ)). before ++ xs) (places_own at p back) in
    let number : p.number ≡ length before = number_is parts front p back split numbered ∙ sym (places_count start front t) in
    let long = length-append before (place_in at p ∷ after) in
    ap (λ (xs : List (ℕ × ℕ)). slice_get xs p.number) all
    ∙ ap (slice_get (before ++ place_in at p ∷ after)) number
    ∙ slice_get-get_or (before ++ place_in at p ∷ after) (length before) (0, 0) (omega (arith, long))
    ∙ ap (λ (q : ℕ × ℕ). Some q) (get_or_at before (place_in at p) after (0, 0) (length before) refl)

-- what the headers say of the places of a tile
places_said : (tree : Tree) (t : ℕ) → t < tile_count tree.siz → (tile_in (headers_of tree).tiles t).data_places ≡ places_from (length (main_text tree.siz tree.segments)) tree.parts t
unfolding headers_of
places_said tree t lt = ap (λ (f : TileFields). f.data_places) (said_at tree.siz tree.segments tree.parts t lt)

-- The headers say where the data of a part stand, by its tile and its number.
pub part_placed : (tree : Tree) (at : ℕ) (front : List CodestreamPart) (p : CodestreamPart) (back : List CodestreamPart) → AreParts tree.siz tree.parts → tree.parts ≡ front ++ p ∷ back → p.tile < tile_count tree.siz
    → at ≡ length (main_text tree.siz tree.segments) + length (flat_map part_text front) → slice_get (tile_in (headers_of tree).tiles p.tile).data_places p.number ≡ Some (at + data_start p, at + part_length p)
part_placed tree at front p back are split tile at-is =
    ap (λ (ps : List (ℕ × ℕ)). slice_get ps p.number) (places_said tree p.tile tile) ∙ place_found (length (main_text tree.siz tree.segments)) at tree.parts front p back split at-is (are.numbered p.tile)
