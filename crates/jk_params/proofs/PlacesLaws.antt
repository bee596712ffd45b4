-- Where the data of tile-parts stand, and the parts of a tile, with one part more.
use Rattle.std.proofs.Common.{◌≡◌, ℕ, suc, ◌+◌, ◌-◌, Bool, true, false, cond, eqb, List, [], ◌∷◌, ◌++◌, length, map, take, drop, get_or, sum_by, filter, refl, sym, ap, ◌∙◌, append_assoc, arith}
use Rattle.std.specs.List.{flat_map, range_with_len}
use Rattle.std.proofs.lemmas.List.{drop_at, take_at, length-append, map-id}
use Rattle.std.proofs.lemmas.List.Elements.{filter-append}
use Rattle.std.proofs.lemmas.List.Sums.{sum_by-cons}
use Rattle.byteorder.specs.Endian.{big_bytes}
use Rattle.jk_marks.specs.Markers.{sot, sod, eoc, marker_text}
use Rattle.jk_marks.specs.Segments.{segment_text}
use Rattle.jk_marks.specs.Codestream.{CodestreamPart, Tree, main_text, part_text, data_start, part_length, psot, codestream_text, of_tile}
use Rattle.jk_params.specs.Headers.{part_in, data_place, tile_data_places, no_part}

-- x before the others, if the test says so
abbrev pub put : {X : Type 0} → Bool → X → List X → List X
put b x xs = cond b (x ∷ xs) xs

put_joined : {X : Type 0} (b : Bool) (x : X) (xs ys : List X) → put b x (xs ++ ys) ≡ put b x xs ++ ys
put_joined true x xs ys = refl
put_joined false x xs ys = refl

put_length : {X Y : Type 0} (b : Bool) (x : X) (y : Y) (xs : List X) (ys : List Y) → length xs ≡ length ys → length (put b x xs) ≡ length (put b y ys)
put_length true x y xs ys e = ap suc e
put_length false x y xs ys e = e

put_mapped : {X Y Z : Type 0} (f : X → Z) (g : Y → Z) (b : Bool) (x : X) (y : Y) (xs : List X) (ys : List Y) → f x ≡ g y → map f xs ≡ map g ys → map f (put b x xs) ≡ map g (put b y ys)
put_mapped f g true x y xs ys e h = ap (λ z. z ∷ map f xs) e ∙ ap (λ (zs : List _). g y ∷ zs) h
put_mapped f g false x y xs ys e h = h

-- where the data of a part stand that begins at a place
abbrev pub place_in : ℕ → CodestreamPart → ℕ × ℕ
place_in at p = (at + data_start p, at + part_length p)

-- where the data of the parts of tile t stand, among parts that begin at a place, part by part
unfoldable pub places_from : ℕ → List CodestreamPart → ℕ → List (ℕ × ℕ)
places_from at [] t = []
places_from at (p ∷ parts) t = put (eqb p.tile t) (place_in at p) (places_from (at + part_length p) parts t)

-- the same by the numbers of the parts
by_number : (parts : List CodestreamPart) (at t k : ℕ) (place : ℕ → ℕ × ℕ) (own : ℕ → Bool)
    → ((i : ℕ) → place (k + i) ≡ place_in (at + sum_by part_length (take i parts)) (get_or parts i no_part)) → ((i : ℕ) → own (k + i) ≡ eqb (get_or parts i no_part).tile t)
    → map place (filter own (range_with_len k (length parts))) ≡ places_from at parts t
unfolding places_from
by_number [] at t k place own place-is own-is = refl
by_number (p ∷ parts) at t k place own place-is own-is =
    let here : k + 0 ≡ k = omega arith in
    let begins : at + 0 ≡ at = omega arith in
    let first : place k ≡ place_in at p = ap place (sym here) ∙ place-is 0 ∙ ap (λ n. place_in n p) begins in
    let mine : own k ≡ eqb p.tile t = ap own (sym here) ∙ own-is 0 in
    let rest = by_number parts (at + part_length p) t (k + 1) place own
    (λ i. (let next : k + 1 + i ≡ k + suc i = omega arith in
    let sum : sum_by part_length (p ∷ take i parts) ≡ part_length p + sum_by part_length (take i parts) = sum_by-cons part_length p (take i parts) in
    let far : at + sum_by part_length (p ∷ take i parts) ≡ at + part_length p + sum_by part_length (take i parts) = omega (arith, sum) in
    ap place next ∙ place-is (suc i) ∙ ap (λ n. place_in n (get_or parts i no_part)) far))
    (λ i. (let next : k + 1 + i ≡ k + suc i = omega arith in ap own next ∙ own-is (suc i))) in
    ap (λ b. map place (put b k (filter own (range_with_len (k + 1) (length parts))))) mine
    ∙ put_mapped place (λ (x : ℕ × ℕ). x) (eqb p.tile t) k (place_in at p) (filter own (range_with_len (k + 1) (length parts))) (places_from (at + part_length p) parts t) first
    (rest ∙ sym (map-id (places_from (at + part_length p) parts t)))
    ∙ map-id (put (eqb p.tile t) (place_in at p) (places_from (at + part_length p) parts t))

pub places_are : (tree : Tree) (t : ℕ) → tile_data_places tree t ≡ places_from (length (main_text tree.siz tree.segments)) tree.parts t
places_are tree t =
    let zero-is : (i : ℕ) → 0 + i ≡ i = λ i. omega arith in
    by_number tree.parts (length (main_text tree.siz tree.segments)) t 0 (data_place tree) (λ i. eqb (part_in tree i).tile t) (λ i. ap (data_place tree) (zero-is i)) (λ i. ap (λ k. eqb (part_in tree k).tile t) (zero-is i))

pub part_text_length : (p : CodestreamPart) → length (part_text p) ≡ part_length p
unfolding part_text
part_text_length p = omega (arith, length-append (flat_map segment_text p.segments) (marker_text sod ++ p.content))

parts_length : (p : CodestreamPart) (parts : List CodestreamPart) → length (flat_map part_text (p ∷ parts)) ≡ part_length p + length (flat_map part_text parts)
parts_length p parts = omega (arith, part_text_length p, length-append (part_text p) (flat_map part_text parts))

pub places_more : (at end : ℕ) (parts : List CodestreamPart) (p : CodestreamPart) (t : ℕ) → end ≡ at + length (flat_map part_text parts)
    → places_from at (parts ++ p ∷ []) t ≡ places_from at parts t ++ put (eqb p.tile t) (place_in end p) []
unfolding places_from
places_more at end [] p t e =
    let here : at ≡ end = omega (arith, e) in
    ap (λ k. put (eqb p.tile t) (place_in k p) []) here
places_more at end (q ∷ parts) p t e =
    let next = at + part_length q in
    let rest = places_more next end parts p t (omega (arith, e, parts_length q parts)) in
    ap (λ (x : List (ℕ × ℕ)). put (eqb q.tile t) (place_in at q) x) rest ∙ put_joined (eqb q.tile t) (place_in at q) (places_from next parts t) (put (eqb p.tile t) (place_in end p) [])

pub places_count : (at : ℕ) (parts : List CodestreamPart) (t : ℕ) → length (places_from at parts t) ≡ length (of_tile t parts)
unfolding places_from
places_count at [] t = refl
places_count at (p ∷ parts) t = put_length (eqb p.tile t) (place_in at p) p (places_from (at + part_length p) parts t) (of_tile t parts) (places_count (at + part_length p) parts t)

pub of_tile_more : (t : ℕ) (parts : List CodestreamPart) (p : CodestreamPart) → of_tile t (parts ++ p ∷ []) ≡ of_tile t parts ++ put (eqb p.tile t) p []
of_tile_more t parts p = filter-append (λ (q : CodestreamPart). eqb q.tile t) parts (p ∷ [])

-- SOT, its segment, the others and SOD
abbrev head_text : CodestreamPart → List ℕ
head_text p =
    marker_text sot ++ (big_bytes 2 10 ++ (big_bytes 2 p.tile ++ (big_bytes 4 (psot p) ++ (big_bytes 1 p.number ++ (big_bytes 1 p.total ++ (flat_map segment_text p.segments ++ marker_text sod))))))

part_split : (p : CodestreamPart) → part_text p ≡ head_text p ++ p.content
unfolding part_text
part_split p =
    ap (λ (x : List ℕ). marker_text sot ++ (big_bytes 2 10 ++ (big_bytes 2 p.tile ++ (big_bytes 4 (psot p) ++ (big_bytes 1 p.number ++ (big_bytes 1 p.total ++ x))))))
    (sym (append_assoc (flat_map segment_text p.segments) (marker_text sod) p.content))

head_length : (p : CodestreamPart) → length (head_text p) ≡ data_start p
head_length p = omega (arith, length-append (flat_map segment_text p.segments) (marker_text sod))

-- the bytes at a place
abbrev pub bytes_at : List ℕ → ℕ × ℕ → List ℕ
bytes_at bytes place = take (place.1 - place.0) (drop place.0 bytes)

pub content_at : (p : CodestreamPart) (front rest bytes : List ℕ) (at : ℕ) → bytes ≡ front ++ (part_text p ++ rest) → at ≡ length front → bytes_at bytes (place_in at p) ≡ p.content
content_at p front rest bytes at e at-is =
    let head = head_text p in
    let content = p.content in
    let start = at + data_start p in
    let whole : bytes ≡ (front ++ head) ++ (content ++ rest) =
    e ∙ ap (λ (x : List ℕ). front ++ (x ++ rest)) (part_split p) ∙ ap (λ (x : List ℕ). front ++ x) (append_assoc head content rest) ∙ sym (append_assoc front head (content ++ rest)) in
    let before : length (front ++ head) ≡ start = omega (arith, length-append front head, head_length p, at-is) in
    let after : drop start bytes ≡ content ++ rest = ap (drop start) whole ∙ drop_at (front ++ head) (content ++ rest) start before in
    let size : length content ≡ at + part_length p - start = omega arith in
    ap (take (at + part_length p - start)) after ∙ take_at content rest (at + part_length p - start) size

contents_at : (parts : List CodestreamPart) (front rest bytes : List ℕ) (at t : ℕ) → bytes ≡ front ++ (flat_map part_text parts ++ rest) → at ≡ length front
    → map (bytes_at bytes) (places_from at parts t) ≡ map (λ (p : CodestreamPart). p.content) (of_tile t parts)
unfolding places_from
contents_at [] front rest bytes at t e at-is = refl
contents_at (p ∷ parts) front rest bytes at t e at-is =
    let next = at + part_length p in
    let others = flat_map part_text parts in
    let here : bytes ≡ front ++ (part_text p ++ (others ++ rest)) = e ∙ ap (λ (x : List ℕ). front ++ x) (append_assoc (part_text p) others rest) in
    let behind : bytes ≡ (front ++ part_text p) ++ (others ++ rest) = here ∙ sym (append_assoc front (part_text p) (others ++ rest)) in
    let size : next ≡ length (front ++ part_text p) = omega (arith, at-is, length-append front (part_text p), part_text_length p) in
    put_mapped (bytes_at bytes) (λ (q : CodestreamPart). q.content) (eqb p.tile t) (place_in at p) p (places_from next parts t) (of_tile t parts)
    (content_at p front (others ++ rest) bytes at here at-is) (contents_at parts (front ++ part_text p) rest bytes next t behind size)

-- the bytes at the places of a tile are the data of its parts
pub contents_from : (bytes : List ℕ) (tree : Tree) (t : ℕ) → bytes ≡ codestream_text tree
    → map (bytes_at bytes) (places_from (length (main_text tree.siz tree.segments)) tree.parts t) ≡ map (λ (p : CodestreamPart). p.content) (of_tile t tree.parts)
unfolding codestream_text
contents_from bytes tree t e = contents_at tree.parts (main_text tree.siz tree.segments) (marker_text eoc) bytes (length (main_text tree.siz tree.segments)) t e refl

pub contents_of : (bytes : List ℕ) (tree : Tree) (t : ℕ) → bytes ≡ codestream_text tree → map (bytes_at bytes) (tile_data_places tree t) ≡ map (λ (p : CodestreamPart). p.content) (of_tile t tree.parts)
contents_of bytes tree t e = ap (λ (places : List (ℕ × ℕ)). map (bytes_at bytes) places) (places_are tree t) ∙ contents_from bytes tree t e
