-- The headers of a codestream that has an outline: those of the outline, but for where the data stand.
use Rattle.std.proofs.Common.{◌≡◌, ℕ, zero, suc, ◌+◌, ◌-◌, ◌<◌, ◌≤◌, Bool, true, false, cond, eqb, List, [], ◌∷◌, ◌++◌, length, drop, map, refl, sym, ap, ◌∙◌, subst, arith}
use Rattle.std.specs.List.{flat_map, AllByRecursion, range_with_len}
use Rattle.std.proofs.lemmas.List.{length-map, take-append-drop, drop-drop, length-drop}
use Rattle.jk_marks.specs.declared.siz.Siz.{Siz}
use Rattle.jk_marks.specs.Siz.{tile_count}
use Rattle.jk_marks.specs.Markers.{eoc, marker_text}
use Rattle.jk_marks.specs.Segments.{Segment}
use Rattle.jk_marks.specs.Codestream.{CodestreamPart, Tree, IsPart, AreParts, AreClosedBeforeLast, psot, part_text, main_text, codestream_text, of_tile}
use Rattle.jk_geom.specs.Rectangles.{tile_area}
use Rattle.jk_geom.specs.Counts.{packet_number}
use Rattle.jk_params.specs.Coding.{coding_of, codings_of, HasPlanes}
use Rattle.jk_params.specs.Headers.{Headers, TileFields, tile_in, headers_of, head_segments, cod_for, packets_of, most_packets, total, IsHeaders}
use Rattle.jk_params.proofs.Laws.{said_at}
use Rattle.jk_walk.specs.TilePackets.{slice_of}
use Rattle.jk_walk.proofs.Slices.{slice_length}
use Rattle.jk_window.specs.Again.{AreAlike}
use Rattle.jk_stored.specs.Outlines.{Front, shortened, IsFront, AreFronts, outline, HasOutline}
use Rattle.jk_stored.proofs.OutlineLaws.{front_same, AreAligned, AreHeads, aligned, grown_by, grown, psot_grown, grown_texts, fronts_order}

-- ---- tile-parts

pub numbers_grown : (c : List ℕ) (at t : ℕ) (fronts : List Front) (parts : List CodestreamPart) → AreAligned parts fronts → map (λ (p : CodestreamPart). p.number) (of_tile t (grown c at fronts parts)) ≡ map (λ (p : CodestreamPart). p.number) (of_tile t parts)
numbers_grown c at t [] [] al = refl
numbers_grown c at t [] (p ∷ parts) al = absurd al
numbers_grown c at t (f ∷ fronts) [] al = absurd al
numbers_grown c at t (f ∷ fronts) (p ∷ parts) al = by (eqb p.tile t) (numbers_grown c (at + f.size) t fronts parts al.1)
  where
    by : (b : Bool) → map (λ (q : CodestreamPart). q.number) (of_tile t (grown c (at + f.size) fronts parts)) ≡ map (λ (q : CodestreamPart). q.number) (of_tile t parts)
        → map (λ (q : CodestreamPart). q.number) (cond b (grown_by (slice_of c (at + length f.bytes, at + f.size)) p ∷ of_tile t (grown c (at + f.size) fronts parts)) (of_tile t (grown c (at + f.size) fronts parts)))
        ≡ map (λ (q : CodestreamPart). q.number) (cond b (p ∷ of_tile t parts) (of_tile t parts))
    by true e = ap (λ (ns : List ℕ). p.number ∷ ns) e
    by false e = e

pub head_grown : (c : List ℕ) (at t : ℕ) (fronts : List Front) (parts : List CodestreamPart) → AreAligned parts fronts → head_segments (of_tile t (grown c at fronts parts)) ≡ head_segments (of_tile t parts)
head_grown c at t [] [] al = refl
head_grown c at t [] (p ∷ parts) al = absurd al
head_grown c at t (f ∷ fronts) [] al = absurd al
head_grown c at t (f ∷ fronts) (p ∷ parts) al = by (eqb p.tile t) (head_grown c (at + f.size) t fronts parts al.1)
  where
    by : (b : Bool) → head_segments (of_tile t (grown c (at + f.size) fronts parts)) ≡ head_segments (of_tile t parts)
        → head_segments (cond b (grown_by (slice_of c (at + length f.bytes, at + f.size)) p ∷ of_tile t (grown c (at + f.size) fronts parts)) (of_tile t (grown c (at + f.size) fronts parts)))
        ≡ head_segments (cond b (p ∷ of_tile t parts) (of_tile t parts))
    by true e = refl
    by false e = e

pub more_long : (c : List ℕ) (at : ℕ) (f : Front) → IsFront c at f → length (slice_of c (at + length f.bytes, at + f.size)) ≡ f.size - length f.bytes
more_long c at f is =
    let part = is.part in
    slice_length c (at + length f.bytes) (at + f.size) (omega (arith, part)) is.within ∙ omega (arith, part)

each_grown : (siz : Siz) (c : List ℕ) (at stop : ℕ) (fronts : List Front) (parts : List CodestreamPart) → AllByRecursion (IsPart siz) parts → AreFronts c at fronts stop → AreAligned parts fronts → AllByRecursion (IsPart siz) (grown c at fronts parts)
each_grown siz c at stop [] [] each are al = tt
each_grown siz c at stop [] (p ∷ parts) each are al = absurd al
each_grown siz c at stop (f ∷ fronts) [] each are al = absurd al
each_grown siz c at stop (f ∷ fronts) (p ∷ parts) each are al =
    let more = slice_of c (at + length f.bytes, at + f.size) in
    let is = each.0 in
    let long = more_long c at f are.0 in
    let size : psot (grown_by more p) ≡ f.size = psot_grown p f more al.0 long are.0.part in
    let narrow = are.0.narrow in
    (record { tile = is.tile; narrow = is.narrow; number = is.number; total = is.total; fits = omega (arith, size, narrow); well_formed = is.well_formed }, each_grown siz c (at + f.size) stop fronts parts each.1 are.1 al.1)

closed_grown : (c : List ℕ) (at : ℕ) (fronts : List Front) (parts : List CodestreamPart) → AreAligned parts fronts → AreClosedBeforeLast (grown c at fronts parts)
closed_grown c at [] [] al = tt
closed_grown c at [] (p ∷ parts) al = absurd al
closed_grown c at (f ∷ fronts) [] al = absurd al
closed_grown c at (f ∷ []) (p ∷ []) al = tt
closed_grown c at (f ∷ []) (p ∷ (q ∷ parts)) al = absurd al.1
closed_grown c at (f ∷ (g ∷ fronts)) (p ∷ []) al = absurd al.1
closed_grown c at (f ∷ (g ∷ fronts)) (p ∷ (q ∷ parts)) al = (al.0.closed, closed_grown c (at + f.size) (g ∷ fronts) (q ∷ parts) al.1)

some_grown : (c : List ℕ) (at : ℕ) (fronts : List Front) (parts : List CodestreamPart) → AreAligned parts fronts → length (grown c at fronts parts) ≡ length parts
some_grown c at [] [] al = refl
some_grown c at [] (p ∷ parts) al = absurd al
some_grown c at (f ∷ fronts) [] al = absurd al
some_grown c at (f ∷ fronts) (p ∷ parts) al = ap suc (some_grown c (at + f.size) fronts parts al.1)

pub count_same : (c : List ℕ) (at t : ℕ) (fronts : List Front) (parts : List CodestreamPart) → map (λ (p : CodestreamPart). p.number) (of_tile t (grown c at fronts parts)) ≡ map (λ (p : CodestreamPart). p.number) (of_tile t parts)
    → length (of_tile t (grown c at fronts parts)) ≡ length (of_tile t parts)
count_same c at t fronts parts same =
    sym (length-map (of_tile t (grown c at fronts parts)) (λ (p : CodestreamPart). p.number)) ∙ ap (λ (ns : List ℕ). length ns) same ∙ length-map (of_tile t parts) (λ (p : CodestreamPart). p.number)

pub parts_grown : (siz : Siz) (c : List ℕ) (at stop : ℕ) (fronts : List Front) (parts : List CodestreamPart) → AreParts siz parts → AreFronts c at fronts stop → AreAligned parts fronts → AreParts siz (grown c at fronts parts)
parts_grown siz c at stop fronts parts is are al =
    let some = is.some in
    record {
      some = (let long = some_grown c at fronts parts al in omega (arith, some, long));
      each = each_grown siz c at stop fronts parts is.each are al;
      closed = closed_grown c at fronts parts al;
      numbered = λ t.
          let same = numbers_grown c at t fronts parts al in
          let long = count_same c at t fronts parts same in
          same ∙ is.numbered t ∙ ap (λ k. range_with_len 0 k) (sym long);
    }

-- ---- what the headers say

cod_is : (tree : Tree) (t : ℕ) → t < tile_count tree.siz → (tile_in (headers_of tree).tiles t).cod ≡ cod_for tree.segments (head_segments (of_tile t tree.parts))
unfolding headers_of
cod_is tree t lt = ap (λ (f : TileFields). f.cod) (said_at tree.siz tree.segments tree.parts t lt)

codings_are : (tree : Tree) (t : ℕ) → t < tile_count tree.siz → (tile_in (headers_of tree).tiles t).codings ≡ codings_of tree.siz.components tree.segments (head_segments (of_tile t tree.parts))
unfolding headers_of
codings_are tree t lt = ap (λ (f : TileFields). f.codings) (said_at tree.siz tree.segments tree.parts t lt)

pub siz_is : (tree : Tree) → (headers_of tree).siz ≡ tree.siz
unfolding headers_of
siz_is tree = refl

-- with other parts
abbrev pub with_parts : Tree → List CodestreamPart → Tree
with_parts tree parts = record { siz = tree.siz; segments = tree.segments; parts = parts }

pub alike : (tree : Tree) (parts : List CodestreamPart) → ((t : ℕ) → head_segments (of_tile t parts) ≡ head_segments (of_tile t tree.parts)) → AreAlike (headers_of (with_parts tree parts)) (headers_of tree)
alike tree parts same =
    let new = with_parts tree parts in
    let own : (t : ℕ) → t < tile_count (headers_of tree).siz → t < tile_count tree.siz = λ t lt. subst (λ (s : Siz). t < tile_count s) (siz_is tree) lt in
    record {
      siz = siz_is new ∙ sym (siz_is tree);
      cod = λ t lt. cod_is new t (own t lt) ∙ ap (λ (head : List Segment). cod_for tree.segments head) (same t) ∙ sym (cod_is tree t (own t lt));
      codings = λ t lt. codings_are new t (own t lt) ∙ ap (λ (head : List Segment). codings_of tree.siz.components tree.segments head) (same t) ∙ sym (codings_are tree t (own t lt));
    }

total_alike : (f g : ℕ → ℕ) (n : ℕ) → ((t : ℕ) → t < n → f t ≡ g t) → total f n ≡ total g n
unfolding total
total_alike f g zero same = refl
total_alike f g (suc n) same = λ i. total_alike f g n (λ t lt. same t (omega (arith, lt))) i + same n (omega arith) i

pub packets_alike : (g h : Headers) → AreAlike g h → packets_of g.siz g.tiles ≡ packets_of h.siz h.tiles
packets_alike g h is =
    ap (λ (s : Siz). packets_of s g.tiles) is.siz
    ∙ total_alike (λ t. packet_number (tile_area h.siz t) (tile_in g.tiles t).cod.layers (tile_in g.tiles t).codings) (λ t. packet_number (tile_area h.siz t) (tile_in h.tiles t).cod.layers (tile_in h.tiles t).codings) (tile_count h.siz)
    (λ t lt. λ i. packet_number (tile_area h.siz t) (is.cod t lt i).layers (is.codings t lt i))

-- ---- the codestream

pub text_split : (tree : Tree) → codestream_text tree ≡ main_text tree.siz tree.segments ++ (flat_map part_text tree.parts ++ marker_text eoc)
unfolding codestream_text
text_split tree = refl

fronts_hold : (c : List ℕ) (at stop : ℕ) (fronts : List Front) → AreFronts c at fronts stop → AreHeads fronts
fronts_hold c at stop [] are = tt
fronts_hold c at stop (f ∷ fronts) are =
    let is = are.0 in
    let head = is.head in
    let part = is.part in
    let narrow = is.narrow in
    ((head, omega (arith, part, narrow)), fronts_hold c (at + f.size) stop fronts are.1)

-- The outline was read, and its main header is the one that stands in front.
pub record IsOutlined (c main : List ℕ) (fronts : List Front) (h : Headers) : Type 0 where
  pub has : HasOutline c main fronts
  pub says : IsHeaders (outline main fronts) h
  pub main_size : length (main_text says.tree.siz says.tree.segments) ≡ length main

-- the tree of the codestream
abbrev pub whole_tree : (c main : List ℕ) (fronts : List Front) (h : Headers) → IsOutlined c main fronts h → Tree
whole_tree c main fronts h o = with_parts o.says.tree (grown c (length main) fronts o.says.tree.parts)

pub record AlignedOutline (c main : List ℕ) (fronts : List Front) (tree : Tree) : Type 0 where
  pub head : main_text tree.siz tree.segments ≡ main
  pub aligned : AreAligned tree.parts fronts

pub outline_aligned : (c main : List ℕ) (fronts : List Front) (h : Headers) (o : IsOutlined c main fronts h) → AlignedOutline c main fronts o.says.tree
outline_aligned c main fronts h o =
    let tree = o.says.tree in
    let both = front_same (main_text tree.siz tree.segments) main (flat_map part_text tree.parts ++ marker_text eoc) (flat_map shortened fronts ++ marker_text eoc) o.main_size (sym (text_split tree) ∙ sym o.says.spelled.text) in
    record { head = both.0; aligned = aligned tree.siz tree.parts fronts o.says.spelled.parts.each (fronts_hold c (length main) o.has.stop fronts o.has.parts) both.1 }

stop_within : (c : List ℕ) (at stop : ℕ) (fronts : List Front) → AreFronts c at fronts stop → drop stop c ≡ marker_text eoc → stop ≤ length c
stop_within c at stop fronts are ends =
    let left = length-drop stop c in
    let two = ap (λ (xs : List ℕ). length xs) ends in
    omega (arith, left, two)

pub whole_text : (c main : List ℕ) (fronts : List Front) (h : Headers) (o : IsOutlined c main fronts h) → c ≡ codestream_text (whole_tree c main fronts h o)
whole_text c main fronts h o =
    let tree = o.says.tree in
    let al = outline_aligned c main fronts h o in
    let n = length main in
    let stop = o.has.stop in
    let le = fronts_order c n stop fronts o.has.parts in
    let rest = drop n c in
    let split : rest ≡ slice_of c (n, stop) ++ drop stop c =
    sym (take-append-drop (stop - n) rest) ∙ ap (λ (xs : List ℕ). slice_of c (n, stop) ++ xs) (drop-drop (stop - n) n c ∙ ap (λ k. drop k c) (let e : n + (stop - n) ≡ stop = omega (arith, le) in e)) in
    let within = stop_within c n stop fronts o.has.parts o.has.ends in
    sym (take-append-drop n c)
    ∙ ap (λ (xs : List ℕ). xs ++ rest) (sym o.has.begins ∙ sym al.head)
    ∙ ap (λ (xs : List ℕ). main_text tree.siz tree.segments ++ xs)
    (split ∙ (λ i. sym (grown_texts c n stop fronts tree.parts le within o.has.parts al.aligned) i ++ o.has.ends i))
    ∙ sym (text_split (whole_tree c main fronts h o))

-- The codestream has headers like those of its outline.
abbrev pub whole_headers : (c main : List ℕ) (fronts : List Front) (h : Headers) (o : IsOutlined c main fronts h) → IsHeaders c (headers_of (whole_tree c main fronts h o))
whole_headers c main fronts h o =
    let is = o.says in
    let tree = is.tree in
    let new = whole_tree c main fronts h o in
    let al = outline_aligned c main fronts h o in
    let heads : (t : ℕ) → head_segments (of_tile t new.parts) ≡ head_segments (of_tile t tree.parts) = λ t. head_grown c (length main) t fronts tree.parts al.aligned in
    let few = is.few in
    record {
      tree = new;
      spelled = record { header = is.spelled.header; parts = parts_grown tree.siz c (length main) o.has.stop fronts tree.parts is.spelled.parts o.has.parts al.aligned; text = whole_text c main fronts h o };
      says = refl;
      main_planes = is.main_planes;
      main_few = is.main_few;
      planes = λ t i lt less. subst (λ (head : List Segment). HasPlanes (coding_of tree.segments head i)) (sym (heads t)) (is.planes t i lt less);
      few = subst (λ n. n ≤ most_packets) (sym (packets_alike (headers_of new) (headers_of tree) (alike tree new.parts heads) ∙ ap (λ (g : Headers). packets_of g.siz g.tiles) (sym is.says))) few;
    }

pub whole_alike : (c main : List ℕ) (fronts : List Front) (h : Headers) (o : IsOutlined c main fronts h) → AreAlike (headers_of (whole_tree c main fronts h o)) h
whole_alike c main fronts h o =
    let tree = o.says.tree in
    let new = whole_tree c main fronts h o in
    let al = outline_aligned c main fronts h o in
    subst (AreAlike (headers_of new)) (sym o.says.says) (alike tree new.parts (λ t. head_grown c (length main) t fronts tree.parts al.aligned))
