-- Headers that are read are those of a codestream, and those of a codestream are read.
use Rattle.std.proofs.Common.{◌≡◌, ℕ, zero, suc, ◌+◌, ◌<◌, ◌≤◌, Bool, true, false, not, ◌&&◌, eqb, ltb, List, [], ◌∷◌, ◌++◌, length, map, drop, Ok, refl, sym, ap, subst, ◌∙◌, append_assoc, arith, lit<, inl, inr}
use Rattle.std.specs.List.{flat_map, range_with_len, AllByRecursion}
use Rattle.std.proofs.lemmas.Bool.{true≢false, eqb-true, eqb-false, not-false, ltb-false}
use Rattle.std.proofs.lemmas.List.{drop_at, drop-drop, length-append, length-drop, append-nil, map-append, nil_from_length, ext_get_or, length-replicate, get_or-replicate}
use Rattle.std.proofs.lemmas.Grind.{flat_map-append}
use Rattle.byteorder.specs.Endian.{big_bytes}
use Rattle.jk_math.specs.Steps.{bind_then, refuse_then, chosen, ok_is}
use Rattle.jk_math.specs.declared.fault.Fault.TheVariants.{BadMarker, SurplusBytes, Limit}
use Rattle.jk_marks.specs.declared.siz.Siz.{Siz}
use Rattle.jk_marks.specs.declared.coding.Coding.{Coding}
use Rattle.jk_marks.specs.declared.main_header.Main.{Main}
use Rattle.jk_marks.specs.declared.tile_part.TilePart.{TilePart}
use Rattle.jk_marks.specs.Markers.{sot, eoc, marker_text}
use Rattle.jk_marks.specs.Place.{closed}
use Rattle.jk_marks.specs.Siz.{tile_count}
use Rattle.jk_marks.specs.Segments.{Segment}
use Rattle.jk_marks.specs.Codestream.{CodestreamPart, main_text, main_of, part_text, part_length, codestream_text, of_tile, head_of, IsMain, IsPart, AreParts, AreClosedBeforeLast}
use Rattle.jk_marks.specs.Reading.{number}
use Rattle.jk_marks.specs.HeaderReading.{main_at, part_at}
use Rattle.jk_math.proofs.Laws.{AreBytes, are_bytes_after}
use Rattle.jk_marks.proofs.Laws.{number_goes, number_again, found_main, found_part}
use Rattle.jk_params.specs.Coding.{codings_of}
use Rattle.jk_params.specs.CodingReading.{codings_at}
use Rattle.jk_params.specs.Headers.{Headers, TileFields, head_segments, cod_for, headers_of, no_fields, packets_alike, packets_of, most_packets, IsHeaders}
use Rattle.jk_params.specs.HeadersReading.{ends_at, tiles_with, parts_seen, parts_from, blank_tiles, main_fields_at, tiles_at, headers_at}
use Rattle.jk_params.proofs.GoodLaws.{all_more}
use Rattle.jk_params.proofs.PlacesLaws.{places_from, part_text_length}
use Rattle.jk_params.proofs.PartsLaws.{tree_of, tiles_said, said_at, said_length, seen_at, own_parts, other_parts, head_first, head_later, head_other, HavePlanes, codings_found, tiles_found}

and_second : (x y : Bool) → x ≡ true → (x && y) ≡ false → y ≡ false
and_second true y e h = h
and_second false y e h = absurd (true≢false (sym e))

-- the end that is read is EOC
ends_found : (bytes : List ℕ) (at : ℕ) (b : Bool) → AreBytes bytes → ends_at bytes at ≡ Ok b → b ≡ true → drop at bytes ≡ marker_text eoc
unfolding ends_at
ends_found bytes at b fits e is =
    bind_then (number 2 (closed bytes at)) _ b e (λ marker s e.
    refuse_then (not (eqb marker.0 sot) && not (eqb marker.0 eoc)) BadMarker _ b e (λ other e.
    refuse_then (not (eqb marker.0 sot) && not (eqb (length marker.1.rest) 0)) SurplusBytes _ b e (λ surplus e.
    let no_sot : not (eqb marker.0 sot) ≡ true = ok_is (not (eqb marker.0 sot)) b e ∙ is in
    let is_eoc = and_second _ _ no_sot other in
    let is_end = and_second _ _ no_sot surplus in
    let g = number_goes 2 marker.0 (closed bytes at) marker.1 (are_bytes_after at bytes fits) s in
    let no_rest : marker.1.rest ≡ [] = nil_from_length marker.1.rest (eqb-true _ _ (not-false _ is_end)) in
    g.0.parts ∙ ap (λ (k : ℕ). big_bytes 2 k ++ marker.1.rest) (eqb-true _ _ (not-false _ is_eoc)) ∙ ap (λ (x : List ℕ). marker_text eoc ++ x) no_rest)))

pub ends_eoc : (bytes : List ℕ) (at : ℕ) → drop at bytes ≡ marker_text eoc → ends_at bytes at ≡ Ok true
unfolding ends_at
ends_eoc bytes at e =
    let size : length (drop at bytes) ≡ 2 = ap (λ (x : List ℕ). length x) e in
    let s = number_again 2 eoc (closed bytes at) [] (e ∙ sym (append-nil (marker_text eoc))) (lit< tt) (omega (arith, size, length-drop at bytes)) in
    rw s refl

-- What holds of parts that were read from the first on.
record AreRead (siz : Siz) (segments : List Segment) (parts : List CodestreamPart) : Type 0 where
  each : AllByRecursion (IsPart siz) parts
  numbered : (t : ℕ) → map (λ (p : CodestreamPart). p.number) (of_tile t parts) ≡ range_with_len 0 (length (of_tile t parts))
  planes : (t : ℕ) → 0 < length (of_tile t parts) → HavePlanes siz segments (head_segments (of_tile t parts))

none_read : (siz : Siz) (segments : List Segment) → AreRead siz segments []
none_read siz segments = record { each = tt; numbered = λ t. refl; planes = λ t lt. absurd (omega (arith, lt)) }

range_more : (a n : ℕ) → range_with_len a (suc n) ≡ range_with_len a n ++ (a + n) ∷ []
range_more a zero =
    let e : a ≡ a + 0 = omega arith in
    ap (λ k. k ∷ []) e
range_more a (suc n) =
    let e : a + 1 + n ≡ a + suc n = omega arith in
    ap (λ (x : List ℕ). a ∷ x) (range_more (a + 1) n ∙ ap (λ k. range_with_len (a + 1) n ++ k ∷ []) e)

-- numbers that go on
numbered_on : (xs : List CodestreamPart) (p : CodestreamPart) → map (λ (q : CodestreamPart). q.number) xs ≡ range_with_len 0 (length xs) → p.number ≡ length xs
    → map (λ (q : CodestreamPart). q.number) (xs ++ p ∷ []) ≡ range_with_len 0 (length (xs ++ p ∷ []))
numbered_on xs p e next =
    let n = length xs in
    let more : suc n ≡ length (xs ++ p ∷ []) = omega (arith, length-append xs (p ∷ [])) in
    let number : p.number ≡ 0 + n = omega (arith, next) in
    map-append (λ (q : CodestreamPart). q.number) xs (p ∷ []) ∙ ap (λ (x : List ℕ). x ++ p.number ∷ []) e ∙ ap (λ k. range_with_len 0 n ++ k ∷ []) number ∙ sym (range_more 0 n) ∙ ap (range_with_len 0) more

read_more : (siz : Siz) (segments : List Segment) (parts : List CodestreamPart) (p : CodestreamPart) → AreRead siz segments parts → IsPart siz p → p.number ≡ length (of_tile p.tile parts)
    → (p.number ≡ 0 → HavePlanes siz segments p.segments) → AreRead siz segments (parts ++ p ∷ [])
read_more siz segments parts p are is number has = record {
  each = all_more (IsPart siz) parts p are.each is;
  numbered = λ t. numbers t (eqb p.tile t) refl;
  planes = λ t lt. planes t (eqb p.tile t) refl lt;
}
  where
    numbers : (t : ℕ) (b : Bool) → eqb p.tile t ≡ b → map (λ (q : CodestreamPart). q.number) (of_tile t (parts ++ p ∷ [])) ≡ range_with_len 0 (length (of_tile t (parts ++ p ∷ [])))
    numbers t true e =
        let next : p.number ≡ length (of_tile t parts) = number ∙ ap (λ k. length (of_tile k parts)) (eqb-true p.tile t e) in
        subst (λ (x : List CodestreamPart). map (λ (q : CodestreamPart). q.number) x ≡ range_with_len 0 (length x)) (sym (own_parts t parts p e)) (numbered_on (of_tile t parts) p (are.numbered t) next)
    numbers t false e = subst (λ (x : List CodestreamPart). map (λ (q : CodestreamPart). q.number) x ≡ range_with_len 0 (length x)) (sym (other_parts t parts p e)) (are.numbered t)

    own : (t : ℕ) (b : Bool) → eqb p.tile t ≡ true → eqb (length (of_tile t parts)) 0 ≡ b → HavePlanes siz segments (head_segments (of_tile t (parts ++ p ∷ [])))
    own t true e n =
        let none = eqb-true (length (of_tile t parts)) 0 n in
        let zero-is : p.number ≡ 0 = number ∙ ap (λ k. length (of_tile k parts)) (eqb-true p.tile t e) ∙ none in
        subst (HavePlanes siz segments) (sym (head_first t parts p e none)) (has zero-is)
    own t false e n =
        let differs = eqb-false (length (of_tile t parts)) 0 n in
        let some : 0 < length (of_tile t parts) = omega (arith, differs) in
        subst (HavePlanes siz segments) (sym (head_later t parts p e some)) (are.planes t some)

    planes : (t : ℕ) (b : Bool) → eqb p.tile t ≡ b → 0 < length (of_tile t (parts ++ p ∷ [])) → HavePlanes siz segments (head_segments (of_tile t (parts ++ p ∷ [])))
    planes t true e lt = own t (eqb (length (of_tile t parts)) 0) e refl
    planes t false e lt =
        let some : 0 < length (of_tile t parts) = subst (λ (x : List CodestreamPart). 0 < length x) (other_parts t parts p e) lt in
        subst (HavePlanes siz segments) (sym (head_other t parts p e)) (are.planes t some)

abbrev AreClosed : List CodestreamPart → Type 0
AreClosed parts = AllByRecursion (λ (p : CodestreamPart). p.is_open ≡ false) parts

closed_last : (parts : List CodestreamPart) (p : CodestreamPart) → AreClosed parts → AreClosedBeforeLast (parts ++ p ∷ [])
closed_last [] p h = tt
closed_last (q ∷ []) p h = (h.0, tt)
closed_last (q ∷ r ∷ parts) p h = (h.0, closed_last (r ∷ parts) p h.1)

flat_more : (parts : List CodestreamPart) (p : CodestreamPart) (rest : List ℕ) → flat_map part_text parts ++ (part_text p ++ rest) ≡ flat_map part_text (parts ++ p ∷ []) ++ rest
flat_more parts p rest =
    sym (ap (λ (x : List ℕ). x ++ rest) (flat_map-append part_text parts (p ∷ [])) ∙ append_assoc (flat_map part_text parts) (part_text p ++ []) rest
    ∙ ap (λ (x : List ℕ). flat_map part_text parts ++ (x ++ rest)) (append-nil (part_text p)))

pub flat_length : (parts : List CodestreamPart) (p : CodestreamPart) → length (flat_map part_text (parts ++ p ∷ [])) ≡ length (flat_map part_text parts) + part_length p
flat_length parts p =
    let e = ap (λ (x : List ℕ). length x) (flat_more parts p []) in
    omega (arith, e, part_text_length p, length-append (flat_map part_text parts) (part_text p ++ []), length-append (part_text p) [], length-append (flat_map part_text (parts ++ p ∷ [])) [])

-- the parts that were read, and the end behind them
record FoundParts (siz : Siz) (segments : List Segment) (bytes : List ℕ) (out : List TileFields) : Type 0 where
  parts : List CodestreamPart
  are : AreParts siz parts
  read : AreRead siz segments parts
  text : bytes ≡ main_text siz segments ++ (flat_map part_text parts ++ marker_text eoc)
  says : out ≡ tiles_said siz segments parts

found_parts : (k : ℕ) (siz : Siz) (segments : List Segment) (bytes : List ℕ) (at : ℕ) (done : List CodestreamPart) (out : List TileFields) → AreBytes bytes → siz.components ≤ 4
    → AreRead siz segments done → AreClosed done → at ≡ length (main_text siz segments) + length (flat_map part_text done)
    → bytes ≡ main_text siz segments ++ (flat_map part_text done ++ drop at bytes)
    → parts_from k (main_of siz segments) bytes at (tiles_said siz segments done) ≡ Ok out → FoundParts siz segments bytes out
unfolding parts_from
found_parts zero siz segments bytes at done out fits few are closed at-is text e = absurd cc
found_parts (suc k) siz segments bytes at done out fits few are closed at-is text e =
    let main = main_of siz segments in
    let tiles = tiles_said siz segments done in
    bind_then (part_at siz (parts_seen tiles) (drop at bytes)) _ out e (λ part s1 e.
    bind_then (tiles_with main at part tiles) _ out e (λ more s2 e.
    bind_then (ends_at bytes (at + part.end)) _ out e (λ ends s3 e.
    let g = found_part siz (parts_seen tiles) (drop at bytes) part few (are_bytes_after at bytes fits) s1 in
    let p = g.0 in
    let is = g.1 in
    let begins = g.3 in
    let others = begins.others in
    let number : p.number ≡ length (of_tile p.tile done) = g.2 ∙ seen_at siz segments done p.tile is.tile in
    let f = tiles_found siz segments done p at more few is.tile number at-is (ap (λ (x : TilePart). tiles_with main at x tiles) (sym g.4) ∙ s2) in
    let now = done ++ p ∷ [] in
    let read = read_more siz segments done p are is number f.1 in
    let end = at + part.end in
    let end-is : part.end ≡ part_length p = ap (λ (x : TilePart). x.end) g.4 in
    let after : drop end bytes ≡ others =
    sym (drop-drop part.end at bytes) ∙ ap (drop part.end) begins.text ∙ drop_at (part_text p) others part.end (part_text_length p ∙ sym end-is) in
    let at_next : end ≡ length (main_text siz segments) + length (flat_map part_text now) = omega (arith, at-is, end-is, flat_length done p) in
    let whole : bytes ≡ main_text siz segments ++ (flat_map part_text now ++ others) =
    text ∙ ap (λ (x : List ℕ). main_text siz segments ++ (flat_map part_text done ++ x)) begins.text ∙ ap (λ (x : List ℕ). main_text siz segments ++ x) (flat_more done p others) in
    elim (chosen ends (Ok more) (parts_from k main bytes end more) (Ok out) e) [
      | inl w ↦
          let closing : others ≡ marker_text eoc = sym after ∙ ends_found bytes end ends fits s3 w.0 in
          record {
            parts = now;
            are = record { some = omega (arith, length-append done (p ∷ [])); each = read.each; closed = closed_last done p closed; numbered = read.numbered };
            read = read;
            text = whole ∙ ap (λ (x : List ℕ). main_text siz segments ++ (flat_map part_text now ++ x)) closing;
            says = sym (ok_is more out w.1) ∙ f.0;
          }
      | inr w ↦
          let shut : p.is_open ≡ false = not_open p.is_open (λ opened. absurd (true≢false (ok_is true false (sym (ends_eoc bytes end (after ∙ begins.last opened)) ∙ s3 ∙ ap Ok w.0)))) in
          found_parts k siz segments bytes end now out fits few read (all_more (λ (q : CodestreamPart). q.is_open ≡ false) done p closed shut) at_next
          (whole ∙ ap (λ (x : List ℕ). main_text siz segments ++ (flat_map part_text now ++ x)) (sym after)) (ap (λ (x : List TileFields). parts_from k main bytes end x) (sym f.0) ∙ w.1)
    ])))
  where
    not_open : (b : Bool) → (b ≡ true → b ≡ false) → b ≡ false
    not_open true h = h refl
    not_open false h = refl

-- where no part was read, all tiles are as the main header says
pub blank_said : (siz : Siz) (segments : List Segment) → blank_tiles (tile_count siz) (main_of siz segments).cod (codings_of siz.components segments []) ≡ tiles_said siz segments []
unfolding places_from
blank_said siz segments =
    let n = tile_count siz in
    let blank : TileFields = record { cod = cod_for segments []; codings = codings_of siz.components segments []; data_places = [] } in
    let size : length (blank_tiles n (main_of siz segments).cod (codings_of siz.components segments [])) ≡ n = length-replicate n blank in
    ext_get_or no_fields _ _ (size ∙ sym (said_length siz segments []))
    (λ t lt.
    let inside : t < n = omega (arith, lt, size) in
    get_or-replicate n t blank no_fields inside ∙ sym (said_at siz segments [] t inside))

planes_all : (siz : Siz) (segments : List Segment) (xs : List CodestreamPart) → (0 < length xs → HavePlanes siz segments (head_segments xs)) → HavePlanes siz segments []
    → HavePlanes siz segments (head_segments xs)
planes_all siz segments [] h blank = blank
planes_all siz segments (p ∷ xs) h blank = h (omega arith)

-- what the main header says, and that it has not too many packets
record FoundFields (bytes : List ℕ) (m : (Main × ℕ) × List Coding) : Type 0 where
  siz : Siz
  segments : List Segment
  is : IsMain siz segments
  main : m.0.0 ≡ main_of siz segments
  at : m.0.1 ≡ length (main_text siz segments)
  text : bytes ≡ main_text siz segments ++ drop m.0.1 bytes
  codings : m.1 ≡ codings_of siz.components segments []
  planes : HavePlanes siz segments []
  few : packets_alike siz (cod_for segments []).layers (codings_of siz.components segments []) ≤ most_packets

found_fields : (bytes : List ℕ) (m : (Main × ℕ) × List Coding) → AreBytes bytes → main_fields_at bytes ≡ Ok m → FoundFields bytes m
unfolding main_fields_at
found_fields bytes m fits e =
    bind_then (main_at bytes) _ m e (λ main s1 e.
    bind_then (codings_at main.0 (head_of [])) _ m e (λ ks s2 e.
    refuse_then (ltb most_packets (packets_alike main.0.siz main.0.cod.layers ks)) Limit _ m e (λ some e.
    let f = found_main bytes main.0 main.1 fits s1 in
    let siz = f.0 in
    let segments = f.1 in
    let main-is = f.4 in
    let front = main_text siz segments in
    let g = codings_found siz segments [] ks f.2.size.few_components (ap (λ (x : Main). codings_at x (head_of [])) (sym main-is) ∙ s2) in
    let after : drop main.1 bytes ≡ marker_text sot ++ f.3.others = ap (drop main.1) f.3.text ∙ drop_at front (marker_text sot ++ f.3.others) main.1 (sym f.5) in
    let low : packets_alike main.0.siz main.0.cod.layers ks ≤ most_packets = ltb-false _ _ some in
    let few1 = subst (λ (x : Main). packets_alike x.siz x.cod.layers ks ≤ most_packets) main-is low in
    let few2 = subst (λ (x : List Coding). packets_alike siz (cod_for segments []).layers x ≤ most_packets) g.0 few1 in
    let here : FoundFields bytes (main, ks) = record {
      siz = siz;
      segments = segments;
      is = f.2;
      main = main-is;
      at = f.5;
      text = f.3.text ∙ ap (λ (x : List ℕ). front ++ x) (sym after);
      codings = g.0;
      planes = g.1;
      few = few2;
    } in
    subst (FoundFields bytes) (ok_is (main, ks) m e) here)))

abbrev head_record : Siz → List TileFields → Headers
head_record siz tiles = record { siz = siz; tiles = tiles }

pub found_headers : (bytes : List ℕ) (h : Headers) → AreBytes bytes → headers_at bytes ≡ Ok h → IsHeaders bytes h
unfolding headers_at tiles_at headers_of codestream_text
found_headers bytes h fits e =
    bind_then (main_fields_at bytes) _ h e (λ m s1 e.
    bind_then (tiles_at m.0.0 bytes m.0.1 (blank_tiles (tile_count m.0.0.siz) m.0.0.cod m.1)) _ h e (λ tiles s2 e.
    bind_then (parts_from (length bytes) m.0.0 bytes m.0.1 (blank_tiles (tile_count m.0.0.siz) m.0.0.cod m.1)) _ tiles s2 (λ all s3 s2.
    refuse_then (ltb most_packets (packets_of m.0.0.siz all)) Limit _ tiles s2 (λ some s2.
    let f = found_fields bytes m fits s1 in
    let siz = f.siz in
    let segments = f.segments in
    let main = main_of siz segments in
    let from : parts_from (length bytes) main bytes m.0.1 (tiles_said siz segments []) ≡ Ok all =
    ap (λ (x : List TileFields). parts_from (length bytes) main bytes m.0.1 x) (sym (blank_said siz segments))
    ∙ ap (λ (x : List Coding). parts_from (length bytes) main bytes m.0.1 (blank_tiles (tile_count siz) main.cod x)) (sym f.codings)
    ∙ ap (λ (x : Main). parts_from (length bytes) x bytes m.0.1 (blank_tiles (tile_count x.siz) x.cod m.1)) (sym f.main) ∙ s3 in
    let at : m.0.1 ≡ length (main_text siz segments) + 0 = omega (arith, f.at) in
    let g = found_parts (length bytes) siz segments bytes m.0.1 [] all fits f.is.size.few_components (none_read siz segments) tt at f.text from in
    let same : all ≡ tiles = ok_is all tiles s2 in
    let h-is : head_record m.0.0.siz tiles ≡ h = ok_is (head_record m.0.0.siz tiles) h e in
    let tree = tree_of siz segments g.parts in
    let low : packets_of m.0.0.siz all ≤ most_packets = ltb-false _ _ some in
    let says : h ≡ headers_of tree = sym h-is ∙ ap (λ (x : Main). head_record x.siz tiles) f.main ∙ ap (head_record siz) (sym same ∙ g.says) in
    record {
      tree = tree;
      spelled = record { header = f.is; parts = g.are; text = g.text };
      says = says;
      main_planes = f.planes;
      main_few = f.few;
      planes = λ t c lt less. planes_all siz segments (of_tile t g.parts) (g.read.planes t) f.planes c less;
      few = subst (λ (x : Headers). packets_of x.siz x.tiles ≤ most_packets) h-is (subst (λ (x : List TileFields). packets_of m.0.0.siz x ≤ most_packets) same low);
    }))))
