-- The headers of a codestream are read again.
use Rattle.std.proofs.Common.{◌≡◌, ℕ, zero, suc, ◌+◌, ◌<◌, ◌≤◌, true, false, cond, eqb, ltb, List, [], ◌∷◌, ◌++◌, length, map, get_or, take, drop, Ok, refl, sym, ap, subst, ◌∙◌, append_assoc, arith, lit<}
use Rattle.std.specs.List.{flat_map, range_with_len, AllByRecursion}
use Rattle.std.proofs.lemmas.Bool.{true≢false, eq-eqb, le-ltb}
use Rattle.std.proofs.lemmas.List.{drop_at, drop-drop, length-append, length-drop, length-map, map-append, nil_from_length, get_or_at}
use Rattle.std.proofs.lemmas.List.Elements.{filter-append}
use Rattle.std.proofs.lemmas.List.FromFn.{get_or-range_with_len}
use Rattle.jk_marks.specs.declared.siz.Siz.{Siz}
use Rattle.jk_marks.specs.Markers.{soc, sot, eoc, marker_text}
use Rattle.jk_marks.specs.Place.{closed}
use Rattle.jk_marks.specs.Siz.{tile_count}
use Rattle.jk_marks.specs.Segments.{Segment}
use Rattle.jk_marks.specs.Codestream.{CodestreamPart, main_text, main_of, part_text, part_length, place_of, codestream_text, of_tile, IsMain, IsPart, AreClosedBeforeLast, BeginsMain, BeginsWith}
use Rattle.jk_marks.specs.HeaderReading.{part_at}
use Rattle.jk_marks.proofs.Laws.{number_again, only_main, only_part}
use Rattle.jk_params.specs.Coding.{codings_of}
use Rattle.jk_params.specs.Headers.{Headers, head_segments, cod_for, headers_of, packets_alike, packets_of, most_packets, IsHeaders}
use Rattle.jk_params.specs.HeadersReading.{ends_at, tiles_with, parts_seen, parts_from, blank_tiles, main_fields_at, tiles_at, headers_at}
use Rattle.jk_params.proofs.PlacesLaws.{part_text_length}
use Rattle.jk_params.proofs.PartsLaws.{tiles_said, seen_at, HavePlanes, codings_only, tiles_only}
use Rattle.jk_params.proofs.HeadersLaws.{ends_eoc, blank_said, flat_length}

ends_sot : (bytes : List ℕ) (at : ℕ) (rest : List ℕ) → drop at bytes ≡ marker_text sot ++ rest → ends_at bytes at ≡ Ok false
unfolding ends_at
ends_sot bytes at rest e =
    let size : length (drop at bytes) ≡ 2 + length rest = ap (λ (x : List ℕ). length x) e ∙ omega arith in
    let s = number_again 2 sot (closed bytes at) rest e (lit< tt) (omega (arith, size, length-drop at bytes)) in
    rw s refl

part_begins : (p : CodestreamPart) (rest : List ℕ) → (x : List ℕ) × (part_text p ++ rest ≡ marker_text sot ++ x)
unfolding part_text
part_begins p rest = (drop 2 (part_text p ++ rest), refl)

-- the number of a part by those before it
next_number : (xs ys : List CodestreamPart) (p : CodestreamPart) → map (λ (q : CodestreamPart). q.number) (xs ++ p ∷ ys) ≡ range_with_len 0 (length (xs ++ p ∷ ys)) → p.number ≡ length xs
next_number xs ys p e =
    let number : CodestreamPart → ℕ = λ q. q.number in
    let n = length xs in
    let size : length (map number xs) ≡ n = simp length-map in
    let here : get_or (map number xs ++ p.number ∷ map number ys) n 0 ≡ p.number = get_or_at (map number xs) p.number (map number ys) 0 n size in
    let there : get_or (range_with_len 0 (length (xs ++ p ∷ ys))) n 0 ≡ 0 + n = get_or-range_with_len 0 (length (xs ++ p ∷ ys)) n 0 (omega (arith, length-append xs (p ∷ ys))) in
    let same = ap (λ (x : List ℕ). get_or x n 0) (sym (map-append number xs (p ∷ ys)) ∙ e) in
    omega (arith, sym here ∙ same ∙ there)

-- the parts of a part's tile
own_split : (done left : List CodestreamPart) (p : CodestreamPart) → of_tile p.tile (done ++ p ∷ left) ≡ of_tile p.tile done ++ p ∷ of_tile p.tile left
own_split done left p =
    filter-append (λ (q : CodestreamPart). eqb q.tile p.tile) done (p ∷ left) ∙ ap (λ b. of_tile p.tile done ++ cond b (p ∷ of_tile p.tile left) (of_tile p.tile left)) (eq-eqb p.tile p.tile refl)

-- only the end follows a part that is left open
last_open : (p : CodestreamPart) (left : List CodestreamPart) → AreClosedBeforeLast (p ∷ left) → p.is_open ≡ true → flat_map part_text left ++ marker_text eoc ≡ marker_text eoc
last_open p [] h e = refl
last_open p (q ∷ left) h e = absurd (true≢false (sym e ∙ h.0))

-- One part is read, whatever parts follow.
record Again (siz : Siz) (segments : List Segment) (bytes : List ℕ) (at : ℕ) (done left : List CodestreamPart) (p : CodestreamPart) : Type 0 where
  part : part_at siz (parts_seen (tiles_said siz segments done)) (drop at bytes) ≡ Ok (place_of p)
  tiles : tiles_with (main_of siz segments) at (place_of p) (tiles_said siz segments done) ≡ Ok (tiles_said siz segments (done ++ p ∷ []))
  next : at + part_length p ≡ length (main_text siz segments) + length (flat_map part_text (done ++ p ∷ []))
  after : drop (at + part_length p) bytes ≡ flat_map part_text left ++ marker_text eoc

part_again : (siz : Siz) (segments : List Segment) (bytes : List ℕ) (at : ℕ) (done left whole : List CodestreamPart) (p : CodestreamPart) → siz.components ≤ 4 → IsPart siz p → AreClosedBeforeLast (p ∷ left)
    → whole ≡ done ++ p ∷ left → ((t : ℕ) → map (λ (q : CodestreamPart). q.number) (of_tile t whole) ≡ range_with_len 0 (length (of_tile t whole)))
    → ((t : ℕ) → t < tile_count siz → HavePlanes siz segments (head_segments (of_tile t whole)))
    → at ≡ length (main_text siz segments) + length (flat_map part_text done) → drop at bytes ≡ flat_map part_text (p ∷ left) ++ marker_text eoc
    → Again siz segments bytes at done left p
part_again siz segments bytes at done left whole p few is closing whole-is numbered planes at-is rest =
    let before = of_tile p.tile done in
    let others = flat_map part_text left ++ marker_text eoc in
    let split : of_tile p.tile whole ≡ before ++ p ∷ of_tile p.tile left = ap (of_tile p.tile) whole-is ∙ own_split done left p in
    let numbers = subst (λ (x : List CodestreamPart). map (λ (q : CodestreamPart). q.number) x ≡ range_with_len 0 (length x)) split (numbered p.tile) in
    let number : p.number ≡ length before = next_number before (of_tile p.tile left) p numbers in
    let text : drop at bytes ≡ part_text p ++ others = rest ∙ append_assoc (part_text p) (flat_map part_text left) (marker_text eoc) in
    let begins : BeginsWith (drop at bytes) p = record { others = others; text = text; last = last_open p left closing } in
    let has : p.number ≡ 0 → HavePlanes siz segments p.segments = λ none.
    let empty : before ≡ [] = nil_from_length before (sym number ∙ none) in
    let first : head_segments (of_tile p.tile whole) ≡ p.segments = ap head_segments split ∙ ap (λ (x : List CodestreamPart). head_segments (x ++ p ∷ of_tile p.tile left)) empty in
    subst (HavePlanes siz segments) first (planes p.tile is.tile) in
    record {
      part = only_part siz (parts_seen (tiles_said siz segments done)) (drop at bytes) p few is (number ∙ sym (seen_at siz segments done p.tile is.tile)) begins;
      tiles = tiles_only siz segments done p at few is.tile number at-is has;
      next = omega (arith, at-is, flat_length done p);
      after = sym (drop-drop (part_length p) at bytes) ∙ ap (drop (part_length p)) text ∙ drop_at (part_text p) others (part_length p) (part_text_length p);
    }

parts_again : (k : ℕ) (siz : Siz) (segments : List Segment) (bytes : List ℕ) (at : ℕ) (done left whole : List CodestreamPart) (p : CodestreamPart) → length left < k → siz.components ≤ 4
    → AllByRecursion (IsPart siz) (p ∷ left) → AreClosedBeforeLast (p ∷ left)
    → whole ≡ done ++ p ∷ left → ((t : ℕ) → map (λ (q : CodestreamPart). q.number) (of_tile t whole) ≡ range_with_len 0 (length (of_tile t whole)))
    → ((t : ℕ) → t < tile_count siz → HavePlanes siz segments (head_segments (of_tile t whole)))
    → at ≡ length (main_text siz segments) + length (flat_map part_text done) → drop at bytes ≡ flat_map part_text (p ∷ left) ++ marker_text eoc
    → parts_from k (main_of siz segments) bytes at (tiles_said siz segments done) ≡ Ok (tiles_said siz segments whole)
unfolding parts_from
parts_again zero siz segments bytes at done left whole p fuel few each closing whole-is numbered planes at-is rest = absurd (omega (arith, fuel))
parts_again (suc k) siz segments bytes at done [] whole p fuel few each closing whole-is numbered planes at-is rest =
    let g = part_again siz segments bytes at done [] whole p few each.0 closing whole-is numbered planes at-is rest in
    let s = ends_eoc bytes (at + part_length p) g.after in
    rw (g.part, g.tiles, s) (ap (λ (x : List CodestreamPart). Ok (tiles_said siz segments x)) (sym whole-is))
parts_again (suc k) siz segments bytes at done (q ∷ left) whole p fuel few each closing whole-is numbered planes at-is rest =
    let g = part_again siz segments bytes at done (q ∷ left) whole p few each.0 closing whole-is numbered planes at-is rest in
    let starts = part_begins q (flat_map part_text left ++ marker_text eoc) in
    let more = append_assoc (part_text q) (flat_map part_text left) (marker_text eoc) in
    let s = ends_sot bytes (at + part_length p) starts.0 (g.after ∙ more ∙ starts.1) in
    let others = parts_again k siz segments bytes (at + part_length p) (done ++ p ∷ []) left whole q (omega (arith, fuel)) few each.1 closing.1
    (whole-is ∙ sym (append_assoc done (p ∷ []) (q ∷ left))) numbered planes g.next g.after in
    rw (g.part, g.tiles, s) others

many_parts : (parts : List CodestreamPart) → length parts ≤ length (flat_map part_text parts)
many_parts [] = omega arith
many_parts (p ∷ parts) = omega (arith, many_parts parts, length-append (part_text p) (flat_map part_text parts), part_text_length p)

some_parts : (parts : List CodestreamPart) → 0 < length parts → (p : CodestreamPart) × (left : List CodestreamPart) × (parts ≡ p ∷ left)
some_parts [] lt = absurd (omega (arith, lt))
some_parts (p ∷ left) lt = (p, left, refl)

fields_again : (bytes : List ℕ) (siz : Siz) (segments : List Segment) → IsMain siz segments → BeginsMain bytes siz segments → HavePlanes siz segments []
    → packets_alike siz (cod_for segments []).layers (codings_of siz.components segments []) ≤ most_packets
    → main_fields_at bytes ≡ Ok ((main_of siz segments, length (main_text siz segments)), codings_of siz.components segments [])
unfolding main_fields_at
fields_again bytes siz segments is begins has few =
    let s1 = only_main bytes siz segments is begins in
    let s2 = codings_only siz segments [] is.size.few_components has in
    let s3 : ltb most_packets (packets_alike siz (cod_for segments []).layers (codings_of siz.components segments [])) ≡ false = le-ltb _ _ few in
    rw (s1, s2, s3) refl

tiles_again : (bytes : List ℕ) (siz : Siz) (segments : List Segment) (parts : List CodestreamPart) → packets_of siz (tiles_said siz segments parts) ≤ most_packets
    → parts_from (length bytes) (main_of siz segments) bytes (length (main_text siz segments)) (tiles_said siz segments []) ≡ Ok (tiles_said siz segments parts)
    → tiles_at (main_of siz segments) bytes (length (main_text siz segments)) (blank_tiles (tile_count siz) (main_of siz segments).cod (codings_of siz.components segments []))
    ≡ Ok (tiles_said siz segments parts)
unfolding tiles_at
tiles_again bytes siz segments parts few s =
    let c : ltb most_packets (packets_of siz (tiles_said siz segments parts)) ≡ false = le-ltb _ _ few in
    rw (blank_said siz segments, s, c) refl

pub only_headers : (bytes : List ℕ) (h : Headers) → IsHeaders bytes h → headers_at bytes ≡ Ok h
unfolding headers_at headers_of codestream_text
only_headers bytes h is =
    let tree = is.tree in
    let siz = tree.siz in
    let segments = tree.segments in
    let header = is.spelled.header in
    let are = is.spelled.parts in
    let split = some_parts tree.parts are.some in
    let p = split.0 in
    let left = split.1 in
    let front = main_text siz segments in
    let n = length front in
    let body = flat_map part_text tree.parts ++ marker_text eoc in
    let text : bytes ≡ front ++ body = is.spelled.text in
    let rest : drop n bytes ≡ flat_map part_text (p ∷ left) ++ marker_text eoc =
    ap (drop n) text ∙ drop_at front body n refl ∙ ap (λ (x : List CodestreamPart). flat_map part_text x ++ marker_text eoc) split.2 in
    let starts = part_begins p (flat_map part_text left ++ marker_text eoc) in
    let begins : BeginsMain bytes siz segments = record {
      others = starts.0;
      text = text ∙ ap (λ (x : List CodestreamPart). front ++ (flat_map part_text x ++ marker_text eoc)) split.2
          ∙ ap (λ (x : List ℕ). front ++ x) (append_assoc (part_text p) (flat_map part_text left) (marker_text eoc) ∙ starts.1);
    } in
    let size = ap (λ (x : List ℕ). length x) text in
    let count : length tree.parts ≡ suc (length left) = ap (λ (x : List CodestreamPart). length x) split.2 in
    let fuel : length left < length bytes = omega (arith, size, count, many_parts tree.parts, length-append front body, length-append (flat_map part_text tree.parts) (marker_text eoc)) in
    let at : n ≡ n + 0 = omega arith in
    let read = parts_again (length bytes) siz segments bytes n [] left tree.parts p fuel header.size.few_components
    (subst (λ (x : List CodestreamPart). AllByRecursion (IsPart siz) x) split.2 are.each) (subst AreClosedBeforeLast split.2 are.closed) split.2 are.numbered (λ t lt c less. is.planes t c lt less) at rest in
    let few : packets_of siz (tiles_said siz segments tree.parts) ≤ most_packets = subst (λ (x : Headers). packets_of x.siz x.tiles ≤ most_packets) is.says is.few in
    let s1 = fields_again bytes siz segments header begins is.main_planes is.main_few in
    let s2 = tiles_again bytes siz segments tree.parts few read in
    rw (s1, s2) (ap Ok (sym is.says))

main_begins : (siz : Siz) (segments : List Segment) (rest : List ℕ) → take 2 (main_text siz segments ++ rest) ≡ marker_text soc
unfolding main_text
main_begins siz segments rest = refl

-- a codestream begins with SOC
pub begins_soc : (bytes : List ℕ) (h : Headers) → IsHeaders bytes h → take 2 bytes ≡ marker_text soc
unfolding codestream_text
begins_soc bytes h is =
    let tree = is.tree in
    ap (take 2) is.spelled.text ∙ main_begins tree.siz tree.segments (flat_map part_text tree.parts ++ marker_text eoc)
