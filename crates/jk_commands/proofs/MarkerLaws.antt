-- The markers that are met in the headers of a codestream are those of its segments.
use Rattle.std.proofs.Common.{◌≡◌, ℕ, zero, suc, ◌+◌, ◌-◌, ◌^◌, ◌<◌, ◌≤◌, true, false, not, ◌||◌, cond, eqb, ltb, List, [], ◌∷◌, ◌++◌, length, map, drop, replicate, refl, sym, ap, subst, ◌∙◌, inl, inr, append_assoc, length-append, zero-add, lit<, arith}
use Rattle.std.specs.Prelude.{◌==◌}
use Rattle.std.specs.List.{flat_map, concat, count_by, AllByRecursion}
use Rattle.std.proofs.lemmas.Bool.{true≢false, false_from_ne_true, or_from, and_right, eq-eqb, eqb-true, ne_eqb, le-ltb, cases_Bool}
use Rattle.std.proofs.lemmas.List.{drop_at}
use Rattle.std.proofs.lemmas.List.Sums.{sum_by-append, sum_by-cons}
use Rattle.byteorder.specs.Endian.{big_number, big_bytes}
use Rattle.byteorder.specs.Numbers.{length-bytes_high_first, big_number-reads_back}
use Rattle.jk_marks.specs.declared.siz.Siz.{Siz}
use Rattle.jk_marks.specs.declared.segments.Cod.{Cod}
use Rattle.jk_marks.specs.declared.segments.CodingStyle.{CodingStyle}
use Rattle.jk_marks.specs.declared.head.Heading.{Heading}
use Rattle.jk_marks.specs.declared.head.Heading.TheVariants.{MainHeader}
use Rattle.jk_marks.specs.Markers.{soc, siz, cod, coc, qcd, qcc, sot, sod, eoc, marker_text, is_listed, is_alone}
use Rattle.jk_marks.specs.Siz.{siz_text, siz_length, grid_text, component_text}
use Rattle.jk_marks.specs.Segments.{Segment, CodSegment, CocSegment, QcdSegment, QccSegment, Passed, Alone, IsSegment, contents, segment_body, segment_text, marker_of, is_passed, is_foreign}
use Rattle.jk_marks.specs.Codestream.{CodestreamPart, Tree, main_text, sot_text, part_text, part_length, psot, codestream_text, heading_of, IsMain, IsPart, AreParts, AreClosedBeforeLast, IsCodestream, BeginsMain, BeginsWith}
use Rattle.jk_marks.specs.Copying.{segment_size, main_size_at}
use Rattle.jk_marks.proofs.Laws.{coc_length, style_length, precincts_few, siz_body, siz_parts, body_length}
use Rattle.jk_marks.proofs.Laws.{EndsHeader, alone_not_passed, not_last, narrow_marker, ends_main, many_bytes, ends_part, main_sized, begins_main}
use Rattle.jk_commands.specs.HeaderMarkers.{all_segments, is_passed_over, markers_from, part_size, parts_from, part_markers, main_markers, parts_in, markers_in, is_read}
use Rattle.jk_commands.proofs.WalkLoops.{markers_stop, markers_next, parts_stop, parts_next}

-- ---- how long a segment is

-- a segment with a length
sized : (m last n : ℕ) (xs : List ℕ) → m < 2 ^ 16 → eqb m last ≡ false → is_alone m ≡ false → n < 2 ^ 16 → n ≤ 2 + length xs
    → segment_size last (marker_text m ++ (big_bytes 2 n ++ xs)) ≡ 2 + n
unfolding segment_size
sized m last n xs narrow other not_alone short fits =
    let body = big_bytes 2 n ++ xs in
    let text = marker_text m ++ body in
    let marker : big_number 2 text ≡ m = big_number-reads_back 2 m body (omega (arith, narrow)) in
    let after : drop 2 text ≡ body = drop_at (marker_text m) body 2 (length-bytes_high_first 2 m) in
    let size : big_number 2 (drop 2 text) ≡ n = ap (big_number 2) after ∙ big_number-reads_back 2 n xs (omega (arith, short)) in
    let long : length text ≡ 4 + length xs = omega (arith, length-append (marker_text m) body, length-bytes_high_first 2 m, length-append (big_bytes 2 n) xs, length-bytes_high_first 2 n) in
    let two : ltb (length text) 2 ≡ false = le-ltb _ _ (omega (arith, long)) in
    let four : ltb (length text) 4 ≡ false = le-ltb _ _ (omega (arith, long)) in
    let all : ltb (length text) (2 + n) ≡ false = le-ltb _ _ (omega (arith, long, fits)) in
    rw (two, marker, other, not_alone, four, size, all) refl

sized_alone : (m last : ℕ) (rest : List ℕ) → m < 2 ^ 16 → eqb m last ≡ false → is_alone m ≡ true → segment_size last (marker_text m ++ rest) ≡ 2
unfolding segment_size
sized_alone m last rest narrow other alone =
    let text = marker_text m ++ rest in
    let marker : big_number 2 text ≡ m = big_number-reads_back 2 m rest (omega (arith, narrow)) in
    let long : length text ≡ 2 + length rest = omega (arith, length-append (marker_text m) rest, length-bytes_high_first 2 m) in
    let two : ltb (length text) 2 ≡ false = le-ltb _ _ (omega (arith, long)) in
    rw (two, marker, other, alone) refl

-- nothing stands before the last marker
sized_last : (last : ℕ) (rest : List ℕ) → last < 2 ^ 16 → segment_size last (marker_text last ++ rest) ≡ 0
unfolding segment_size
sized_last last rest narrow =
    let text = marker_text last ++ rest in
    let marker : big_number 2 text ≡ last = big_number-reads_back 2 last rest (omega (arith, narrow)) in
    let long : length text ≡ 2 + length rest = omega (arith, length-append (marker_text last) rest, length-bytes_high_first 2 last) in
    let two : ltb (length text) 2 ≡ false = le-ltb _ _ (omega (arith, long)) in
    let same : eqb last last ≡ true = eq-eqb last last refl in
    rw (two, marker, same) refl

-- what follows the marker of a segment with a length
abbrev block : List ℕ → List ℕ
block xs = big_bytes 2 (2 + length xs) ++ xs

cod_short : (c : Cod) → length c.style.precincts ≤ 11 → 2 + length (contents (CodSegment c)) < 2 ^ 16
unfolding contents
cod_short c few = omega (arith, few, style_length c.style)

coc_short : (i : ℕ) (k : CodingStyle) → length k.precincts ≤ 11 → 2 + length (contents (CocSegment i k)) < 2 ^ 16
coc_short i k few = omega (arith, few, coc_length i k)

-- the contents of a segment, as long as they are
short_of : (heading : Heading) (n : ℕ) (s : Segment) → IsSegment heading n s → 2 + length (contents s) < 2 ^ 16
unfolding contents
short_of heading n (CodSegment c) is = cod_short c (precincts_few c.style is.1.style)
short_of heading n (CocSegment i k) is = coc_short i k (precincts_few k is.2)
short_of heading n (QcdSegment q) is = let short = is.2 in omega (arith, short)
short_of heading n (QccSegment i q) is = let short = is.3 in omega (arith, short)
short_of heading n (Passed m bytes) is = is.3
short_of heading n (Alone m) is = omega arith

passed_not_alone : (heading : Heading) (m : ℕ) → (is_passed heading m || is_foreign m) ≡ true → is_alone m ≡ false
passed_not_alone heading m may = false_from_ne_true (is_alone m) (λ alone.
    let none : (is_passed heading m || is_foreign m) ≡ false =
    or_from (is_passed heading m) (is_foreign m) (alone_not_passed heading m alone) (and_right (not (is_listed m)) (not (is_alone m)) (ap not alone)) in
    true≢false (sym may ∙ none))

with_length : (heading : Heading) (n last : ℕ) (s : Segment) (rest : List ℕ) → EndsHeader heading last → IsSegment heading n s → is_alone (marker_of s) ≡ false → segment_body s ≡ block (contents s)
    → segment_size last (segment_text s ++ rest) ≡ length (segment_text s)
with_length heading n last s rest ends is not_alone body =
    let m = marker_of s in
    let xs = contents s in
    let size : length (segment_text s) ≡ 4 + length xs =
    ap (λ (b : List ℕ). length (marker_text m ++ b)) body ∙ omega (arith, length-append (marker_text m) (block xs), length-bytes_high_first 2 m, length-append (big_bytes 2 (2 + length xs)) xs, length-bytes_high_first 2 (2 + length xs)) in
    ap (λ (b : List ℕ). segment_size last ((marker_text m ++ b) ++ rest)) body
    ∙ ap (segment_size last) (append_assoc (marker_text m) (block xs) rest ∙ ap (λ (b : List ℕ). marker_text m ++ b) (append_assoc (big_bytes 2 (2 + length xs)) xs rest))
    ∙ sized m last (2 + length xs) (xs ++ rest) (narrow_marker heading n s is) (not_last heading n last s ends is) not_alone (short_of heading n s is) (omega (arith, length-append xs rest))
    ∙ omega (arith, size)

-- The size of a segment, whatever follows it.
segment_sized : (heading : Heading) (n last : ℕ) (s : Segment) (rest : List ℕ) → EndsHeader heading last → IsSegment heading n s
    → segment_size last (segment_text s ++ rest) ≡ length (segment_text s)
unfolding segment_body
segment_sized heading n last (Alone m) rest ends is =
    let low = narrow_marker heading n (Alone m) is in
    ap (segment_size last) (append_assoc (marker_text m) [] rest)
    ∙ sized_alone m last rest low (not_last heading n last (Alone m) ends is) is
segment_sized heading n last (CodSegment c) rest ends is = with_length heading n last (CodSegment c) rest ends is refl refl
segment_sized heading n last (CocSegment i k) rest ends is = with_length heading n last (CocSegment i k) rest ends is refl refl
segment_sized heading n last (QcdSegment q) rest ends is = with_length heading n last (QcdSegment q) rest ends is refl refl
segment_sized heading n last (QccSegment i q) rest ends is = with_length heading n last (QccSegment i q) rest ends is refl refl
segment_sized heading n last (Passed m bytes) rest ends is = with_length heading n last (Passed m bytes) rest ends is (passed_not_alone heading m is.2) refl

some_text : (s : Segment) → 0 < length (segment_text s)
some_text s = omega (arith, length-append (marker_text (marker_of s)) (segment_body s), length-bytes_high_first 2 (marker_of s))

-- SIZ behind its length
abbrev siz_fields : Siz → List ℕ
siz_fields s = grid_text s ++ (big_bytes 2 s.components ++ concat (replicate s.components (component_text s)))

siz_is : (s : Siz) → siz_text s ≡ marker_text siz ++ (big_bytes 2 (siz_length s) ++ siz_fields s)
unfolding siz_text
siz_is s = refl

siz_long : (s : Siz) → length (siz_text s) ≡ 2 + siz_length s
siz_long s = ap (λ (x : List ℕ). length x) (siz_parts s) ∙ omega (arith, body_length s)

siz_sized : (s : Siz) (rest : List ℕ) → s.components ≤ 4 → segment_size sot (siz_text s ++ rest) ≡ length (siz_text s)
siz_sized s rest few =
    let fields = siz_fields s in
    let n = siz_length s in
    let long : 2 + length fields ≡ n = omega (arith, ap (λ (x : List ℕ). length x) (siz_is s), siz_long s, length-append (big_bytes 2 n) fields, length-bytes_high_first 2 n) in
    ap (λ (x : List ℕ). segment_size sot (x ++ rest)) (siz_is s)
    ∙ ap (λ (x : List ℕ). segment_size sot (marker_text siz ++ x)) (append_assoc (big_bytes 2 n) fields rest)
    ∙ sized siz sot n (fields ++ rest) (lit< tt) refl refl (omega (arith, few)) (omega (arith, long, length-append fields rest))
    ∙ sym (siz_long s)

-- what follows SOC
main_rest : (bytes : List ℕ) (s : Siz) (ss : List Segment) → (begins : BeginsMain bytes s ss) → bytes ≡ marker_text soc ++ (siz_text s ++ (flat_map segment_text ss ++ (marker_text sot ++ begins.others)))
unfolding main_text
main_rest bytes s ss begins =
    let tail = marker_text sot ++ begins.others in
    begins.text ∙ ap (λ (x : List ℕ). marker_text soc ++ x) (append_assoc (siz_text s) (flat_map segment_text ss) tail)

-- ---- the markers of a header

-- the marker of a segment
marker_read : (heading : Heading) (n : ℕ) (s : Segment) (rest : List ℕ) → IsSegment heading n s → big_number 2 (segment_text s ++ rest) ≡ marker_of s
marker_read heading n s rest is =
    let m = marker_of s in
    let low = narrow_marker heading n s is in
    ap (big_number 2) (append_assoc (marker_text m) (segment_body s) rest) ∙ big_number-reads_back 2 m (segment_body s ++ rest) (omega (arith, low))

segments_marked : (k : ℕ) (heading : Heading) (n last : ℕ) (ss : List Segment) (rest : List ℕ) → EndsHeader heading last → AllByRecursion (IsSegment heading n) ss → length ss < k
    → markers_from k last (flat_map segment_text ss ++ (marker_text last ++ rest)) ≡ map marker_of ss
segments_marked zero heading n last ss rest ends each fuel = absurd (omega (arith, fuel))
segments_marked (suc k) heading n last [] rest ends each fuel = markers_stop (suc k) last (marker_text last ++ rest) (sized_last last rest ends.narrow)
segments_marked (suc k) heading n last (s ∷ ss) rest ends each fuel =
    let text = segment_text s in
    let tail = flat_map segment_text ss ++ (marker_text last ++ rest) in
    let more = segments_marked k heading n last ss rest ends each.1 (omega (arith, fuel)) in
    ap (markers_from (suc k) last) (append_assoc text (flat_map segment_text ss) (marker_text last ++ rest))
    ∙ markers_next k last (length text) (text ++ tail) (sym (segment_sized heading n last s tail ends each.0)) (some_text s)
    ∙ ap (λ (xs : List ℕ). big_number 2 (text ++ tail) ∷ markers_from k last xs) (drop_at text tail (length text) refl)
    ∙ ap (λ m. m ∷ markers_from k last tail) (marker_read heading n s tail each.0)
    ∙ ap (λ (ms : List ℕ). marker_of s ∷ ms) more

siz_read : (s : Siz) (rest : List ℕ) → big_number 2 (siz_text s ++ rest) ≡ siz
siz_read s rest = ap (λ (x : List ℕ). big_number 2 (x ++ rest)) (siz_parts s) ∙ big_number-reads_back 2 siz (siz_body s ++ rest) (lit< tt)

pub main_marked : (bytes : List ℕ) (s : Siz) (ss : List Segment) → IsMain s ss → BeginsMain bytes s ss → main_markers bytes ≡ siz ∷ map marker_of ss
main_marked bytes s ss is begins =
    let tail = marker_text sot ++ begins.others in
    let segments = flat_map segment_text ss ++ tail in
    let text = siz_text s in
    let rest = text ++ segments in
    let n = length rest in
    let k = n - 1 in
    let after : drop 2 bytes ≡ rest = ap (drop 2) (main_rest bytes s ss begins) ∙ drop_at (marker_text soc) rest 2 (length-bytes_high_first 2 soc) in
    let long : n ≡ length text + (length (flat_map segment_text ss) + (2 + length begins.others)) =
    omega (arith, length-append text segments, length-append (flat_map segment_text ss) tail, length-append (marker_text sot) begins.others, length-bytes_high_first 2 sot) in
    let fuel : n ≡ suc k = omega (arith, long) in
    ap (λ (x : List ℕ). markers_from (length x) sot x) after
    ∙ ap (λ m. markers_from m sot rest) fuel
    ∙ markers_next k sot (length text) rest (sym (siz_sized s segments is.size.few_components)) (omega (arith, siz_long s))
    ∙ ap (λ (xs : List ℕ). big_number 2 rest ∷ markers_from k sot xs) (drop_at text segments (length text) refl)
    ∙ ap (λ m. m ∷ markers_from k sot segments) (siz_read s segments)
    ∙ ap (λ (ms : List ℕ). siz ∷ ms)
    (segments_marked k MainHeader s.components sot ss begins.others ends_main is.well_formed.each (omega (arith, long, fuel, siz_long s, many_bytes ss)))

-- ---- a tile-part

sot_size : (tile size number total : ℕ) (r : List ℕ) → drop 6 (sot_text tile size number total ++ r) ≡ big_bytes 4 size ++ (big_bytes 1 number ++ (big_bytes 1 total ++ r))
sot_size tile size number total r = refl

sot_rest : (tile size number total : ℕ) (r : List ℕ) → drop 12 (sot_text tile size number total ++ r) ≡ r
sot_rest tile size number total r = refl

part_rest : (bytes : List ℕ) (p : CodestreamPart) → (begins : BeginsWith bytes p)
    → bytes ≡ sot_text p.tile (psot p) p.number p.total ++ (flat_map segment_text p.segments ++ (marker_text sod ++ (p.content ++ begins.others)))
unfolding part_text
part_rest bytes p begins =
    begins.text ∙ ap (λ (x : List ℕ). sot_text p.tile (psot p) p.number p.total ++ x) (append_assoc (flat_map segment_text p.segments) (marker_text sod ++ p.content) begins.others)

pub part_marked : (siz : Siz) (bytes : List ℕ) (p : CodestreamPart) → IsPart siz p → BeginsWith bytes p → part_markers bytes ≡ map marker_of p.segments
part_marked siz bytes p is begins =
    let tail = marker_text sod ++ (p.content ++ begins.others) in
    let rest = flat_map segment_text p.segments ++ tail in
    let after : drop 12 bytes ≡ rest = ap (drop 12) (part_rest bytes p begins) ∙ sot_rest p.tile (psot p) p.number p.total rest in
    let long : length rest ≡ length (flat_map segment_text p.segments) + (2 + length (p.content ++ begins.others)) =
    omega (arith, length-append (flat_map segment_text p.segments) tail, length-append (marker_text sod) (p.content ++ begins.others), length-bytes_high_first 2 sod) in
    ap (λ (x : List ℕ). markers_from (length x) sod x) after
    ∙ segments_marked (length rest) (heading_of p.number) siz.components sod p.segments (p.content ++ begins.others) (ends_part p.number) is.well_formed.each (omega (arith, long, many_bytes p.segments))

-- how long a part is
text_length : (p : CodestreamPart) → length (part_text p) ≡ part_length p
unfolding part_text
text_length p =
    let segments = flat_map segment_text p.segments in
    omega (arith, length-append segments (marker_text sod ++ p.content), length-append (marker_text sod) p.content, length-bytes_high_first 2 sod)

pub part_sized : (siz : Siz) (bytes : List ℕ) (p : CodestreamPart) → IsPart siz p → BeginsWith bytes p → part_size bytes ≡ length (part_text p)
unfolding part_size
part_sized siz bytes p is begins =
    let rest = flat_map segment_text p.segments ++ (marker_text sod ++ (p.content ++ begins.others)) in
    let text = part_rest bytes p begins in
    let fits = is.fits in
    let size : length (part_text p) ≡ part_length p = text_length p in
    let all : length bytes ≡ part_length p + length begins.others = ap (λ (x : List ℕ). length x) begins.text ∙ length-append (part_text p) begins.others ∙ ap (λ n. n + length begins.others) size in
    let more = big_bytes 2 10 ++ (big_bytes 2 p.tile ++ (big_bytes 4 (psot p) ++ (big_bytes 1 p.number ++ (big_bytes 1 p.total ++ rest)))) in
    let long : ltb (length bytes) 14 ≡ false = le-ltb _ _ (omega (arith, all)) in
    let marker : big_number 2 bytes ≡ sot = ap (big_number 2) text ∙ big_number-reads_back 2 sot more (lit< tt) in
    let number : big_number 4 (drop 6 bytes) ≡ psot p =
    ap (λ (x : List ℕ). big_number 4 (drop 6 x)) text ∙ ap (big_number 4) (sot_size p.tile (psot p) p.number p.total rest)
    ∙ big_number-reads_back 4 (psot p) (big_bytes 1 p.number ++ (big_bytes 1 p.total ++ rest)) (omega (arith, fits)) in
    elim (cases_Bool p.is_open) [
      | inl opened ↦
          let zero : big_number 4 (drop 6 bytes) ≡ 0 = number ∙ ap (λ b. cond b 0 (part_length p)) opened in
          let two : length begins.others ≡ 2 = ap (λ (x : List ℕ). length x) (begins.last opened) ∙ length-bytes_high_first 2 eoc in
          let same : length bytes - 2 ≡ length (part_text p) = omega (arith, all, two, size) in
          rw (long, marker, zero) same
      | inr closed ↦
          let whole : big_number 4 (drop 6 bytes) ≡ part_length p = number ∙ ap (λ b. cond b 0 (part_length p)) closed in
          let some : eqb (part_length p) 0 ≡ false = ne_eqb _ _ (λ z. omega (arith, z)) in
          let room : ltb (length bytes) (part_length p) ≡ false = le-ltb _ _ (omega (arith, all)) in
          rw (long, marker, whole, some, room) (sym size)
    ]

-- ---- all tile-parts

closed_rest : (p : CodestreamPart) (ps : List CodestreamPart) → AreClosedBeforeLast (p ∷ ps) → AreClosedBeforeLast ps
closed_rest p [] closed = tt
closed_rest p (q ∷ qs) closed = closed.1

last_end : (p : CodestreamPart) (ps : List CodestreamPart) → AreClosedBeforeLast (p ∷ ps) → p.is_open ≡ true → flat_map part_text ps ++ marker_text eoc ≡ marker_text eoc
last_end p [] closed opened = refl
last_end p (q ∷ qs) closed opened = absurd (let clash : true ≡ false = sym opened ∙ closed.0 in cc)

none_at_end : part_size (marker_text eoc) ≡ 0
unfolding part_size
none_at_end = refl

abbrev pub markers_of_part : CodestreamPart → List ℕ
markers_of_part p = map marker_of p.segments

-- the parts that are met, and the markers of their headers
pub record AreMet (met : List (List ℕ)) (parts : List CodestreamPart) : Type 0 where
  pub count : length met ≡ length parts
  pub markers : flat_map part_markers met ≡ flat_map markers_of_part parts

parts_met : (k : ℕ) (siz : Siz) (parts : List CodestreamPart) → AllByRecursion (IsPart siz) parts → AreClosedBeforeLast parts → length parts < k
    → AreMet (parts_from k (flat_map part_text parts ++ marker_text eoc)) parts
parts_met zero siz parts each closed fuel = absurd (omega (arith, fuel))
parts_met (suc k) siz [] each closed fuel =
    let none = parts_stop (suc k) (marker_text eoc) none_at_end in
    subst (λ (ps : List (List ℕ)). AreMet ps []) (sym none) record { count = refl; markers = refl }
parts_met (suc k) siz (p ∷ ps) each closed fuel =
    let text = part_text p in
    let tail = flat_map part_text ps ++ marker_text eoc in
    let begins : BeginsWith (text ++ tail) p = record { others = tail; text = refl; last = last_end p ps closed } in
    let more = parts_met k siz ps each.1 (closed_rest p ps closed) (omega (arith, fuel)) in
    let next : parts_from (suc k) ((text ++ flat_map part_text ps) ++ marker_text eoc) ≡ (text ++ tail) ∷ parts_from k tail =
    ap (parts_from (suc k)) (append_assoc text (flat_map part_text ps) (marker_text eoc))
    ∙ parts_next k (length text) (text ++ tail) (sym (part_sized siz (text ++ tail) p each.0 begins)) (omega (arith, text_length p))
    ∙ ap (λ (xs : List ℕ). (text ++ tail) ∷ parts_from k xs) (drop_at text tail (length text) refl) in
    subst (λ (ps' : List (List ℕ)). AreMet ps' (p ∷ ps)) (sym next) record {
      count = ap (λ n. suc n) more.count;
      markers =
          ap (λ (ms : List ℕ). ms ++ flat_map part_markers (parts_from k tail)) (part_marked siz (text ++ tail) p each.0 begins)
          ∙ ap (λ (ms : List ℕ). markers_of_part p ++ ms) more.markers;
    }

many_parts : (parts : List CodestreamPart) → length parts ≤ length (flat_map part_text parts)
many_parts [] = omega arith
many_parts (p ∷ ps) = omega (arith, many_parts ps, length-append (part_text p) (flat_map part_text ps), text_length p)

pub parts_of_tree : (siz : Siz) (parts : List CodestreamPart) (bytes : List ℕ) → AreParts siz parts → bytes ≡ flat_map part_text parts ++ marker_text eoc → AreMet (parts_from (length bytes) bytes) parts
parts_of_tree siz parts bytes are text =
    let rest = flat_map part_text parts ++ marker_text eoc in
    let fuel : length parts < length rest = omega (arith, many_parts parts, length-append (flat_map part_text parts) (marker_text eoc), length-bytes_high_first 2 eoc) in
    subst (λ (x : List ℕ). AreMet (parts_from (length x) x) parts) (sym text) (parts_met (length rest) siz parts are.each are.closed fuel)

-- ---- a codestream

text_again : (t : Tree) → codestream_text t ≡ main_text t.siz t.segments ++ (flat_map part_text t.parts ++ marker_text eoc)
unfolding codestream_text
text_again t = refl

pub parts_behind : (bytes : List ℕ) (t : Tree) → IsCodestream bytes t → drop (length (main_text t.siz t.segments)) bytes ≡ flat_map part_text t.parts ++ marker_text eoc
parts_behind bytes t is =
    let main = main_text t.siz t.segments in
    ap (drop (length main)) (is.text ∙ text_again t) ∙ drop_at main (flat_map part_text t.parts ++ marker_text eoc) (length main) refl

-- ---- which of the markers are passed over

not_read : (k m : ℕ) → is_read k ≡ true → is_read m ≡ false → eqb k m ≡ false
not_read k m is other = false_from_ne_true (eqb k m) (λ e. true≢false (sym is ∙ ap is_read (eqb-true k m e) ∙ other))

segment_counted : (m : ℕ) (s : Segment) → is_read m ≡ false → eqb (marker_of s) m ≡ is_passed_over m s
segment_counted m (CodSegment c) other = not_read cod m refl other
segment_counted m (CocSegment i k) other = not_read coc m refl other
segment_counted m (QcdSegment q) other = not_read qcd m refl other
segment_counted m (QccSegment i q) other = not_read qcc m refl other
segment_counted m (Passed k bytes) other = refl
segment_counted m (Alone k) other = refl

-- how often a marker is met
abbrev pub met : ℕ → List ℕ → ℕ
met m markers = count_by (λ k. k == m) markers

-- how often it is passed over
abbrev pub passed_over : ℕ → List Segment → ℕ
passed_over m segments = count_by (is_passed_over m) segments

header_counted : (m : ℕ) (ss : List Segment) → is_read m ≡ false → met m (map marker_of ss) ≡ passed_over m ss
header_counted m [] other = refl
header_counted m (s ∷ ss) other =
    sum_by-cons (λ k. cond (k == m) 1 0) (marker_of s) (map marker_of ss)
    ∙ ap (λ b. cond b 1 0 + met m (map marker_of ss)) (segment_counted m s other)
    ∙ ap (λ n. cond (is_passed_over m s) 1 0 + n) (header_counted m ss other)
    ∙ sym (sum_by-cons (λ s. cond (is_passed_over m s) 1 0) s ss)

-- SIZ isn't met as another
siz_counted : (m : ℕ) (markers : List ℕ) → is_read m ≡ false → met m (siz ∷ markers) ≡ met m markers
siz_counted m markers other =
    sum_by-cons (λ k. cond (k == m) 1 0) siz markers
    ∙ ap (λ b. cond b 1 0 + met m markers) (not_read siz m refl other)
    ∙ zero-add (met m markers)

parts_counted : (m : ℕ) (ps : List CodestreamPart) → is_read m ≡ false → met m (flat_map markers_of_part ps) ≡ passed_over m (flat_map (λ p. p.segments) ps)
parts_counted m [] other = refl
parts_counted m (p ∷ ps) other =
    sum_by-append (λ k. cond (k == m) 1 0) (markers_of_part p) (flat_map markers_of_part ps)
    ∙ ap (λ n. n + met m (flat_map markers_of_part ps)) (header_counted m p.segments other)
    ∙ ap (λ n. passed_over m p.segments + n) (parts_counted m ps other)
    ∙ sym (sum_by-append (λ s. cond (is_passed_over m s) 1 0) p.segments (flat_map (λ p. p.segments) ps))

-- The tile-parts of a codestream are met, and each marker that says nothing as often as it is passed over.
pub record MeetsAll (bytes : List ℕ) (t : Tree) : Type 0 where
  pub parts : length (parts_in bytes (main_size_at bytes)) ≡ length t.parts
  pub markers : (m : ℕ) → is_read m ≡ false → met m (markers_in bytes (main_size_at bytes)) ≡ passed_over m (all_segments t)

pub meets_all : (bytes : List ℕ) (t : Tree) → IsCodestream bytes t → MeetsAll bytes t
meets_all bytes t is =
    let begins = begins_main bytes t is in
    let size : main_size_at bytes ≡ length (main_text t.siz t.segments) = main_sized bytes t.siz t.segments is.header begins in
    let rest = drop (main_size_at bytes) bytes in
    let behind : rest ≡ flat_map part_text t.parts ++ marker_text eoc = ap (λ n. drop n bytes) size ∙ parts_behind bytes t is in
    let parts = parts_of_tree t.siz t.parts rest is.parts behind in
    let main = main_marked bytes t.siz t.segments is.header begins in
    record {
      parts = parts.count;
      markers = λ m other.
          ap (λ (ms : List ℕ). met m (ms ++ flat_map part_markers (parts_in bytes (main_size_at bytes)))) main
          ∙ ap (λ (ms : List ℕ). met m ((siz ∷ map marker_of t.segments) ++ ms)) parts.markers
          ∙ siz_counted m (map marker_of t.segments ++ flat_map markers_of_part t.parts) other
          ∙ sum_by-append (λ k. cond (k == m) 1 0) (map marker_of t.segments) (flat_map markers_of_part t.parts)
          ∙ ap (λ n. n + met m (flat_map markers_of_part t.parts)) (header_counted m t.segments other)
          ∙ ap (λ n. passed_over m t.segments + n) (parts_counted m t.parts other)
          ∙ sym (sum_by-append (λ s. cond (is_passed_over m s) 1 0) t.segments (flat_map (λ p. p.segments) t.parts));
    }
