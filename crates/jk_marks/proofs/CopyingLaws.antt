-- Headers are copied without the segments of a marker.
use Rattle.std.proofs.Common.{◌≡◌, ℕ, zero, suc, ◌+◌, ◌-◌, ◌^◌, ◌<◌, ◌≤◌, Bool, true, false, not, ◌||◌, cond, eqb, ltb, List, [], ◌∷◌, ◌++◌, length, take, drop, replicate, refl, sym, ap, ◌∙◌, append_assoc, length-append, lit<, arith}
use Rattle.std.specs.List.{flat_map, concat, AllByRecursion}
use Rattle.std.proofs.lemmas.Bool.{true≢false, false_from_ne_true, or_from, and_right, eq-eqb, ne_eqb, le-ltb}
use Rattle.std.specs.Prelude.{Result, Ok, Err, OnOk}
use Rattle.jk_math.specs.declared.fault.Fault.{Fault}
use Rattle.std.proofs.lemmas.List.{drop_at, take_at}
use Rattle.byteorder.specs.Endian.{big_number, big_bytes}
use Rattle.byteorder.specs.Numbers.{length-bytes_high_first, big_number-reads_back}
use Rattle.jk_marks.specs.declared.siz.Siz.{Siz}
use Rattle.jk_marks.specs.declared.segments.Cod.{Cod}
use Rattle.jk_marks.specs.declared.segments.CodingStyle.{CodingStyle}
use Rattle.jk_marks.specs.declared.head.Heading.{Heading}
use Rattle.jk_marks.specs.declared.head.Heading.TheVariants.{MainHeader}
use Rattle.jk_marks.specs.Markers.{soc, siz, cod, coc, qcd, qcc, tlm, plt, sot, sod, marker_text, is_listed, is_alone}
use Rattle.jk_marks.specs.Siz.{siz_text, siz_length, grid_text, component_text}
use Rattle.jk_marks.specs.Segments.{Segment, CodSegment, CocSegment, QcdSegment, QccSegment, Passed, Alone, IsSegment, contents, segment_body, segment_text, marker_of, is_passed, is_foreign}
use Rattle.jk_marks.specs.Codestream.{CodestreamPart, main_text, sot_text, part_text, psot, heading_of, IsMain, IsPart, BeginsMain, BeginsWith}
use Rattle.jk_marks.specs.Copying.{is_passed_as, kept_segments, segment_size, kept_front, kept_at, size_at, main_kept_at, main_size_at, part_kept_at}
use Rattle.jk_marks.proofs.SegmentLaws.{coc_length, style_length, precincts_few}
use Rattle.jk_marks.proofs.HeadLaws.{apart}
use Rattle.jk_marks.proofs.HeadAgain.{EndsHeader, alone_not_passed, not_last, narrow_marker}
use Rattle.jk_marks.proofs.SizLaws.{siz_body, siz_parts, body_length}
use Rattle.jk_marks.proofs.MainLaws.{ends_main, many_bytes}
use Rattle.jk_marks.proofs.PartLaws.{ends_part}
use Rattle.jk_marks.proofs.CopyingLoops.{kept-suc, kept_stop, size-suc, size_stop}

-- ---- how long a segment is

-- a segment with a length
sized : (m last n : ℕ) (xs : List ℕ) → m < 2 ^ 16 → eqb m last ≡ false → is_alone m ≡ false → n < 2 ^ 16 → n ≤ 2 + length xs
    → segment_size last (marker_text m ++ (big_bytes 2 n ++ xs)) ≡ 2 + n
unfolding segment_size
sized m last n xs narrow other not_alone short fits =
    let body = big_bytes 2 n ++ xs in
    let text = marker_text m ++ body in
    let marker : big_number 2 text ≡ m = big_number-reads_back 2 m body (omega (arith, narrow)) in
    let after : drop 2 text ≡ body = drop_at (marker_text m) body 2 (length-bytes_high_first 2 m) in
    let size : big_number 2 (drop 2 text) ≡ n = ap (big_number 2) after ∙ big_number-reads_back 2 n xs (omega (arith, short)) in
    let long : length text ≡ 4 + length xs = omega (arith, length-append (marker_text m) body, length-bytes_high_first 2 m, length-append (big_bytes 2 n) xs, length-bytes_high_first 2 n) in
    let two : ltb (length text) 2 ≡ false = le-ltb _ _ (omega (arith, long)) in
    let four : ltb (length text) 4 ≡ false = le-ltb _ _ (omega (arith, long)) in
    let all : ltb (length text) (2 + n) ≡ false = le-ltb _ _ (omega (arith, long, fits)) in
    rw (two, marker, other, not_alone, four, size, all) refl

sized_alone : (m last : ℕ) (rest : List ℕ) → m < 2 ^ 16 → eqb m last ≡ false → is_alone m ≡ true → segment_size last (marker_text m ++ rest) ≡ 2
unfolding segment_size
sized_alone m last rest narrow other alone =
    let text = marker_text m ++ rest in
    let marker : big_number 2 text ≡ m = big_number-reads_back 2 m rest (omega (arith, narrow)) in
    let long : length text ≡ 2 + length rest = omega (arith, length-append (marker_text m) rest, length-bytes_high_first 2 m) in
    let two : ltb (length text) 2 ≡ false = le-ltb _ _ (omega (arith, long)) in
    rw (two, marker, other, alone) refl

-- nothing stands before the last marker
sized_last : (last : ℕ) (rest : List ℕ) → last < 2 ^ 16 → segment_size last (marker_text last ++ rest) ≡ 0
unfolding segment_size
sized_last last rest narrow =
    let text = marker_text last ++ rest in
    let marker : big_number 2 text ≡ last = big_number-reads_back 2 last rest (omega (arith, narrow)) in
    let long : length text ≡ 2 + length rest = omega (arith, length-append (marker_text last) rest, length-bytes_high_first 2 last) in
    let two : ltb (length text) 2 ≡ false = le-ltb _ _ (omega (arith, long)) in
    let same : eqb last last ≡ true = eq-eqb last last refl in
    rw (two, marker, same) refl

-- what follows the marker of a segment with a length
abbrev block : List ℕ → List ℕ
block xs = big_bytes 2 (2 + length xs) ++ xs

cod_short : (c : Cod) → length c.style.precincts ≤ 11 → 2 + length (contents (CodSegment c)) < 2 ^ 16
unfolding contents
cod_short c few = omega (arith, few, style_length c.style)

coc_short : (i : ℕ) (k : CodingStyle) → length k.precincts ≤ 11 → 2 + length (contents (CocSegment i k)) < 2 ^ 16
coc_short i k few = omega (arith, few, coc_length i k)

-- the contents of a segment, as long as they are
short_of : (heading : Heading) (n : ℕ) (s : Segment) → IsSegment heading n s → 2 + length (contents s) < 2 ^ 16
unfolding contents
short_of heading n (CodSegment c) is = cod_short c (precincts_few c.style is.1.style)
short_of heading n (CocSegment i k) is = coc_short i k (precincts_few k is.2)
short_of heading n (QcdSegment q) is = let short = is.2 in omega (arith, short)
short_of heading n (QccSegment i q) is = let short = is.3 in omega (arith, short)
short_of heading n (Passed m bytes) is = is.3
short_of heading n (Alone m) is = omega arith

passed_not_alone : (heading : Heading) (m : ℕ) → (is_passed heading m || is_foreign m) ≡ true → is_alone m ≡ false
passed_not_alone heading m may = false_from_ne_true (is_alone m) (λ alone.
    let none : (is_passed heading m || is_foreign m) ≡ false =
    or_from (is_passed heading m) (is_foreign m) (alone_not_passed heading m alone) (and_right (not (is_listed m)) (not (is_alone m)) (ap not alone)) in
    true≢false (sym may ∙ none))

with_length : (heading : Heading) (n last : ℕ) (s : Segment) (rest : List ℕ) → EndsHeader heading last → IsSegment heading n s → is_alone (marker_of s) ≡ false → segment_body s ≡ block (contents s)
    → segment_size last (segment_text s ++ rest) ≡ length (segment_text s)
with_length heading n last s rest ends is not_alone body =
    let m = marker_of s in
    let xs = contents s in
    let size : length (segment_text s) ≡ 4 + length xs =
    ap (λ (b : List ℕ). length (marker_text m ++ b)) body ∙ omega (arith, length-append (marker_text m) (block xs), length-bytes_high_first 2 m, length-append (big_bytes 2 (2 + length xs)) xs, length-bytes_high_first 2 (2 + length xs)) in
    ap (λ (b : List ℕ). segment_size last ((marker_text m ++ b) ++ rest)) body
    ∙ ap (segment_size last) (append_assoc (marker_text m) (block xs) rest ∙ ap (λ (b : List ℕ). marker_text m ++ b) (append_assoc (big_bytes 2 (2 + length xs)) xs rest))
    ∙ sized m last (2 + length xs) (xs ++ rest) (narrow_marker heading n s is) (not_last heading n last s ends is) not_alone (short_of heading n s is) (omega (arith, length-append xs rest))
    ∙ omega (arith, size)

-- The size of a segment, whatever follows it.
segment_sized : (heading : Heading) (n last : ℕ) (s : Segment) (rest : List ℕ) → EndsHeader heading last → IsSegment heading n s
    → segment_size last (segment_text s ++ rest) ≡ length (segment_text s)
unfolding segment_body
segment_sized heading n last (Alone m) rest ends is =
    let low = narrow_marker heading n (Alone m) is in
    ap (segment_size last) (append_assoc (marker_text m) [] rest)
    ∙ sized_alone m last rest low (not_last heading n last (Alone m) ends is) is
segment_sized heading n last (CodSegment c) rest ends is = with_length heading n last (CodSegment c) rest ends is refl refl
segment_sized heading n last (CocSegment i k) rest ends is = with_length heading n last (CocSegment i k) rest ends is refl refl
segment_sized heading n last (QcdSegment q) rest ends is = with_length heading n last (QcdSegment q) rest ends is refl refl
segment_sized heading n last (QccSegment i q) rest ends is = with_length heading n last (QccSegment i q) rest ends is refl refl
segment_sized heading n last (Passed m bytes) rest ends is = with_length heading n last (Passed m bytes) rest ends is (passed_not_alone heading m is.2) refl

-- ---- which segments are kept

-- a marker under which segments may be left out
record IsLeftOut (out : ℕ) : Type 0 where
  no_cod : eqb cod out ≡ false
  no_coc : eqb coc out ≡ false
  no_qcd : eqb qcd out ≡ false
  no_qcc : eqb qcc out ≡ false
  no_siz : eqb siz out ≡ false
  not_alone : is_alone out ≡ false

tlm_out : IsLeftOut tlm
tlm_out = record { no_cod = refl; no_coc = refl; no_qcd = refl; no_qcc = refl; no_siz = refl; not_alone = refl }

plt_out : IsLeftOut plt
plt_out = record { no_cod = refl; no_coc = refl; no_qcd = refl; no_qcc = refl; no_siz = refl; not_alone = refl }

marker_out : (heading : Heading) (n out : ℕ) (s : Segment) → IsLeftOut out → IsSegment heading n s → eqb (marker_of s) out ≡ is_passed_as out s
marker_out heading n out (CodSegment c) o is = o.no_cod
marker_out heading n out (CocSegment i k) o is = o.no_coc
marker_out heading n out (QcdSegment q) o is = o.no_qcd
marker_out heading n out (QccSegment i q) o is = o.no_qcc
marker_out heading n out (Passed m bytes) o is = refl
marker_out heading n out (Alone m) o is = apart is_alone m out is o.not_alone

put_kept : (b : Bool) (s : Segment) (ks : List Segment) → cond b [] (segment_text s) ++ flat_map segment_text ks ≡ flat_map segment_text (cond (not b) (s ∷ ks) ks)
put_kept true s ks = refl
put_kept false s ks = refl

-- the segment at the front
front_is : (heading : Heading) (n out : ℕ) (s : Segment) (rest : List ℕ) → IsLeftOut out → IsSegment heading n s
    → kept_front (length (segment_text s)) out (segment_text s ++ rest) ≡ cond (is_passed_as out s) [] (segment_text s)
front_is heading n out s rest o is =
    let m = marker_of s in
    let text = segment_text s in
    let low = narrow_marker heading n s is in
    let marker : big_number 2 (text ++ rest) ≡ m = ap (big_number 2) (append_assoc (marker_text m) (segment_body s) rest) ∙ big_number-reads_back 2 m (segment_body s ++ rest) (omega (arith, low)) in
    ap (λ k. cond (eqb k out) [] (take (length text) (text ++ rest))) marker
    ∙ ap (λ b. cond b [] (take (length text) (text ++ rest))) (marker_out heading n out s o is)
    ∙ ap (λ (xs : List ℕ). cond (is_passed_as out s) [] xs) (take_at text rest (length text) refl)

some_text : (s : Segment) → 0 < length (segment_text s)
some_text s = omega (arith, length-append (marker_text (marker_of s)) (segment_body s), length-bytes_high_first 2 (marker_of s))

-- one segment, of which `size` bytes are known
one_kept : (k last out size : ℕ) (text rest : List ℕ) → size ≡ length text → segment_size last (text ++ rest) ≡ size → 0 < size
    → kept_at (suc k) last out (text ++ rest) ≡ kept_front size out (text ++ rest) ++ kept_at k last out rest
one_kept k last out size text rest long is some =
    let all = text ++ rest in
    let not_none : eqb (segment_size last all) 0 ≡ false = ne_eqb _ _ (λ z. omega (arith, z, is, some)) in
    kept-suc k last out all
    ∙ ap (λ b. cond b [] (kept_front (segment_size last all) out all ++ kept_at k last out (drop (segment_size last all) all))) not_none
    ∙ ap (λ n. kept_front n out all ++ kept_at k last out (drop n all)) is
    ∙ ap (λ (xs : List ℕ). kept_front size out all ++ kept_at k last out xs) (drop_at text rest size (sym long))

one_sized : (k last size : ℕ) (text rest : List ℕ) → size ≡ length text → segment_size last (text ++ rest) ≡ size → 0 < size
    → size_at (suc k) last (text ++ rest) ≡ size + size_at k last rest
one_sized k last size text rest long is some =
    let all = text ++ rest in
    let not_none : eqb (segment_size last all) 0 ≡ false = ne_eqb _ _ (λ z. omega (arith, z, is, some)) in
    size-suc k last all
    ∙ ap (λ b. cond b 0 (segment_size last all + size_at k last (drop (segment_size last all) all))) not_none
    ∙ ap (λ n. n + size_at k last (drop n all)) is
    ∙ ap (λ (xs : List ℕ). size + size_at k last xs) (drop_at text rest size (sym long))

segments_kept : (k : ℕ) (heading : Heading) (n last out : ℕ) (ss : List Segment) (rest : List ℕ) → IsLeftOut out → EndsHeader heading last → AllByRecursion (IsSegment heading n) ss → length ss < k
    → kept_at k last out (flat_map segment_text ss ++ (marker_text last ++ rest)) ≡ flat_map segment_text (kept_segments out ss)
segments_kept zero heading n last out ss rest o ends each fuel = absurd (omega (arith, fuel))
segments_kept (suc k) heading n last out [] rest o ends each fuel = kept_stop (suc k) last out (marker_text last ++ rest) (sized_last last rest ends.narrow)
segments_kept (suc k) heading n last out (s ∷ ss) rest o ends each fuel =
    let text = segment_text s in
    let tail = flat_map segment_text ss ++ (marker_text last ++ rest) in
    let more = segments_kept k heading n last out ss rest o ends each.1 (omega (arith, fuel)) in
    ap (kept_at (suc k) last out) (append_assoc text (flat_map segment_text ss) (marker_text last ++ rest))
    ∙ one_kept k last out (length text) text tail refl (segment_sized heading n last s tail ends each.0) (some_text s)
    ∙ ap (λ (xs : List ℕ). xs ++ kept_at k last out tail) (front_is heading n out s tail o each.0)
    ∙ ap (λ (xs : List ℕ). cond (is_passed_as out s) [] text ++ xs) more
    ∙ put_kept (is_passed_as out s) s (kept_segments out ss)

segments_sized : (k : ℕ) (heading : Heading) (n last : ℕ) (ss : List Segment) (rest : List ℕ) → EndsHeader heading last → AllByRecursion (IsSegment heading n) ss → length ss < k
    → size_at k last (flat_map segment_text ss ++ (marker_text last ++ rest)) ≡ length (flat_map segment_text ss)
segments_sized zero heading n last ss rest ends each fuel = absurd (omega (arith, fuel))
segments_sized (suc k) heading n last [] rest ends each fuel = size_stop (suc k) last (marker_text last ++ rest) (sized_last last rest ends.narrow)
segments_sized (suc k) heading n last (s ∷ ss) rest ends each fuel =
    let text = segment_text s in
    let tail = flat_map segment_text ss ++ (marker_text last ++ rest) in
    let more = segments_sized k heading n last ss rest ends each.1 (omega (arith, fuel)) in
    ap (size_at (suc k) last) (append_assoc text (flat_map segment_text ss) (marker_text last ++ rest))
    ∙ one_sized k last (length text) text tail refl (segment_sized heading n last s tail ends each.0) (some_text s)
    ∙ ap (λ m. length text + m) more
    ∙ sym (length-append text (flat_map segment_text ss))

-- ---- a main header

-- SIZ behind its length
abbrev siz_fields : Siz → List ℕ
siz_fields s = grid_text s ++ (big_bytes 2 s.components ++ concat (replicate s.components (component_text s)))

siz_is : (s : Siz) → siz_text s ≡ marker_text siz ++ (big_bytes 2 (siz_length s) ++ siz_fields s)
unfolding siz_text
siz_is s = refl

siz_long : (s : Siz) → length (siz_text s) ≡ 2 + siz_length s
siz_long s = ap (λ (x : List ℕ). length x) (siz_parts s) ∙ omega (arith, body_length s)

siz_sized : (s : Siz) (rest : List ℕ) → s.components ≤ 4 → segment_size sot (siz_text s ++ rest) ≡ length (siz_text s)
siz_sized s rest few =
    let fields = siz_fields s in
    let n = siz_length s in
    let long : 2 + length fields ≡ n = omega (arith, ap (λ (x : List ℕ). length x) (siz_is s), siz_long s, length-append (big_bytes 2 n) fields, length-bytes_high_first 2 n) in
    ap (λ (x : List ℕ). segment_size sot (x ++ rest)) (siz_is s)
    ∙ ap (λ (x : List ℕ). segment_size sot (marker_text siz ++ x)) (append_assoc (big_bytes 2 n) fields rest)
    ∙ sized siz sot n (fields ++ rest) (lit< tt) refl refl (omega (arith, few)) (omega (arith, long, length-append fields rest))
    ∙ sym (siz_long s)

siz_front : (s : Siz) (rest : List ℕ) → kept_front (length (siz_text s)) tlm (siz_text s ++ rest) ≡ siz_text s
siz_front s rest =
    let text = siz_text s in
    let marker : big_number 2 (text ++ rest) ≡ siz = ap (λ (x : List ℕ). big_number 2 (x ++ rest)) (siz_parts s) ∙ big_number-reads_back 2 siz (siz_body s ++ rest) (lit< tt) in
    ap (λ k. cond (eqb k tlm) [] (take (length text) (text ++ rest))) marker ∙ take_at text rest (length text) refl

-- what follows SOC
main_rest : (bytes : List ℕ) (s : Siz) (ss : List Segment) → (begins : BeginsMain bytes s ss) → bytes ≡ marker_text soc ++ (siz_text s ++ (flat_map segment_text ss ++ (marker_text sot ++ begins.others)))
unfolding main_text
main_rest bytes s ss begins =
    let tail = marker_text sot ++ begins.others in
    begins.text ∙ ap (λ (x : List ℕ). marker_text soc ++ x) (append_assoc (siz_text s) (flat_map segment_text ss) tail)

main_again : (s : Siz) (ss : List Segment) → main_text s ss ≡ marker_text soc ++ (siz_text s ++ flat_map segment_text ss)
unfolding main_text
main_again s ss = refl

pub main_long : (bytes : List ℕ) (s : Siz) (ss : List Segment) → BeginsMain bytes s ss → 2 ≤ length bytes
main_long bytes s ss begins = omega (arith, ap (λ (x : List ℕ). length x) (main_rest bytes s ss begins))

pub main_kept : (bytes : List ℕ) (s : Siz) (ss : List Segment) → IsMain s ss → BeginsMain bytes s ss → main_kept_at bytes ≡ main_text s (kept_segments tlm ss)
main_kept bytes s ss is begins =
    let tail = marker_text sot ++ begins.others in
    let segments = flat_map segment_text ss ++ tail in
    let rest = siz_text s ++ segments in
    let n = length rest in
    let k = n - 1 in
    let text = main_rest bytes s ss begins in
    let front : take 2 bytes ≡ marker_text soc = ap (take 2) text ∙ take_at (marker_text soc) rest 2 (length-bytes_high_first 2 soc) in
    let after : drop 2 bytes ≡ rest = ap (drop 2) text ∙ drop_at (marker_text soc) rest 2 (length-bytes_high_first 2 soc) in
    let long : n ≡ length (siz_text s) + (length (flat_map segment_text ss) + (2 + length begins.others)) =
    omega (arith, length-append (siz_text s) segments, length-append (flat_map segment_text ss) tail, length-append (marker_text sot) begins.others, length-bytes_high_first 2 sot) in
    let fuel : n ≡ suc k = omega (arith, long) in
    ap (λ (x : List ℕ). x ++ kept_at (length (drop 2 bytes)) sot tlm (drop 2 bytes)) front
    ∙ ap (λ (x : List ℕ). marker_text soc ++ kept_at (length x) sot tlm x) after
    ∙ ap (λ m. marker_text soc ++ kept_at m sot tlm rest) fuel
    ∙ ap (λ (x : List ℕ). marker_text soc ++ x)
    (one_kept k sot tlm (length (siz_text s)) (siz_text s) segments refl (siz_sized s segments is.size.few_components) (omega (arith, siz_long s))
    ∙ ap (λ (x : List ℕ). x ++ kept_at k sot tlm segments) (siz_front s segments)
    ∙ ap (λ (x : List ℕ). siz_text s ++ x)
    (segments_kept k MainHeader s.components sot tlm ss begins.others tlm_out ends_main is.well_formed.each (omega (arith, long, fuel, siz_long s, many_bytes ss))))
    ∙ sym (main_again s (kept_segments tlm ss))

pub main_sized : (bytes : List ℕ) (s : Siz) (ss : List Segment) → IsMain s ss → BeginsMain bytes s ss → main_size_at bytes ≡ length (main_text s ss)
main_sized bytes s ss is begins =
    let tail = marker_text sot ++ begins.others in
    let segments = flat_map segment_text ss ++ tail in
    let rest = siz_text s ++ segments in
    let n = length rest in
    let k = n - 1 in
    let text = main_rest bytes s ss begins in
    let after : drop 2 bytes ≡ rest = ap (drop 2) text ∙ drop_at (marker_text soc) rest 2 (length-bytes_high_first 2 soc) in
    let long : n ≡ length (siz_text s) + (length (flat_map segment_text ss) + (2 + length begins.others)) =
    omega (arith, length-append (siz_text s) segments, length-append (flat_map segment_text ss) tail, length-append (marker_text sot) begins.others, length-bytes_high_first 2 sot) in
    let fuel : n ≡ suc k = omega (arith, long) in
    let all : size_at (length (drop 2 bytes)) sot (drop 2 bytes) ≡ length (siz_text s) + length (flat_map segment_text ss) =
    ap (λ (x : List ℕ). size_at (length x) sot x) after
    ∙ ap (λ m. size_at m sot rest) fuel
    ∙ one_sized k sot (length (siz_text s)) (siz_text s) segments refl (siz_sized s segments is.size.few_components) (omega (arith, siz_long s))
    ∙ ap (λ m. length (siz_text s) + m) (segments_sized k MainHeader s.components sot ss begins.others ends_main is.well_formed.each (omega (arith, long, fuel, siz_long s, many_bytes ss))) in
    omega (arith, all, ap (λ (x : List ℕ). length x) (main_again s ss), length-append (siz_text s) (flat_map segment_text ss))

-- ---- a tile-part

sot_rest : (tile size number total : ℕ) (r : List ℕ) → drop 12 (sot_text tile size number total ++ r) ≡ r
sot_rest tile size number total r = refl

pub part_rest : (bytes : List ℕ) (p : CodestreamPart) → (begins : BeginsWith bytes p)
    → bytes ≡ sot_text p.tile (psot p) p.number p.total ++ (flat_map segment_text p.segments ++ (marker_text sod ++ (p.content ++ begins.others)))
unfolding part_text
part_rest bytes p begins =
    begins.text ∙ ap (λ (x : List ℕ). sot_text p.tile (psot p) p.number p.total ++ x) (append_assoc (flat_map segment_text p.segments) (marker_text sod ++ p.content) begins.others)

pub part_long : (bytes : List ℕ) (p : CodestreamPart) → BeginsWith bytes p → 12 ≤ length bytes
part_long bytes p begins = omega (arith, ap (λ (x : List ℕ). length x) (part_rest bytes p begins))

pub part_kept : (siz : Siz) (bytes : List ℕ) (p : CodestreamPart) → IsPart siz p → BeginsWith bytes p → part_kept_at bytes ≡ flat_map segment_text (kept_segments plt p.segments)
part_kept siz bytes p is begins =
    let tail = marker_text sod ++ (p.content ++ begins.others) in
    let rest = flat_map segment_text p.segments ++ tail in
    let after : drop 12 bytes ≡ rest = ap (drop 12) (part_rest bytes p begins) ∙ sot_rest p.tile (psot p) p.number p.total rest in
    let long : length rest ≡ length (flat_map segment_text p.segments) + (2 + length (p.content ++ begins.others)) =
    omega (arith, length-append (flat_map segment_text p.segments) tail, length-append (marker_text sod) (p.content ++ begins.others), length-bytes_high_first 2 sod) in
    ap (λ (x : List ℕ). kept_at (length x) sod plt x) after
    ∙ segments_kept (length rest) (heading_of p.number) siz.components sod plt p.segments (p.content ++ begins.others) plt_out (ends_part p.number) is.well_formed.each (omega (arith, long, many_bytes p.segments))

-- ---- what holds where a call succeeds

pub on_ok_map : {A : Type 0} {P Q : Type 0} (r : Result A Fault) → (P → Q) → OnOk r P → OnOk r Q
on_ok_map (Ok x) f h = f h
on_ok_map (Err e) f h = tt
