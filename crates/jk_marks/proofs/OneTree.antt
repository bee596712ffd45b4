-- A codestream is spelled by one tree at most.
use Rattle.std.proofs.Common.{◌≡◌, ℕ, ◌+◌, ◌*◌, ◌<◌, ◌≤◌, ◌^◌, Bool, true, false, not, cond, eqb, List, [], ◌∷◌, ◌++◌, length, take, drop, refl, sym, ap, subst, ◌∙◌, append_assoc, arith, lit≤, lit<}
use Rattle.std.specs.List.{flat_map, AllByRecursion}
use Rattle.std.proofs.lemmas.Bool.{true≢false, false_from_ne_true, or_from, and_right, eqb-false}
use Rattle.std.proofs.lemmas.List.{drop_at, take_at, length-append, append-nil}
use Rattle.byteorder.specs.Endian.{big_number, big_bytes}
use Rattle.byteorder.specs.Numbers.{length-bytes_high_first, big_number-reads_back}
use Rattle.jk_math.specs.Steps.{ok_is}
use Rattle.jk_marks.specs.declared.siz.Siz.{Siz}
use Rattle.jk_marks.specs.declared.segments.Cod.{Cod}
use Rattle.jk_marks.specs.declared.segments.CodingStyle.{CodingStyle}
use Rattle.jk_marks.specs.declared.head.Heading.{Heading}
use Rattle.jk_marks.specs.declared.head.Heading.TheVariants.{MainHeader}
use Rattle.jk_marks.specs.declared.main_header.Main.{Main}
use Rattle.jk_marks.specs.Place.{ReadingPlace}
use Rattle.jk_marks.specs.Markers.{cod, coc, qcd, soc, sot, sod, eoc, marker_text, is_listed, is_alone}
use Rattle.jk_marks.specs.Siz.{siz_text}
use Rattle.jk_marks.specs.Segments.{Segment, CodSegment, CocSegment, QcdSegment, QccSegment, Passed, Alone, StepSizes, IsSegment, contents, segment_body, segment_text, marker_of, is_passed, is_foreign}
use Rattle.jk_marks.specs.Codestream.{CodestreamPart, Tree, main_text, main_of, sot_text, part_text, part_length, psot, heading_of, codestream_text, IsMain, IsPart, AreClosedBeforeLast, BeginsMain, IsCodestream}
use Rattle.jk_marks.proofs.SegmentLaws.{cod_again}
use Rattle.jk_marks.proofs.ComponentLaws.{coc_again}
use Rattle.jk_marks.proofs.HeadAgain.{EndsHeader, is_other, other_cod, other_coc, other_qcd, other_qcc, alone_not_passed, not_last, narrow_marker}
use Rattle.jk_marks.proofs.MainLaws.{only_main, ends_main}
use Rattle.jk_marks.proofs.PartLaws.{ends_part}

-- ---- pieces of a text

-- a number at the front
fixed : (n x y : ℕ) (r s : List ℕ) → x < 256 ^ n → y < 256 ^ n → big_bytes n x ++ r ≡ big_bytes n y ++ s → (x ≡ y) × (r ≡ s)
fixed n x y r s low high e = (
  sym (big_number-reads_back n x r low) ∙ ap (big_number n) e ∙ big_number-reads_back n y s high,
  sym (drop_at (big_bytes n x) r n (length-bytes_high_first n x)) ∙ ap (drop n) e ∙ drop_at (big_bytes n y) s n (length-bytes_high_first n y),
)

-- two fronts of one length
fronts : (xs ys r s : List ℕ) → length xs ≡ length ys → xs ++ r ≡ ys ++ s → (xs ≡ ys) × (r ≡ s)
fronts xs ys r s len e =
    let n = length ys in
    (sym (take_at xs r n len) ∙ ap (take n) e ∙ take_at ys s n refl, sym (drop_at xs r n len) ∙ ap (drop n) e ∙ drop_at ys s n refl)

-- contents behind their length
block : (xs ys r s : List ℕ) → 2 + length xs < 2 ^ 16 → 2 + length ys < 2 ^ 16 → (big_bytes 2 (2 + length xs) ++ xs) ++ r ≡ (big_bytes 2 (2 + length ys) ++ ys) ++ s → (xs ≡ ys) × (r ≡ s)
block xs ys r s short narrow e =
    let f = fixed 2 (2 + length xs) (2 + length ys) (xs ++ r) (ys ++ s) (omega (arith, short)) (omega (arith, narrow)) e in
    fronts xs ys r s (omega (arith, f.0)) f.1

-- ---- segments

-- the kind of a segment, and of its marker
abbrev kind : Segment → ℕ
kind (CodSegment c) = 0
kind (CocSegment i k) = 1
kind (QcdSegment q) = 2
kind (QccSegment i q) = 3
kind (Passed m bytes) = 4
kind (Alone m) = 5

abbrev kind_at : Heading → ℕ → ℕ
kind_at heading m = cond (is_alone m) 5 (cond (is_other heading m) 4 (cond (eqb m cod) 0 (cond (eqb m coc) 1 (cond (eqb m qcd) 2 3))))

other_not_alone : (heading : Heading) (m : ℕ) → is_other heading m ≡ true → is_alone m ≡ false
other_not_alone heading m may = false_from_ne_true (is_alone m) (λ alone.
    let none : is_other heading m ≡ false =
    or_from (is_passed heading m) (is_foreign m) (alone_not_passed heading m alone) (and_right (not (is_listed m)) (not (is_alone m)) (ap not alone)) in
    true≢false (sym may ∙ none))

kind_is : (heading : Heading) (n : ℕ) (s : Segment) → IsSegment heading n s → kind_at heading (marker_of s) ≡ kind s
kind_is heading n (CodSegment c) is = rw (other_cod heading) refl
kind_is heading n (CocSegment i k) is = rw (other_coc heading) refl
kind_is heading n (QcdSegment q) is = rw (other_qcd heading) refl
kind_is heading n (QccSegment i q) is = rw (other_qcc heading) refl
kind_is heading n (Passed m bytes) is =
    let coded = cond (eqb m cod) 0 (cond (eqb m coc) 1 (cond (eqb m qcd) 2 3)) in
    ap (λ b. cond b 5 (cond (is_other heading m) 4 coded)) (other_not_alone heading m is.2) ∙ ap (λ b. cond b 4 coded) is.2
kind_is heading n (Alone m) is = rw is refl

-- a place in front of a text
abbrev before : List ℕ → ReadingPlace
before text = record { rest = text; at = 0; room = 2 }

cod_one : (n : ℕ) (c d : Cod) (r q : List ℕ) (heading : Heading) → IsSegment heading n (CodSegment c) → IsSegment heading n (CodSegment d) → segment_body (CodSegment c) ++ r ≡ segment_body (CodSegment d) ++ q
    → (CodSegment c ≡ CodSegment d) × (r ≡ q)
cod_one n c d r q heading is too e =
    let a = cod_again n c (before (segment_body (CodSegment c) ++ r)) r refl is.1 (lit≤ tt) in
    let b = cod_again n d (before (segment_body (CodSegment c) ++ r)) q e too.1 (lit≤ tt) in
    let same : (c, a.0) ≡ (d, b.0) = ok_is (c, a.0) (d, b.0) (sym a.1 ∙ b.1) in
    (ap (λ (x : Cod × ReadingPlace). CodSegment x.0) same, sym a.2 ∙ ap (λ (x : Cod × ReadingPlace). x.1.rest) same ∙ b.2)

coc_one : (n i j : ℕ) (k l : CodingStyle) (r q : List ℕ) (heading : Heading) → n ≤ 4 → IsSegment heading n (CocSegment i k) → IsSegment heading n (CocSegment j l)
    → segment_body (CocSegment i k) ++ r ≡ segment_body (CocSegment j l) ++ q → (CocSegment i k ≡ CocSegment j l) × (r ≡ q)
coc_one n i j k l r q heading few is too e =
    let a = coc_again [] n i k (before (segment_body (CocSegment i k) ++ r)) r refl is.1 few is.2 refl (lit≤ tt) in
    let b = coc_again [] n j l (before (segment_body (CocSegment i k) ++ r)) q e too.1 few too.2 refl (lit≤ tt) in
    let same : ((i, k), a.0) ≡ ((j, l), b.0) = ok_is ((i, k), a.0) ((j, l), b.0) (sym a.1 ∙ b.1) in
    (ap (λ (x : (ℕ × CodingStyle) × ReadingPlace). CocSegment x.0.0 x.0.1) same, sym a.2 ∙ ap (λ (x : (ℕ × CodingStyle) × ReadingPlace). x.1.rest) same ∙ b.2)

steps_one : (s t : StepSizes) → (32 * s.guard ∷ s.bytes) ≡ (32 * t.guard ∷ t.bytes) → s ≡ t
steps_one s t e =
    let first : 32 * s.guard ≡ 32 * t.guard = cc in
    let guard : s.guard ≡ t.guard = omega (arith, first) in
    let bytes : s.bytes ≡ t.bytes = cc in
    λ i. record { guard = guard i; bytes = bytes i }

qcd_one : (n : ℕ) (s t : StepSizes) (r q : List ℕ) (heading : Heading) → IsSegment heading n (QcdSegment s) → IsSegment heading n (QcdSegment t) → segment_body (QcdSegment s) ++ r ≡ segment_body (QcdSegment t) ++ q
    → (QcdSegment s ≡ QcdSegment t) × (r ≡ q)
unfolding segment_body contents
qcd_one n s t r q heading is too e =
    let short = is.2 in
    let narrow = too.2 in
    let b = block (32 * s.guard ∷ s.bytes) (32 * t.guard ∷ t.bytes) r q (omega (arith, short)) (omega (arith, narrow)) e in
    (ap QcdSegment (steps_one s t b.0), b.1)

qcc_one : (n i j : ℕ) (s t : StepSizes) (r q : List ℕ) (heading : Heading) → IsSegment heading n (QccSegment i s) → IsSegment heading n (QccSegment j t) → segment_body (QccSegment i s) ++ r ≡ segment_body (QccSegment j t) ++ q
    → (QccSegment i s ≡ QccSegment j t) × (r ≡ q)
unfolding segment_body contents
qcc_one n i j s t r q heading is too e =
    let short = is.3 in
    let narrow = too.3 in
    let b = block (i ∷ 32 * s.guard ∷ s.bytes) (j ∷ 32 * t.guard ∷ t.bytes) r q (omega (arith, short)) (omega (arith, narrow)) e in
    let same = b.0 in
    let first : i ≡ j = cc in
    let others : (32 * s.guard ∷ s.bytes) ≡ (32 * t.guard ∷ t.bytes) = cc in
    (ap (λ k. QccSegment k s) first ∙ ap (λ (x : StepSizes). QccSegment j x) (steps_one s t others), b.1)

passed_one : (n m k : ℕ) (xs ys r q : List ℕ) (heading : Heading) → IsSegment heading n (Passed m xs) → IsSegment heading n (Passed k ys) → m ≡ k
    → segment_body (Passed m xs) ++ r ≡ segment_body (Passed k ys) ++ q → (Passed m xs ≡ Passed k ys) × (r ≡ q)
unfolding segment_body contents
passed_one n m k xs ys r q heading is too same e =
    let b = block xs ys r q is.3 too.3 e in
    (ap (λ x. Passed x xs) same ∙ ap (λ (x : List ℕ). Passed k x) b.0, b.1)

alone_one : (m k : ℕ) (r q : List ℕ) → m ≡ k → segment_body (Alone m) ++ r ≡ segment_body (Alone k) ++ q → (Alone m ≡ Alone k) × (r ≡ q)
unfolding segment_body
alone_one m k r q same e = (ap Alone same, e)

body_one : (heading : Heading) (n : ℕ) (s t : Segment) (r q : List ℕ) → n ≤ 4 → IsSegment heading n s → IsSegment heading n t → kind s ≡ kind t → marker_of s ≡ marker_of t
    → segment_body s ++ r ≡ segment_body t ++ q → (s ≡ t) × (r ≡ q)
body_one heading n (CodSegment c) (CodSegment d) r q few is too kinds same e = cod_one n c d r q heading is too e
body_one heading n (CocSegment i k) (CocSegment j l) r q few is too kinds same e = coc_one n i j k l r q heading few is too e
body_one heading n (QcdSegment s) (QcdSegment t) r q few is too kinds same e = qcd_one n s t r q heading is too e
body_one heading n (QccSegment i s) (QccSegment j t) r q few is too kinds same e = qcc_one n i j s t r q heading is too e
body_one heading n (Passed m xs) (Passed k ys) r q few is too kinds same e = passed_one n m k xs ys r q heading is too same e
body_one heading n (Alone m) (Alone k) r q few is too kinds same e = alone_one m k r q same e
body_one heading n s t r q few is too kinds same e = absurd (omega (arith, kinds))

segment_one : (heading : Heading) (n : ℕ) (s t : Segment) (r q : List ℕ) → n ≤ 4 → IsSegment heading n s → IsSegment heading n t → segment_text s ++ r ≡ segment_text t ++ q → (s ≡ t) × (r ≡ q)
segment_one heading n s t r q few is too e =
    let low = narrow_marker heading n s is in
    let high = narrow_marker heading n t too in
    let m = fixed 2 (marker_of s) (marker_of t) (segment_body s ++ r) (segment_body t ++ q) (omega (arith, low)) (omega (arith, high)) e in
    body_one heading n s t r q few is too (sym (kind_is heading n s is) ∙ ap (kind_at heading) m.0 ∙ kind_is heading n t too) m.0 m.1

-- no segment begins as the end of its header
no_end : (heading : Heading) (n last : ℕ) (s : Segment) (r q : List ℕ) → EndsHeader heading last → IsSegment heading n s → marker_text last ++ r ≡ segment_text s ++ q → ⊥
no_end heading n last s r q ends is e =
    let low = ends.narrow in
    let high = narrow_marker heading n s is in
    let m = fixed 2 last (marker_of s) r (segment_body s ++ q) (omega (arith, low)) (omega (arith, high)) e in
    eqb-false (marker_of s) last (not_last heading n last s ends is) (sym m.0)

segments_one : (heading : Heading) (n last : ℕ) (ss ts : List Segment) (r q : List ℕ) → n ≤ 4 → EndsHeader heading last → AllByRecursion (IsSegment heading n) ss → AllByRecursion (IsSegment heading n) ts
    → flat_map segment_text ss ++ (marker_text last ++ r) ≡ flat_map segment_text ts ++ (marker_text last ++ q) → (ss ≡ ts) × (r ≡ q)
segments_one heading n last [] [] r q few ends is too e = let low = ends.narrow in (refl, (fixed 2 last last r q (omega (arith, low)) (omega (arith, low)) e).1)
segments_one heading n last [] (t ∷ ts) r q few ends is too e =
    absurd (no_end heading n last t r (flat_map segment_text ts ++ (marker_text last ++ q)) ends too.0 (e ∙ append_assoc (segment_text t) (flat_map segment_text ts) (marker_text last ++ q)))
segments_one heading n last (s ∷ ss) [] r q few ends is too e =
    absurd (no_end heading n last s q (flat_map segment_text ss ++ (marker_text last ++ r)) ends is.0 (sym e ∙ append_assoc (segment_text s) (flat_map segment_text ss) (marker_text last ++ r)))
segments_one heading n last (s ∷ ss) (t ∷ ts) r q few ends is too e =
    let a = flat_map segment_text ss ++ (marker_text last ++ r) in
    let b = flat_map segment_text ts ++ (marker_text last ++ q) in
    let one = segment_one heading n s t a b few is.0 too.0
    (sym (append_assoc (segment_text s) (flat_map segment_text ss) (marker_text last ++ r)) ∙ e ∙ append_assoc (segment_text t) (flat_map segment_text ts) (marker_text last ++ q)) in
    let more = segments_one heading n last ss ts r q few ends is.1 too.1 one.1 in
    (ap (λ (x : Segment). x ∷ ss) one.0 ∙ ap (λ (x : List Segment). t ∷ x) more.0, more.1)

-- ---- tile-parts

-- what Psot says
ends_alike : (b c : Bool) (m n : ℕ) → 0 < m → 0 < n → cond b 0 m ≡ cond c 0 n → (b ≡ c) × (b ≡ false → m ≡ n)
ends_alike true true m n some too e = (refl, λ f. absurd (true≢false f))
ends_alike true false m n some too e = absurd (omega (arith, e, too))
ends_alike false true m n some too e = absurd (omega (arith, e, some))
ends_alike false false m n some too e = (refl, λ f. e)

-- two parts at the front of one text
record AreAlike (p q : CodestreamPart) (r s : List ℕ) : Type 0 where
  tile : p.tile ≡ q.tile
  is_open : p.is_open ≡ q.is_open
  number : p.number ≡ q.number
  total : p.total ≡ q.total
  segments : p.segments ≡ q.segments
  rest : p.content ++ r ≡ q.content ++ s
  long : p.is_open ≡ false → length p.content ≡ length q.content

part_pieces : (p : CodestreamPart) (r : List ℕ) → part_text p ++ r ≡ sot_text p.tile (psot p) p.number p.total ++ (flat_map segment_text p.segments ++ (marker_text sod ++ (p.content ++ r)))
unfolding part_text
part_pieces p r = ap (λ (x : List ℕ). sot_text p.tile (psot p) p.number p.total ++ x) (append_assoc (flat_map segment_text p.segments) (marker_text sod ++ p.content) r)

part_alike : (siz : Siz) (p q : CodestreamPart) (r s : List ℕ) → siz.components ≤ 4 → IsPart siz p → IsPart siz q → part_text p ++ r ≡ part_text q ++ s → AreAlike p q r s
part_alike siz p q r s few is too e =
    let n = siz.components in
    let a = flat_map segment_text p.segments ++ (marker_text sod ++ (p.content ++ r)) in
    let b = flat_map segment_text q.segments ++ (marker_text sod ++ (q.content ++ s)) in
    let l = is.number in
    let h = too.number in
    let f1 = fixed 2 sot sot _ _ (lit< tt) (lit< tt) (sym (part_pieces p r) ∙ e ∙ part_pieces q s) in
    let f2 = fixed 2 10 10 _ _ (lit< tt) (lit< tt) f1.1 in
    let f3 = fixed 2 p.tile q.tile _ _ is.narrow too.narrow f2.1 in
    let f4 = fixed 4 (psot p) (psot q) _ _ is.fits too.fits f3.1 in
    let f5 = fixed 1 p.number q.number _ _ (omega (arith, l)) (omega (arith, h)) f4.1 in
    let f6 = fixed 1 p.total q.total a b is.total too.total f5.1 in
    let each = subst (λ k. AllByRecursion (IsSegment (heading_of k) n) q.segments) (sym f5.0) too.well_formed.each in
    let g = segments_one (heading_of p.number) n sod p.segments q.segments (p.content ++ r) (q.content ++ s) few (ends_part p.number) is.well_formed.each each f6.1 in
    let o = ends_alike p.is_open q.is_open (part_length p) (part_length q) (omega arith) (omega arith) f4.0 in
    let front = ap (λ (x : List Segment). length (flat_map segment_text x)) g.0 in
    record {
      tile = f3.0;
      is_open = o.0;
      number = f5.0;
      total = f6.0;
      segments = g.0;
      rest = g.1;
      long = λ f. (let all = o.1 f in omega (arith, all, front));
    }

part_same : (p q : CodestreamPart) (r s : List ℕ) → AreAlike p q r s → p.content ≡ q.content → p ≡ q
part_same p q r s h content = λ i. record { tile = h.tile i; is_open = h.is_open i; number = h.number i; total = h.total i; segments = h.segments i; content = content i }

-- a part doesn't begin as the end
no_part : (p : CodestreamPart) (r : List ℕ) → marker_text eoc ≡ part_text p ++ r → ⊥
no_part p r e =
    let m = fixed 2 eoc sot [] _ (lit< tt) (lit< tt) (e ∙ part_pieces p r) in
    let wrong = m.0 in
    cc

parts_one : (siz : Siz) (p : CodestreamPart) (ps : List CodestreamPart) (q : CodestreamPart) (qs : List CodestreamPart) → siz.components ≤ 4 → AllByRecursion (IsPart siz) (p ∷ ps) → AllByRecursion (IsPart siz) (q ∷ qs)
    → AreClosedBeforeLast (p ∷ ps) → AreClosedBeforeLast (q ∷ qs) → part_text p ++ (flat_map part_text ps ++ marker_text eoc) ≡ part_text q ++ (flat_map part_text qs ++ marker_text eoc) → (p ∷ ps) ≡ (q ∷ qs)
parts_one siz p [] q [] few is too closed shut e =
    let h = part_alike siz p q (marker_text eoc) (marker_text eoc) few is.0 too.0 e in
    let size = ap (λ (x : List ℕ). length x) h.rest in
    let long : length p.content ≡ length q.content = omega (arith, size, length-append p.content (marker_text eoc), length-append q.content (marker_text eoc)) in
    ap (λ (x : CodestreamPart). x ∷ []) (part_same p q (marker_text eoc) (marker_text eoc) h (fronts p.content q.content (marker_text eoc) (marker_text eoc) long h.rest).0)
parts_one siz p [] q (y ∷ qs) few is too closed shut e =
    let s = flat_map part_text (y ∷ qs) ++ marker_text eoc in
    let h = part_alike siz p q (marker_text eoc) s few is.0 too.0 e in
    let f = fronts p.content q.content (marker_text eoc) s (h.long (h.is_open ∙ shut.0)) h.rest in
    absurd (no_part y (flat_map part_text qs ++ marker_text eoc) (f.1 ∙ append_assoc (part_text y) (flat_map part_text qs) (marker_text eoc)))
parts_one siz p (x ∷ ps) q [] few is too closed shut e =
    let r = flat_map part_text (x ∷ ps) ++ marker_text eoc in
    let h = part_alike siz p q r (marker_text eoc) few is.0 too.0 e in
    let f = fronts p.content q.content r (marker_text eoc) (h.long closed.0) h.rest in
    absurd (no_part x (flat_map part_text ps ++ marker_text eoc) (sym f.1 ∙ append_assoc (part_text x) (flat_map part_text ps) (marker_text eoc)))
parts_one siz p (x ∷ ps) q (y ∷ qs) few is too closed shut e =
    let r = flat_map part_text (x ∷ ps) ++ marker_text eoc in
    let s = flat_map part_text (y ∷ qs) ++ marker_text eoc in
    let h = part_alike siz p q r s few is.0 too.0 e in
    let f = fronts p.content q.content r s (h.long closed.0) h.rest in
    let more = parts_one siz x ps y qs few is.1 too.1 closed.1 shut.1
    (sym (append_assoc (part_text x) (flat_map part_text ps) (marker_text eoc)) ∙ f.1 ∙ append_assoc (part_text y) (flat_map part_text qs) (marker_text eoc)) in
    ap (λ (z : CodestreamPart). z ∷ x ∷ ps) (part_same p q r s h f.0) ∙ ap (λ (z : List CodestreamPart). q ∷ z) more

all_parts : (siz : Siz) (ps qs : List CodestreamPart) → siz.components ≤ 4 → 0 < length ps → 0 < length qs → AllByRecursion (IsPart siz) ps → AllByRecursion (IsPart siz) qs
    → AreClosedBeforeLast ps → AreClosedBeforeLast qs → flat_map part_text ps ++ marker_text eoc ≡ flat_map part_text qs ++ marker_text eoc → ps ≡ qs
all_parts siz [] qs few some too is are closed shut e = absurd (omega (arith, some))
all_parts siz (p ∷ ps) [] few some too is are closed shut e = absurd (omega (arith, too))
all_parts siz (p ∷ ps) (q ∷ qs) few some too is are closed shut e =
    parts_one siz p ps q qs few is are closed shut (sym (append_assoc (part_text p) (flat_map part_text ps) (marker_text eoc)) ∙ e ∙ append_assoc (part_text q) (flat_map part_text qs) (marker_text eoc))

-- ---- the whole

-- a part follows the main header
part_starts : (ps : List CodestreamPart) → 0 < length ps → (x : List ℕ) × (flat_map part_text ps ++ marker_text eoc ≡ marker_text sot ++ x)
unfolding part_text
part_starts [] some = absurd (omega (arith, some))
part_starts (p ∷ ps) some = (drop 2 (flat_map part_text (p ∷ ps) ++ marker_text eoc), refl)

pub begins_main : (bytes : List ℕ) (t : Tree) → IsCodestream bytes t → BeginsMain bytes t.siz t.segments
unfolding codestream_text
begins_main bytes t is =
    let x = part_starts t.parts is.parts.some in
    record { others = x.0; text = is.text ∙ ap (λ (y : List ℕ). main_text t.siz t.segments ++ y) x.1 }

main_pieces : (s : Siz) (ss : List Segment) (r : List ℕ) → main_text s ss ++ r ≡ main_text s [] ++ (flat_map segment_text ss ++ r)
unfolding main_text
main_pieces s ss r =
    ap (λ (x : List ℕ). marker_text soc ++ x) (append_assoc (siz_text s) (flat_map segment_text ss) r)
    ∙ ap (λ (x : List ℕ). marker_text soc ++ (x ++ (flat_map segment_text ss ++ r))) (sym (append-nil (siz_text s)))

pub one_tree : (bytes : List ℕ) (t u : Tree) → IsCodestream bytes t → IsCodestream bytes u → t ≡ u
unfolding codestream_text
one_tree bytes t u is too =
    let a = begins_main bytes t is in
    let b = begins_main bytes u too in
    let few = is.header.size.few_components in
    let read = sym (only_main bytes t.siz t.segments is.header a) ∙ only_main bytes u.siz u.segments too.header b in
    let main = ok_is (main_of t.siz t.segments, length (main_text t.siz t.segments)) (main_of u.siz u.segments, length (main_text u.siz u.segments)) read in
    let siz : t.siz ≡ u.siz = ap (λ (x : Main × ℕ). x.0.siz) main in
    let header = subst (λ (x : Siz). IsMain x u.segments) (sym siz) too.header in
    let each = subst (λ (x : Siz). AllByRecursion (IsPart x) u.parts) (sym siz) too.parts.each in
    let long : length (main_text t.siz t.segments) ≡ length (main_text u.siz u.segments) = ap (λ (x : Main × ℕ). x.1) main in
    let all = fronts (main_text t.siz t.segments) (main_text u.siz u.segments) (flat_map part_text t.parts ++ marker_text eoc) (flat_map part_text u.parts ++ marker_text eoc) long (sym is.text ∙ too.text) in
    let front = main_text t.siz [] in
    let text : front ++ (flat_map segment_text t.segments ++ (marker_text sot ++ a.others)) ≡ front ++ (flat_map segment_text u.segments ++ (marker_text sot ++ b.others)) =
    sym (main_pieces t.siz t.segments (marker_text sot ++ a.others)) ∙ sym a.text ∙ b.text ∙ ap (λ (x : Siz). main_text x u.segments ++ (marker_text sot ++ b.others)) (sym siz)
    ∙ main_pieces t.siz u.segments (marker_text sot ++ b.others) in
    let inner = (fronts front front _ _ refl text).1 in
    let segments = (segments_one MainHeader t.siz.components sot t.segments u.segments a.others b.others few ends_main is.header.well_formed.each header.well_formed.each inner).0 in
    let parts = all_parts t.siz t.parts u.parts few is.parts.some too.parts.some is.parts.each each is.parts.closed too.parts.closed all.1 in
    λ i. record { siz = siz i; segments = segments i; parts = parts i }
