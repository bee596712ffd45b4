-- The segments of a header one after another: what is read is spelled so, and what is spelled so is read.
use Rattle.std.proofs.Common.{◌≡◌, ℕ, zero, suc, ◌^◌, ◌<◌, ◌≤◌, Bool, true, false, ◌&&◌, ◌||◌, cond, eqb, ltb, leb, List, [], ◌∷◌, ◌++◌, Some, Ok, refl, sym, ap, subst, ◌∙◌, inl, inr, append_assoc, arith}
use Rattle.std.specs.Prelude.{is_some, slice_set}
use Rattle.std.proofs.lemmas.Bool.{true≢false, ltb-false, leb-true, eqb-true, eq-eqb, or_parts, or_cases, false_from_ne_true, not_from_false, or_left, or_right, and_parts, and_from}
use Rattle.std.specs.List.{flat_map, list_any, list_all, AllByRecursion}
use Rattle.byteorder.specs.Endian.{big_bytes}
use Rattle.jk_math.specs.Steps.{bind_then, refuse_then, ok_is}
use Rattle.jk_math.specs.declared.fault.Fault.TheVariants.{BadMarker}
use Rattle.jk_marks.specs.declared.segments.Quantisation.{Quantisation}
use Rattle.jk_marks.specs.declared.head.Heading.{Heading}
use Rattle.jk_marks.specs.declared.head.Heading.TheVariants.{MainHeader, FirstPart, LaterPart}
use Rattle.jk_marks.specs.declared.head.TileHead.{TileHead}
use Rattle.jk_marks.specs.Place.{ReadingPlace, outside}
use Rattle.jk_marks.specs.Markers.{cod, coc, qcd, qcc, tlm, plt, crg, comment, marker_text, is_left_out, is_listed, is_alone}
use Rattle.jk_marks.specs.Segments.{Segment, CodSegment, CocSegment, QcdSegment, QccSegment, Passed, Alone, IsSegment, segment_body, segment_text, marker_of, is_coded, is_passed, is_foreign, quantisation_of}
use Rattle.jk_marks.specs.Reading.{number, has, cod_at, coc_at, qcd_at, qcc_at, passed_at, in_cod, in_qcd, in_coc, in_qcc, other_at, segment_at, segments_at}
use Rattle.jk_math.proofs.Laws.{AreBytes}
use Rattle.jk_marks.proofs.Steps.{Goes, goes_none, goes_then, goes_as, number_goes}
use Rattle.jk_marks.proofs.SegmentLaws.{cod_goes}
use Rattle.jk_marks.proofs.ComponentLaws.{coc_goes, qcd_goes, qcc_goes, passed_goes}

-- what a header has said with one more segment
abbrev pub with_segment : TileHead → Segment → TileHead
with_segment h (CodSegment c) = record h { cod = Some c }
with_segment h (CocSegment i k) = record h { coc = slice_set h.coc i (Some k) }
with_segment h (QcdSegment q) = record h { qcd = Some (quantisation_of q) }
with_segment h (QccSegment i q) = record h { qcc = slice_set h.qcc i (Some (quantisation_of q)) }
with_segment h (Passed m bytes) = h
with_segment h (Alone m) = h

-- the segment is none that the header has
abbrev pub IsFresh : TileHead → Segment → Type 0
IsFresh h (CodSegment c) = is_some h.cod ≡ false
IsFresh h (CocSegment i k) = has h.coc i ≡ false
IsFresh h (QcdSegment q) = is_some h.qcd ≡ false
IsFresh h (QccSegment i q) = has h.qcc i ≡ false
IsFresh h (Passed m bytes) = Unit {0}
IsFresh h (Alone m) = Unit {0}

abbrev pub with_segments : TileHead → List Segment → TileHead
with_segments h [] = h
with_segments h (s ∷ ss) = with_segments (with_segment h s) ss

abbrev pub AreFresh : TileHead → List Segment → Type 0
AreFresh h [] = Unit {0}
AreFresh h (s ∷ ss) = IsFresh h s × AreFresh (with_segment h s) ss

-- a segment that was read behind its marker
pub record OneSegment (heading : Heading) (n m : ℕ) (h g : TileHead) (p q : ReadingPlace) : Type 0 where
  pub segment : Segment
  pub is : IsSegment heading n segment
  pub marker : m ≡ marker_of segment
  pub fresh : IsFresh h segment
  pub gives : g ≡ with_segment h segment
  pub gone : Goes p (segment_body segment) q

in_cod_goes : (heading : Heading) (n : ℕ) (h g : TileHead) (p q : ReadingPlace) → AreBytes p.rest → is_coded heading ≡ true → in_cod h n p ≡ Ok (g, q) → OneSegment heading n cod h g p q
in_cod_goes heading n h g p q fits coded e =
    let t : TileHead × ReadingPlace = (g, q) in
    refuse_then (is_some h.cod) BadMarker _ t e (λ fresh e.
    bind_then (cod_at n p) _ t e (λ c read e.
    let gone = cod_goes n c.0 p c.1 fits read in
    let here : OneSegment heading n cod h (record h { cod = Some c.0 }) p c.1 = record {
      segment = CodSegment c.0;
      is = (coded, gone.1);
      marker = refl;
      fresh = fresh;
      gives = refl;
      gone = gone.0;
    } in
    subst (λ (r : TileHead × ReadingPlace). OneSegment heading n cod h r.0 p r.1) (ok_is (record h { cod = Some c.0 }, c.1) t e) here))

in_qcd_goes : (heading : Heading) (n : ℕ) (h g : TileHead) (p q : ReadingPlace) → AreBytes p.rest → is_coded heading ≡ true → in_qcd h p ≡ Ok (g, q) → OneSegment heading n qcd h g p q
in_qcd_goes heading n h g p q fits coded e =
    let t : TileHead × ReadingPlace = (g, q) in
    refuse_then (is_some h.qcd) BadMarker _ t e (λ fresh e.
    bind_then (qcd_at p) _ t e (λ v read e.
    let gone = qcd_goes v.0 p v.1 fits read in
    let here : OneSegment heading n qcd h (record h { qcd = Some v.0 }) p v.1 = record {
      segment = QcdSegment gone.steps;
      is = (coded, gone.are, gone.short);
      marker = refl;
      fresh = fresh;
      gives = ap (λ (x : Quantisation). record h { qcd = Some x }) gone.is;
      gone = gone.gone;
    } in
    subst (λ (r : TileHead × ReadingPlace). OneSegment heading n qcd h r.0 p r.1) (ok_is (record h { qcd = Some v.0 }, v.1) t e) here))

in_coc_goes : (heading : Heading) (n : ℕ) (h g : TileHead) (p q : ReadingPlace) → AreBytes p.rest → is_coded heading ≡ true → in_coc h n p ≡ Ok (g, q) → OneSegment heading n coc h g p q
in_coc_goes heading n h g p q fits coded e =
    let t : TileHead × ReadingPlace = (g, q) in
    bind_then (coc_at h.coc n p) _ t e (λ k read e.
    let gone = coc_goes h.coc n k.0 p k.1 fits read in
    let next : TileHead = record h { coc = slice_set h.coc k.0.0 (Some k.0.1) } in
    let here : OneSegment heading n coc h next p k.1 = record {
      segment = CocSegment k.0.0 k.0.1;
      is = (coded, gone.1, gone.2);
      marker = refl;
      fresh = gone.3;
      gives = refl;
      gone = gone.0;
    } in
    subst (λ (r : TileHead × ReadingPlace). OneSegment heading n coc h r.0 p r.1) (ok_is (next, k.1) t e) here)

in_qcc_goes : (heading : Heading) (n : ℕ) (h g : TileHead) (p q : ReadingPlace) → AreBytes p.rest → is_coded heading ≡ true → in_qcc h n p ≡ Ok (g, q) → OneSegment heading n qcc h g p q
in_qcc_goes heading n h g p q fits coded e =
    let t : TileHead × ReadingPlace = (g, q) in
    bind_then (qcc_at h.qcc n p) _ t e (λ v read e.
    let gone = qcc_goes h.qcc n v.0 p v.1 fits read in
    let next : TileHead = record h { qcc = slice_set h.qcc v.0.0 (Some v.0.1) } in
    let here : OneSegment heading n qcc h next p v.1 = record {
      segment = QccSegment v.0.0 gone.steps;
      is = (coded, gone.below, gone.are, gone.short);
      marker = refl;
      fresh = gone.fresh;
      gives = ap (λ (x : Quantisation). record h { qcc = slice_set h.qcc v.0.0 (Some x) }) gone.is;
      gone = gone.gone;
    } in
    subst (λ (r : TileHead × ReadingPlace). OneSegment heading n qcc h r.0 p r.1) (ok_is (next, v.1) t e) here)

-- which of two a value is of
either : {A C : Type 0} (b : Bool) (x y z : A) → cond b x y ≡ z → (b ≡ true → x ≡ z → C) → (b ≡ false → y ≡ z → C) → C
either true x y z e f g = f refl e
either false x y z e f g = g refl e

-- a number that is among some has what they all have
pub any_has : (P : ℕ → Bool) (m : ℕ) (xs : List ℕ) → list_any (λ k. eqb k m) xs ≡ true → list_all P xs ≡ true → P m ≡ true
any_has P m [] e all = absurd (true≢false (sym e))
any_has P m (x ∷ xs) e all =
    let both = and_parts (P x) (list_all P xs) all in
    elim (or_cases (eqb x m) (list_any (λ k. eqb k m) xs) e) [
      | inl same ↦ ap P (sym (eqb-true x m same)) ∙ both.0
      | inr others ↦ any_has P m xs others both.1
    ]

pub left_out_listed : (m : ℕ) → is_listed m ≡ false → is_left_out m ≡ false
left_out_listed m e = false_from_ne_true (is_left_out m) (λ out. true≢false (sym (any_has is_listed m (0xFF57 ∷ 0xFF5E ∷ 0xFF5F ∷ 0xFF60 ∷ 0xFF61 ∷ []) out refl) ∙ e))

-- a number that is not one of which the test fails
pub apart : (P : ℕ → Bool) (m k : ℕ) → P m ≡ true → P k ≡ false → eqb m k ≡ false
apart P m k e f = false_from_ne_true (eqb m k) (λ same. true≢false (sym e ∙ ap P (eqb-true m k same) ∙ f))

turned : (a b : ℕ) → eqb a b ≡ true → eqb b a ≡ true
turned a b e = eq-eqb b a (sym (eqb-true a b e))

two_of : (m a b : ℕ) → (eqb m a || eqb m b) ≡ true → list_any (λ k. eqb k m) (a ∷ b ∷ []) ≡ true
two_of m a b e = elim (or_cases (eqb m a) (eqb m b) e) [
  | inl x ↦ or_left (eqb a m) (eqb b m || false) (turned m a x)
  | inr y ↦ or_right (eqb a m) (eqb b m || false) (or_left (eqb b m) false (turned m b y))
]

three_of : (m a b c : ℕ) → (eqb m a || (eqb m b || eqb m c)) ≡ true → list_any (λ k. eqb k m) (a ∷ b ∷ c ∷ []) ≡ true
three_of m a b c e = elim (or_cases (eqb m a) (eqb m b || eqb m c) e) [
  | inl x ↦ or_left (eqb a m) (list_any (λ k. eqb k m) (b ∷ c ∷ [])) (turned m a x)
  | inr y ↦ or_right (eqb a m) (list_any (λ k. eqb k m) (b ∷ c ∷ [])) (two_of m b c y)
]

passed_high : (heading : Heading) (m : ℕ) → is_passed heading m ≡ true → 0xFF00 ≤ m
passed_high MainHeader m e = leb-true _ _ (any_has (λ k. leb 0xFF00 k) m (tlm ∷ crg ∷ comment ∷ []) (three_of m tlm crg comment e) refl)
passed_high FirstPart m e = leb-true _ _ (any_has (λ k. leb 0xFF00 k) m (plt ∷ comment ∷ []) (two_of m plt comment e) refl)
passed_high LaterPart m e = leb-true _ _ (any_has (λ k. leb 0xFF00 k) m (plt ∷ comment ∷ []) (two_of m plt comment e) refl)

alone_gone : (m : ℕ) (p : ReadingPlace) → AreBytes p.rest → Goes p (segment_body (Alone m)) p
unfolding segment_body
alone_gone m p fits = goes_none p fits

other_goes : (heading : Heading) (n m : ℕ) (h g : TileHead) (p q : ReadingPlace) → AreBytes p.rest → m < 2 ^ 16 → other_at heading h m p ≡ Ok (g, q) → OneSegment heading n m h g p q
unfolding other_at
other_goes heading n m h g p q fits lt e =
    let t : TileHead × ReadingPlace = (g, q) in
    let passing : (0xFF00 ≤ m) → (is_passed heading m || is_foreign m) ≡ true → (r : List ℕ × ReadingPlace) → passed_at p ≡ Ok r → (h, r.1) ≡ t → OneSegment heading n m h g p q =
    λ high may r read same.
    let gone = passed_goes r.0 m p r.1 fits read in
    let here : OneSegment heading n m h h p r.1 = record { segment = Passed m r.0; is = (high, lt, may, gone.1); marker = refl; fresh = tt; gives = refl; gone = gone.0 } in
    subst (λ (x : TileHead × ReadingPlace). OneSegment heading n m h x.0 p x.1) same here in
    either (is_passed heading m) _ _ (Ok t) e (λ yes e.
    bind_then (passed_at p) _ t e (λ r read e. passing (passed_high heading m yes) (or_left _ (is_foreign m) yes) r read (ok_is (h, r.1) t e)))
    (λ not_passed e. either (is_left_out m) _ _ (Ok t) e (λ out e. absurd cc)
    (λ not_out e. either (is_listed m || ltb m 0xFF00) _ _ (Ok t) e (λ listed e. absurd cc)
    (λ unlisted e.
    let parts = or_parts (is_listed m) (ltb m 0xFF00) unlisted in
    either (is_alone m) _ _ (Ok t) e (λ alone e.
    let here : OneSegment heading n m h h p p = record { segment = Alone m; is = alone; marker = refl; fresh = tt; gives = refl; gone = alone_gone m p fits } in
    subst (λ (x : TileHead × ReadingPlace). OneSegment heading n m h x.0 p x.1) (ok_is (h, p) t e) here)
    (λ not_alone e.
    bind_then (passed_at p) _ t e (λ r read e.
    passing (ltb-false _ _ parts.1) (or_right (is_passed heading m) _ (and_from _ _ (not_from_false _ parts.0) (not_from_false _ not_alone))) r read (ok_is (h, r.1) t e))))))

pub segment_goes : (heading : Heading) (n m : ℕ) (h g : TileHead) (p q : ReadingPlace) → AreBytes p.rest → m < 2 ^ 16 → segment_at heading n h m p ≡ Ok (g, q) → OneSegment heading n m h g p q
unfolding segment_at
segment_goes heading n m h g p q fits lt e =
    let t : TileHead × ReadingPlace = (g, q) in
    let by_marker : (k : ℕ) → (is_coded heading && eqb m k) ≡ true → (is_coded heading ≡ true → OneSegment heading n k h g p q) → OneSegment heading n m h g p q =
    λ k both one.
    let parts = and_parts (is_coded heading) (eqb m k) both in
    subst (λ j. OneSegment heading n j h g p q) (sym (eqb-true m k parts.1)) (one parts.0) in
    either (is_coded heading && eqb m cod) _ _ (Ok t) e (λ yes e. by_marker cod yes (λ coded. in_cod_goes heading n h g p q fits coded e))
    (λ no e. either (is_coded heading && eqb m qcd) _ _ (Ok t) e (λ yes e. by_marker qcd yes (λ coded. in_qcd_goes heading n h g p q fits coded e))
    (λ no e. either (is_coded heading && eqb m coc) _ _ (Ok t) e (λ yes e. by_marker coc yes (λ coded. in_coc_goes heading n h g p q fits coded e))
    (λ no e. either (is_coded heading && eqb m qcc) _ _ (Ok t) e (λ yes e. by_marker qcc yes (λ coded. in_qcc_goes heading n h g p q fits coded e))
    (λ no e. other_goes heading n m h g p q fits lt e))))

joined : (a b c d : List ℕ) → a ++ (b ++ (c ++ d)) ≡ ((a ++ b) ++ c) ++ d
joined a b c d = sym (append_assoc a b (c ++ d)) ∙ sym (append_assoc (a ++ b) c d)

-- the segments that were read up to the marker that ends them
pub record ManySegments (heading : Heading) (n last : ℕ) (h g : TileHead) (p q : ReadingPlace) : Type 0 where
  pub segments : List Segment
  pub each : AllByRecursion (IsSegment heading n) segments
  pub fresh : AreFresh h segments
  pub gives : g ≡ with_segments h segments
  pub gone : Goes p (flat_map segment_text segments ++ marker_text last) q

pub segments_goes : (k : ℕ) (heading : Heading) (n last : ℕ) (h g : TileHead) (p q : ReadingPlace) → AreBytes p.rest → segments_at k heading n last h p ≡ Ok (g, q) → ManySegments heading n last h g p q
unfolding segments_at
segments_goes zero heading n last h g p q fits e = absurd cc
segments_goes (suc k) heading n last h g p q fits e =
    let t : TileHead × ReadingPlace = (g, q) in
    bind_then (number 2 p) _ t e (λ m read e.
    let g1 = number_goes 2 m.0 p m.1 fits read in
    let low : m.0 < 2 ^ 16 = omega (arith, g1.1) in
    either (eqb m.0 last) _ _ (Ok t) e (λ ends e.
    let same = eqb-true m.0 last ends in
    let here : ManySegments heading n last h h p m.1 = record { segments = []; each = tt; fresh = tt; gives = refl; gone = goes_as p _ _ m.1 g1.0 (ap (big_bytes 2) same) } in
    subst (λ (x : TileHead × ReadingPlace). ManySegments heading n last h x.0 p x.1) (ok_is (h, m.1) t e) here)
    (λ goes_on e. bind_then (segment_at heading n h m.0 m.1) _ t e (λ r read e.
    let one = segment_goes heading n m.0 h r.0 m.1 r.1 g1.0.bytes low read in
    let more = segments_goes k heading n last r.0 g (outside r.1) q one.gone.bytes e in
    let s = one.segment in
    let ss = more.segments in
    let text = flat_map segment_text ss ++ marker_text last in
    let left : Goes r.1 text q = record { parts = more.gone.parts; at = more.gone.at; bytes = more.gone.bytes } in
    let body = segment_body s in
    let gone = goes_then p (big_bytes 2 m.0) m.1 (body ++ text) q g1.0 (goes_then m.1 body r.1 text q one.gone left) in
    let whole : big_bytes 2 m.0 ++ (body ++ text) ≡ flat_map segment_text (s ∷ ss) ++ marker_text last =
    ap (λ j. big_bytes 2 j ++ (body ++ text)) one.marker ∙ joined (marker_text (marker_of s)) body (flat_map segment_text ss) (marker_text last) in
    record {
      segments = s ∷ ss;
      each = (one.is, more.each);
      fresh = (one.fresh, subst (λ (x : TileHead). AreFresh x ss) one.gives more.fresh);
      gives = more.gives ∙ ap (λ (x : TileHead). with_segments x ss) one.gives;
      gone = goes_as p _ _ q gone whole;
    })))
