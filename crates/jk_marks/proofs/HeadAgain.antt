-- The segments of a header that are spelled are read.
use Rattle.std.proofs.Common.{◌≡◌, ℕ, zero, suc, ◌+◌, ◌^◌, ◌<◌, ◌≤◌, Bool, true, false, not, ◌||◌, eqb, ltb, leb, List, [], ◌∷◌, ◌++◌, length, Result, Ok, refl, sym, ap, ◌∙◌, inl, inr, lit<, append_assoc, arith}
use Rattle.std.proofs.lemmas.Bool.{true≢false, le-ltb, leb-true, eq-eqb, or_from, and_parts, and_right, false_from_ne_true, cases_Bool, not-true}
use Rattle.std.proofs.lemmas.List.{length-append}
use Rattle.std.specs.List.{flat_map, AllByRecursion}
use Rattle.jk_math.specs.declared.fault.Fault.{Fault}
use Rattle.jk_marks.specs.declared.head.Heading.{Heading}
use Rattle.jk_marks.specs.declared.head.Heading.TheVariants.{MainHeader, FirstPart, LaterPart}
use Rattle.jk_marks.specs.declared.head.TileHead.{TileHead}
use Rattle.jk_marks.specs.Place.{ReadingPlace, outside}
use Rattle.jk_marks.specs.Markers.{cod, coc, qcd, qcc, tlm, plt, crg, comment, marker_text, is_listed, is_alone}
use Rattle.jk_marks.specs.Segments.{Segment, CodSegment, CocSegment, QcdSegment, QccSegment, Passed, Alone, IsSegment, segment_body, segment_text, marker_of, is_coded, is_passed, is_foreign}
use Rattle.jk_marks.specs.Reading.{other_at, segment_at, segments_at}
use Rattle.jk_marks.proofs.Steps.{ahead, number_again}
use Rattle.jk_marks.proofs.SegmentLaws.{cod_again}
use Rattle.jk_marks.proofs.ComponentLaws.{coc_again, qcd_again, qcc_again, passed_again}
use Rattle.jk_marks.proofs.HeadLaws.{with_segment, with_segments, IsFresh, AreFresh, apart, left_out_listed, any_has}

-- what is read of a segment, and where it ends
pub record SegmentRead (heading : Heading) (n : ℕ) (h : TileHead) (s : Segment) (p : ReadingPlace) (rest : List ℕ) : Type 0 where
  pub to : ReadingPlace
  pub read : segment_at heading n h (marker_of s) p ≡ Ok (with_segment h s, to)
  pub rest-is : to.rest ≡ rest
  pub at-is : to.at ≡ p.at + length (segment_body s)

-- markers that are passed over, or belong to another standard
abbrev pub is_other : Heading → ℕ → Bool
is_other heading m = is_passed heading m || is_foreign m

pub other_cod : (heading : Heading) → is_other heading cod ≡ false
other_cod MainHeader = refl
other_cod FirstPart = refl
other_cod LaterPart = refl

pub other_qcd : (heading : Heading) → is_other heading qcd ≡ false
other_qcd MainHeader = refl
other_qcd FirstPart = refl
other_qcd LaterPart = refl

pub other_coc : (heading : Heading) → is_other heading coc ≡ false
other_coc MainHeader = refl
other_coc FirstPart = refl
other_coc LaterPart = refl

pub other_qcc : (heading : Heading) → is_other heading qcc ≡ false
other_qcc MainHeader = refl
other_qcc FirstPart = refl
other_qcc LaterPart = refl

-- a marker that isn't one of the coding's goes to the others
to_other : (heading : Heading) (n m : ℕ) (h : TileHead) (p : ReadingPlace) (P : ℕ → Bool) → P m ≡ true → P cod ≡ false → P qcd ≡ false → P coc ≡ false → P qcc ≡ false
    → segment_at heading n h m p ≡ other_at heading h m p
unfolding segment_at
to_other heading n m h p P is f1 f2 f3 f4 =
    let c1 = and_right (is_coded heading) (eqb m cod) (apart P m cod is f1) in
    let c2 = and_right (is_coded heading) (eqb m qcd) (apart P m qcd is f2) in
    let c3 = and_right (is_coded heading) (eqb m coc) (apart P m coc is f3) in
    let c4 = and_right (is_coded heading) (eqb m qcc) (apart P m qcc is f4) in
    rw (c1, c2, c3, c4) refl

-- an alone marker isn't passed over
pub alone_not_passed : (heading : Heading) (m : ℕ) → is_alone m ≡ true → is_passed heading m ≡ false
alone_not_passed MainHeader m e = or_from _ _ (apart is_alone m tlm e refl) (or_from _ _ (apart is_alone m crg e refl) (apart is_alone m comment e refl))
alone_not_passed FirstPart m e = or_from _ _ (apart is_alone m plt e refl) (apart is_alone m comment e refl)
alone_not_passed LaterPart m e = or_from _ _ (apart is_alone m plt e refl) (apart is_alone m comment e refl)

alone_not_listed : (m : ℕ) → is_alone m ≡ true → is_listed m ≡ false
alone_not_listed m e = false_from_ne_true (is_listed m) (λ out.
    let unlike : not (is_alone m) ≡ true = any_has (λ k. not (is_alone k)) m (0xFF4F ∷ 0xFF51 ∷ 0xFF52 ∷ 0xFF53 ∷ 0xFF55 ∷ 0xFF57 ∷ 0xFF58 ∷ 0xFF5C ∷ 0xFF5D ∷ 0xFF5E ∷ 0xFF5F
    ∷ 0xFF60 ∷ 0xFF61 ∷ 0xFF63 ∷ 0xFF64 ∷ 0xFF90 ∷ 0xFF91 ∷ 0xFF92 ∷ 0xFF93 ∷ 0xFFD9 ∷ []) out refl in
    true≢false (sym e ∙ not-true _ unlike))

alone_high : (m : ℕ) → is_alone m ≡ true → 0xFF00 ≤ m
alone_high m e =
    let low = leb-true _ _ (and_parts (leb 0xFF30 m) (leb m 0xFF3F) e).0 in
    omega (arith, low)

alone_again : (heading : Heading) (n m : ℕ) (h : TileHead) (p : ReadingPlace) (rest : List ℕ) → p.rest ≡ segment_body (Alone m) ++ rest → is_alone m ≡ true → SegmentRead heading n h (Alone m) p rest
unfolding other_at segment_body
alone_again heading n m h p rest e alone =
    let c1 = alone_not_passed heading m alone in
    let c2 = alone_not_listed m alone in
    let c3 = left_out_listed m c2 in
    let high : ltb m 0xFF00 ≡ false = le-ltb _ _ (alone_high m alone) in
    let other : other_at heading h m p ≡ Ok (h, p) = rw (c1, c3, c2, high, alone) refl in
    record { to = p; read = to_other heading n m h p is_alone alone refl refl refl refl ∙ other; rest-is = e; at-is = omega arith }

passed_read : (heading : Heading) (n m : ℕ) (bytes : List ℕ) (h : TileHead) (p : ReadingPlace) (rest : List ℕ) → p.rest ≡ segment_body (Passed m bytes) ++ rest → 0xFF00 ≤ m
    → is_other heading m ≡ true → 2 + length bytes < 2 ^ 16 → 2 ≤ p.room → SegmentRead heading n h (Passed m bytes) p rest
unfolding other_at
passed_read heading n m bytes h p rest e high may short room =
    let s = passed_again bytes m p rest e short room in
    let to = to_other heading n m h p (is_other heading) may (other_cod heading) (other_qcd heading) (other_coc heading) (other_qcc heading) in
    let not_low : ltb m 0xFF00 ≡ false = le-ltb _ _ high in
    let other : other_at heading h m p ≡ Ok (h, s.0) = elim (cases_Bool (is_passed heading m)) [
      | inl passed ↦ rw (passed, s.1) refl
      | inr unpassed ↦ (
          let parts = and_parts (not (is_listed m)) (not (is_alone m)) (sym (ap (λ b. b || is_foreign m) unpassed) ∙ may) in
          let c1 = not-true _ parts.0 in
          let c2 = not-true _ parts.1 in
          let c3 = left_out_listed m c1 in
          rw (unpassed, c3, c1, not_low, c2, s.1) refl)
    ] in
    record { to = s.0; read = to ∙ other; rest-is = s.2; at-is = s.3 }

-- room for the length of a segment that has one
abbrev pub RoomFor : Segment → ReadingPlace → Type 0
RoomFor (Alone m) p = Unit {0}
RoomFor (CodSegment c) p = 2 ≤ p.room
RoomFor (CocSegment i k) p = 2 ≤ p.room
RoomFor (QcdSegment q) p = 2 ≤ p.room
RoomFor (QccSegment i q) p = 2 ≤ p.room
RoomFor (Passed m bytes) p = 2 ≤ p.room

pub segment_again : (heading : Heading) (n : ℕ) (h : TileHead) (s : Segment) (p : ReadingPlace) (rest : List ℕ) → p.rest ≡ segment_body s ++ rest → IsSegment heading n s → n ≤ 4 → IsFresh h s
    → RoomFor s p → SegmentRead heading n h s p rest
unfolding segment_at
segment_again heading n h (CodSegment c) p rest e is few fresh room =
    let s = cod_again n c p rest e is.1 room in
    record { to = s.0; read = rw (is.0, fresh, s.1) refl; rest-is = s.2; at-is = s.3 }
segment_again heading n h (CocSegment i k) p rest e is few fresh room =
    let s = coc_again h.coc n i k p rest e is.1 few is.2 fresh room in
    record { to = s.0; read = rw (is.0, s.1) refl; rest-is = s.2; at-is = s.3 }
segment_again heading n h (QcdSegment v) p rest e is few fresh room =
    let s = qcd_again v p rest e is.1 is.2 room in
    record { to = s.0; read = rw (is.0, fresh, s.1) refl; rest-is = s.2; at-is = s.3 }
segment_again heading n h (QccSegment i v) p rest e is few fresh room =
    let s = qcc_again h.qcc n i v p rest e is.1 few fresh is.2 is.3 room in
    record { to = s.0; read = rw (is.0, s.1) refl; rest-is = s.2; at-is = s.3 }
segment_again heading n h (Passed m bytes) p rest e is few fresh room = passed_read heading n m bytes h p rest e is.0 is.2 is.3 room
segment_again heading n h (Alone m) p rest e is few fresh room = alone_again heading n m h p rest e is

room_for : (s : Segment) (p : ReadingPlace) → length (segment_body s) ≤ p.room → RoomFor s p
unfolding segment_body
room_for (CodSegment c) p le = omega (arith, le)
room_for (CocSegment i k) p le = omega (arith, le)
room_for (QcdSegment q) p le = omega (arith, le)
room_for (QccSegment i q) p le = omega (arith, le)
room_for (Passed m bytes) p le = omega (arith, le)
room_for (Alone m) p le = tt

-- a marker that ends a header stands for nothing else in it
pub record EndsHeader (heading : Heading) (last : ℕ) : Type 0 where
  pub no_cod : eqb cod last ≡ false
  pub no_coc : eqb coc last ≡ false
  pub no_qcd : eqb qcd last ≡ false
  pub no_qcc : eqb qcc last ≡ false
  pub no_other : is_other heading last ≡ false
  pub not_alone : is_alone last ≡ false
  pub narrow : last < 2 ^ 16

pub not_last : (heading : Heading) (n last : ℕ) (s : Segment) → EndsHeader heading last → IsSegment heading n s → eqb (marker_of s) last ≡ false
not_last heading n last (CodSegment c) ends is = ends.no_cod
not_last heading n last (CocSegment i k) ends is = ends.no_coc
not_last heading n last (QcdSegment q) ends is = ends.no_qcd
not_last heading n last (QccSegment i q) ends is = ends.no_qcc
not_last heading n last (Passed m bytes) ends is = apart (is_other heading) m last is.2 ends.no_other
not_last heading n last (Alone m) ends is = apart is_alone m last is ends.not_alone

pub narrow_marker : (heading : Heading) (n : ℕ) (s : Segment) → IsSegment heading n s → marker_of s < 2 ^ 16
narrow_marker heading n (CodSegment c) is = lit< tt
narrow_marker heading n (CocSegment i k) is = lit< tt
narrow_marker heading n (QcdSegment q) is = lit< tt
narrow_marker heading n (QccSegment i q) is = lit< tt
narrow_marker heading n (Passed m bytes) is = is.1
narrow_marker heading n (Alone m) is =
    let low = leb-true _ _ (and_parts (leb 0xFF30 m) (leb m 0xFF3F) is).1 in
    omega (arith, low)

-- what is read of the segments of a header, and where they end
pub record HeaderRead (due : Result (TileHead × ReadingPlace) Fault) (g : TileHead) (p : ReadingPlace) (size : ℕ) (rest : List ℕ) : Type 0 where
  pub to : ReadingPlace
  pub read : due ≡ Ok (g, to)
  pub rest-is : to.rest ≡ rest
  pub at-is : to.at ≡ p.at + size

apart_text : (a b c d : List ℕ) → ((a ++ b) ++ c) ++ d ≡ a ++ (b ++ (c ++ d))
apart_text a b c d = append_assoc (a ++ b) c d ∙ append_assoc a b (c ++ d)

pub segments_again : (k : ℕ) (heading : Heading) (n last : ℕ) (ss : List Segment) (h : TileHead) (p : ReadingPlace) (rest : List ℕ) → p.rest ≡ flat_map segment_text ss ++ (marker_text last ++ rest)
    → p.room ≡ length p.rest → length ss < k → n ≤ 4 → EndsHeader heading last → AllByRecursion (IsSegment heading n) ss → AreFresh h ss
    → HeaderRead (segments_at k heading n last h p) (with_segments h ss) p (length (flat_map segment_text ss) + 2) rest
unfolding segments_at
segments_again zero heading n last ss h p rest e room fuel few ends each fresh = absurd (omega (arith, fuel))
segments_again (suc k) heading n last [] h p rest e room fuel few ends each fresh =
    let long : 2 ≤ p.room = omega (arith, room, ap (λ (x : List ℕ). length x) e) in
    let low = ends.narrow in
    let s1 = number_again 2 last p rest e (omega (arith, low)) long in
    let same : eqb last last ≡ true = eq-eqb last last refl in
    record { to = ahead 2 rest p; read = rw (s1, same) refl; rest-is = refl; at-is = omega arith }
segments_again (suc k) heading n last (s ∷ ss) h p rest e room fuel few ends each fresh =
    let m = marker_of s in
    let body = segment_body s in
    let tail = flat_map segment_text ss ++ (marker_text last ++ rest) in
    let spelled : p.rest ≡ marker_text m ++ (body ++ tail) = e ∙ apart_text (marker_text m) body (flat_map segment_text ss) (marker_text last ++ rest) in
    let size : length p.rest ≡ length (marker_text m ++ (body ++ tail)) = ap (λ (x : List ℕ). length x) spelled in
    let len : p.room ≡ 2 + (length body + length tail) = omega (arith, room, size, length-append body tail) in
    let low = narrow_marker heading n s each.0 in
    let p1 = ahead 2 (body ++ tail) p in
    let s1 = number_again 2 m p (body ++ tail) spelled (omega (arith, low)) (omega (arith, len)) in
    let other = not_last heading n last s ends each.0 in
    let one = segment_again heading n h s p1 tail refl each.0 few fresh.0 (room_for s p1 (omega (arith, len))) in
    let out = outside one.to in
    let more = segments_again k heading n last ss (with_segment h s) out rest one.rest-is refl (omega (arith, fuel)) few ends each.1 fresh.1 in
    let text = length-append (segment_text s) (flat_map segment_text ss) in
    let front = length-append (marker_text m) body in
    record {
      to = more.to;
      read = rw (s1, other, one.read, more.read) refl;
      rest-is = more.rest-is;
      at-is = omega (arith, more.at-is, one.at-is, text, front);
    }
