-- A main header that is read is spelled so, and one that is spelled so is read.
use Rattle.std.proofs.Common.{◌≡◌, ℕ, ◌+◌, ◌-◌, ◌<◌, ◌≤◌, false, not, eqb, List, [], ◌∷◌, ◌++◌, length, map, Ok, refl, sym, ap, subst, ◌∙◌, append_assoc, lit≤, lit<, arith}
use Rattle.std.specs.Prelude.{is_none}
use Rattle.std.proofs.lemmas.Bool.{true≢false, eqb-true, not-false}
use Rattle.std.proofs.lemmas.List.{length-append, length-map}
use Rattle.std.specs.List.{flat_map}
use Rattle.byteorder.specs.Endian.{big_bytes}
use Rattle.jk_math.specs.Steps.{bind_then, refuse_then, ok_is}
use Rattle.jk_math.specs.declared.fault.Fault.TheVariants.{BadMarker}
use Rattle.jk_marks.specs.declared.siz.Siz.{Siz}
use Rattle.jk_marks.specs.declared.head.Heading.TheVariants.{MainHeader}
use Rattle.jk_marks.specs.declared.head.TileHead.{TileHead}
use Rattle.jk_marks.specs.declared.main_header.Main.{Main}
use Rattle.jk_marks.specs.Place.{closed, outside}
use Rattle.jk_marks.specs.Markers.{soc, siz, sot, marker_text}
use Rattle.jk_marks.specs.Siz.{siz_text, IsSiz}
use Rattle.jk_marks.specs.Segments.{Segment, segment_text, cods, qcds, quantisation_of}
use Rattle.jk_marks.specs.Codestream.{first, head_of, main_text, main_with, main_of, IsMain, BeginsMain}
use Rattle.jk_marks.specs.Reading.{number, header_at}
use Rattle.jk_marks.specs.HeaderReading.{siz_at, main_from, main_at}
use Rattle.jk_math.proofs.Laws.{AreBytes}
use Rattle.jk_marks.proofs.Steps.{Goes, ahead, goes_then, goes_as, number_goes, number_again}
use Rattle.jk_marks.proofs.HeadLaws.{segments_goes}
use Rattle.jk_marks.proofs.HeadAgain.{EndsHeader, segments_again}
use Rattle.jk_marks.proofs.HeadOf.{segments_are, segments_fresh, segments_say}
use Rattle.jk_marks.proofs.SizLaws.{siz_body, body_length, siz_parts, siz_goes, siz_again}

abbrev pub FoundMain : List ℕ → Main → ℕ → Type 0
FoundMain bytes m n = (siz : Siz) × (segments : List Segment) × IsMain siz segments × BeginsMain bytes siz segments × (m ≡ main_of siz segments) × (n ≡ length (main_text siz segments))

some_first : {X : Type 0} (xs : List X) → is_none (first xs) ≡ false → length xs ≤ 1 → length xs ≡ 1
some_first [] e few = absurd (true≢false e)
some_first (x ∷ xs) e few = omega (arith, few)

first_some : {X : Type 0} (xs : List X) → length xs ≡ 1 → is_none (first xs) ≡ false
first_some [] e = absurd (omega (arith, e))
first_some (x ∷ xs) e = refl

-- the text before SOT, piece by piece
main_pieces : (s : Siz) (ss : List Segment) (rest : List ℕ) → main_text s ss ++ rest ≡ marker_text soc ++ (marker_text siz ++ (siz_body s ++ (flat_map segment_text ss ++ rest)))
unfolding main_text
main_pieces s ss rest =
    ap (λ (x : List ℕ). (marker_text soc ++ (x ++ flat_map segment_text ss)) ++ rest) (siz_parts s)
    ∙ ap (λ (x : List ℕ). marker_text soc ++ (marker_text siz ++ x)) (append_assoc (siz_body s) (flat_map segment_text ss) rest)

main_length : (s : Siz) (ss : List Segment) → length (main_text s ss) ≡ 4 + length (siz_body s) + length (flat_map segment_text ss)
unfolding main_text
main_length s ss =
    let e = ap (λ (x : List ℕ). length x) (siz_parts s) in
    omega (arith, e, length-append (siz_text s) (flat_map segment_text ss))

pub found_main : (bytes : List ℕ) (m : Main) (n : ℕ) → AreBytes bytes → main_at bytes ≡ Ok (m, n) → FoundMain bytes m n
unfolding main_at main_from
found_main bytes m n fits e =
    let t : Main × ℕ = (m, n) in
    bind_then (number 2 (closed bytes 0)) _ t e (λ first s1 e.
    refuse_then (not (eqb first.0 soc)) BadMarker _ t e (λ is_soc e.
    bind_then (number 2 first.1) _ t e (λ second s2 e.
    refuse_then (not (eqb second.0 siz)) BadMarker _ t e (λ is_siz e.
    bind_then (siz_at second.1) _ t e (λ size s3 e.
    bind_then (header_at MainHeader size.0.components sot size.1) _ t e (λ head s4 e.
    bind_then (main_from size.0 head.0) _ t e (λ main s5 e.
    refuse_then (is_none head.0.cod) BadMarker _ main s5 (λ some_cod s6.
    refuse_then (is_none head.0.qcd) BadMarker _ main s6 (λ some_qcd s7.
    let g1 = number_goes 2 first.0 (closed bytes 0) first.1 fits s1 in
    let g2 = number_goes 2 second.0 first.1 second.1 g1.0.bytes s2 in
    let g3 = siz_goes size.0 second.1 size.1 g2.0.bytes s3 in
    let g4 = segments_goes (length size.1.rest) MainHeader size.0.components sot (head_of []) head.0 (outside size.1) head.1 g3.0.bytes s4 in
    let s = size.0 in
    let ss = g4.segments in
    let few = g3.1.few_components in
    let are = segments_are MainHeader s.components ss few g4.each g4.fresh in
    let say : head.0 ≡ head_of ss = g4.gives ∙ segments_say MainHeader s.components ss few g4.each g4.fresh in
    let one_coding : length (cods ss) ≡ 1 = some_first (cods ss) (sym (ap (λ (h : TileHead). is_none h.cod) say) ∙ some_cod) are.one_coding in
    let len : length (map quantisation_of (qcds ss)) ≡ length (qcds ss) = simp length-map in
    let steps : length (map quantisation_of (qcds ss)) ≡ 1 = some_first (map quantisation_of (qcds ss)) (sym (ap (λ (h : TileHead). is_none h.qcd) say) ∙ some_qcd)
    (subst (λ k. k ≤ 1) (sym len) are.one_quantisation) in
    let is : IsMain s ss = record { size = g3.1; well_formed = are; one_coding = one_coding; one_quantisation = sym len ∙ steps } in
    let left : Goes size.1 (flat_map segment_text ss ++ marker_text sot) head.1 = record { parts = g4.gone.parts; at = g4.gone.at; bytes = g4.gone.bytes } in
    let gone = goes_then (closed bytes 0) (big_bytes 2 first.0) first.1 (big_bytes 2 second.0 ++ (siz_body s ++ (flat_map segment_text ss ++ marker_text sot))) head.1 g1.0
    (goes_then first.1 (big_bytes 2 second.0) second.1 (siz_body s ++ (flat_map segment_text ss ++ marker_text sot)) head.1 g2.0
    (goes_then second.1 (siz_body s) size.1 (flat_map segment_text ss ++ marker_text sot) head.1 g3.0 left)) in
    let text : big_bytes 2 first.0 ++ (big_bytes 2 second.0 ++ (siz_body s ++ (flat_map segment_text ss ++ marker_text sot))) ≡ main_text s ss ++ marker_text sot =
    ap (λ k. big_bytes 2 k ++ (big_bytes 2 second.0 ++ (siz_body s ++ (flat_map segment_text ss ++ marker_text sot)))) (eqb-true _ _ (not-false _ is_soc))
    ∙ ap (λ k. marker_text soc ++ (big_bytes 2 k ++ (siz_body s ++ (flat_map segment_text ss ++ marker_text sot)))) (eqb-true _ _ (not-false _ is_siz))
    ∙ sym (main_pieces s ss (marker_text sot)) in
    let all = goes_as (closed bytes 0) _ _ head.1 gone text in
    let begins : BeginsMain bytes s ss = record { others = head.1.rest; text = all.parts ∙ append_assoc (main_text s ss) (marker_text sot) head.1.rest } in
    let at : head.1.at - 2 ≡ length (main_text s ss) = omega (arith, all.at, length-append (main_text s ss) (marker_text sot)) in
    let pair = ok_is (main, head.1.at - 2) t e in
    let main-is : m ≡ main_of s ss = sym (ap (λ (r : Main × ℕ). r.0) pair) ∙ sym (ok_is (main_with s head.0) main s7) ∙ ap (λ (h : TileHead). main_with s h) say in
    (s, ss, is, begins, main-is, sym (ap (λ (r : Main × ℕ). r.1) pair) ∙ at))))))))))

pub ends_main : EndsHeader MainHeader sot
ends_main = record { no_cod = refl; no_coc = refl; no_qcd = refl; no_qcc = refl; no_other = refl; not_alone = refl; narrow = lit< tt }

-- a list of segments is not longer than their text
pub many_bytes : (ss : List Segment) → length ss ≤ length (flat_map segment_text ss)
many_bytes [] = lit≤ tt
many_bytes (s ∷ ss) =
    let rest = many_bytes ss in
    omega (arith, rest, length-append (segment_text s) (flat_map segment_text ss))

pub only_main : (bytes : List ℕ) (s : Siz) (ss : List Segment) → IsMain s ss → BeginsMain bytes s ss → main_at bytes ≡ Ok (main_of s ss, length (main_text s ss))
unfolding main_at main_from
only_main bytes s ss is begins =
    let few = is.size.few_components in
    let r3 = flat_map segment_text ss ++ (marker_text sot ++ begins.others) in
    let r2 = siz_body s ++ r3 in
    let r1 = marker_text siz ++ r2 in
    let e : bytes ≡ marker_text soc ++ r1 = begins.text ∙ main_pieces s ss (marker_text sot ++ begins.others) in
    let p0 = closed bytes 0 in
    let len : length bytes ≡ 4 + (length (siz_body s) + length r3) = ap (λ (x : List ℕ). length x) e ∙ omega (arith, length-append (siz_body s) r3) in
    let p1 = ahead 2 r1 p0 in
    let p2 = ahead 2 r2 p1 in
    let s1 = number_again 2 soc p0 r1 e (lit< tt) (omega (arith, len)) in
    let s2 = number_again 2 siz p1 r2 refl (lit< tt) (omega (arith, len)) in
    let size = length-append (siz_body s) r3 in
    let s3 = siz_again s p2 r3 refl is.size (omega (arith, len)) in
    let q = s3.0 in
    let fresh = segments_fresh MainHeader s.components ss few is.well_formed in
    let fuel : length ss < length q.rest = omega (arith, ap (λ (x : List ℕ). length x) s3.2, length-append (flat_map segment_text ss) (marker_text sot ++ begins.others), many_bytes ss) in
    let h = segments_again (length q.rest) MainHeader s.components sot ss (head_of []) (outside q) begins.others s3.2 refl fuel few ends_main is.well_formed.each fresh in
    let say = segments_say MainHeader s.components ss few is.well_formed.each fresh in
    let read : header_at MainHeader s.components sot q ≡ Ok (head_of ss, h.to) = h.read ∙ ap (λ (x : TileHead). Ok (x, h.to)) say in
    let steps : length (map quantisation_of (qcds ss)) ≡ 1 = (simp length-map) ∙ is.one_quantisation in
    let c1 = first_some (cods ss) is.one_coding in
    let c2 = first_some (map quantisation_of (qcds ss)) steps in
    let at : h.to.at - 2 ≡ length (main_text s ss) = omega (arith, h.at-is, s3.3, main_length s ss, body_length s) in
    rw (s1, s2, s3.1, read, c1, c2, at) refl

pub main_within : (bytes : List ℕ) (m : Main) (n : ℕ) → FoundMain bytes m n → n ≤ length bytes
main_within bytes m n f =
    let size = ap (λ (x : List ℕ). length x) f.3.text in
    omega (arith, f.5, size, length-append (main_text f.0 f.1) (marker_text sot ++ f.3.others))

pub main_siz : (bytes : List ℕ) (m : Main) (n : ℕ) → FoundMain bytes m n → IsSiz m.siz
main_siz bytes m n f = subst IsSiz (sym (ap (λ (x : Main). x.siz) f.4)) f.2.size
