-- The segments of components, of quantization, and those that are passed over: what is read is spelled so, and what is spelled so is read.
use Rattle.std.proofs.Common.{◌≡◌, ℕ, ◌+◌, ◌-◌, ◌*◌, ◌/◌, ◌%◌, ◌^◌, ◌<◌, ◌≤◌, false, ◌||◌, eqb, ltb, leb, List, [], ◌∷◌, ◌++◌, length, Option, Ok, refl, sym, ap, subst, ◌∙◌, arith}
use Rattle.std.proofs.lemmas.Bool.{ltb-false, le-ltb, leb-false, lt-leb, eqb-false, or_parts}
use Rattle.byteorder.specs.Endian.{big_bytes}
use Rattle.jk_math.specs.Steps.{bind_then, refuse_then, ok_is}
use Rattle.jk_math.specs.declared.fault.Fault.TheVariants.{BadMarker, BadLength, BadValue, Unsupported}
use Rattle.jk_marks.specs.declared.segments.CodingStyle.{CodingStyle}
use Rattle.jk_marks.specs.declared.segments.Quantisation.{Quantisation}
use Rattle.jk_marks.specs.Place.{ReadingPlace}
use Rattle.jk_marks.specs.BlockStyle.{bit_of}
use Rattle.jk_marks.specs.Segments.{CocSegment, QcdSegment, QccSegment, Passed, StepSizes, AreSteps, IsStyle, segment_body, contents, style_text, given_bit, quantisation_of}
use Rattle.jk_marks.specs.Reading.{number, segment_length, style_at, component_at, coc_at, steps_at, qcd_at, qcc_at, passed_at, passing, has}
use Rattle.jk_math.proofs.Laws.{AreBytes}
use Rattle.jk_marks.proofs.Steps.{Goes, ahead, entered, goes_then, goes_as, byte_goes, byte_again, length_goes, length_again, passing_goes, passing_again}
use Rattle.jk_marks.proofs.StyleLaws.{style_goes, style_again}
use Rattle.jk_marks.proofs.SegmentLaws.{style_length, coc_length, bit_is, bit_small, bit_again, is_given, given_is, precincts_few}

component_goes : {X : Type 0} (others : List (Option X)) (n i : ℕ) (p q : ReadingPlace) → AreBytes p.rest → component_at others n p ≡ Ok (i, q)
    → Goes p (i ∷ []) q × (i < n) × (has others i ≡ false) × (i < 256)
unfolding component_at
component_goes others n i p q fits e =
    let t : ℕ × ReadingPlace = (i, q) in
    bind_then (number 1 p) _ t e (λ k read e.
    refuse_then (leb n k.0) BadValue _ t e (λ below e.
    refuse_then (has others k.0) BadMarker _ t e (λ fresh e.
    let g = byte_goes k.0 p k.1 fits read in
    subst (λ (r : ℕ × ReadingPlace). Goes p (r.0 ∷ []) r.1 × (r.0 < n) × (has others r.0 ≡ false) × (r.0 < 256)) (ok_is k t e) (g.0, leb-false _ _ below, fresh, g.1))))

component_again : {X : Type 0} (others : List (Option X)) (n i : ℕ) (p : ReadingPlace) (rest : List ℕ) → p.rest ≡ i ∷ rest → i < n → n ≤ 4 → has others i ≡ false → 1 ≤ p.room
    → component_at others n p ≡ Ok (i, ahead 1 rest p)
unfolding component_at
component_again others n i p rest e below few fresh room =
    let read = byte_again i p rest e (omega (arith, below, few)) room in
    let kept : leb n i ≡ false = lt-leb _ _ below in
    rw (read, kept, fresh) refl

pub coc_goes : (others : List (Option CodingStyle)) (n : ℕ) (k : ℕ × CodingStyle) (p q : ReadingPlace) → AreBytes p.rest → coc_at others n p ≡ Ok (k, q)
    → Goes p (segment_body (CocSegment k.0 k.1)) q × (k.0 < n) × IsStyle k.1 × (has others k.0 ≡ false)
unfolding coc_at segment_body contents
coc_goes others n k p q fits e =
    let t : (ℕ × CodingStyle) × ReadingPlace = (k, q) in
    bind_then (segment_length p) _ t e (λ size s1 e.
    bind_then (component_at others n size.1) _ t e (λ i s2 e.
    bind_then (number 1 i.1) _ t e (λ flags s3 e.
    refuse_then (ltb 1 flags.0) BadValue _ t e (λ low e.
    bind_then (style_at size.0 9 (eqb flags.0 1) flags.1) _ t e (λ style s4 e.
    let g1 = length_goes size.0 p size.1 fits s1 in
    let g2 = component_goes others n i.0 size.1 i.1 g1.0.bytes s2 in
    let g3 = byte_goes flags.0 i.1 flags.1 g2.0.bytes s3 in
    let g4 = style_goes size.0 9 (eqb flags.0 1) style.0 flags.1 style.1 g3.0.bytes s4 in
    let low = ltb-false _ _ low in
    let f : flags.0 ≡ given_bit style.0.precincts = sym (g4.given-is ∙ bit_is flags.0 (omega (arith, low))) in
    let text = style_text style.0 in
    let all = contents (CocSegment i.0 style.0) in
    let gone = goes_then p (big_bytes 2 size.0) size.1 (i.0 ∷ flags.0 ∷ text) style.1 g1.0
    (goes_then size.1 (i.0 ∷ []) i.1 (flags.0 ∷ text) style.1 g2.0 (goes_then i.1 (flags.0 ∷ []) flags.1 text style.1 g3.0 g4.gone)) in
    let size-is : size.0 ≡ 2 + length all = g4.size-is ∙ sym (coc_length i.0 style.0) in
    let whole : big_bytes 2 size.0 ++ (i.0 ∷ flags.0 ∷ text) ≡ segment_body (CocSegment i.0 style.0) =
    ap (λ x. big_bytes 2 size.0 ++ (i.0 ∷ x ∷ text)) f ∙ ap (λ x. big_bytes 2 x ++ all) size-is in
    let here : Goes p (segment_body (CocSegment i.0 style.0)) style.1 × (i.0 < n) × IsStyle style.0 × (has others i.0 ≡ false) =
    (goes_as p _ _ style.1 gone whole, g2.1, g4.is, g2.2) in
    subst (λ (r : (ℕ × CodingStyle) × ReadingPlace). Goes p (segment_body (CocSegment r.0.0 r.0.1)) r.1 × (r.0.0 < n) × IsStyle r.0.1 × (has others r.0.0 ≡ false))
    (ok_is ((i.0, style.0), style.1) t e) here)))))

pub coc_again : (others : List (Option CodingStyle)) (n i : ℕ) (k : CodingStyle) (p : ReadingPlace) (rest : List ℕ) → p.rest ≡ segment_body (CocSegment i k) ++ rest → i < n → n ≤ 4 → IsStyle k
    → has others i ≡ false → 2 ≤ p.room → (q : ReadingPlace) × (coc_at others n p ≡ Ok ((i, k), q)) × (q.rest ≡ rest) × (q.at ≡ p.at + length (segment_body (CocSegment i k)))
unfolding coc_at segment_body contents
coc_again others n i k p rest e below some is fresh room =
    let m = length k.precincts in
    let given = is_given k.precincts in
    let r3 = style_text k ++ rest in
    let r2 = bit_of given ∷ r3 in
    let r1 = i ∷ r2 in
    let size = 9 + m in
    let few = precincts_few k is in
    let e1 : p.rest ≡ big_bytes 2 size ++ r1 =
    e ∙ ap (λ z. big_bytes 2 z ++ (i ∷ given_bit k.precincts ∷ r3)) (coc_length i k) ∙ ap (λ z. big_bytes 2 size ++ (i ∷ z ∷ r3)) (given_is k.precincts) in
    let p1 = entered size r1 p in
    let p2 = ahead 1 r2 p1 in
    let p3 = ahead 1 r3 p2 in
    let s1 = length_again size p r1 e1 (omega (arith, few)) room in
    let s2 = component_again others n i p1 r2 refl below some fresh (omega arith) in
    let s3 = byte_again (bit_of given) p2 r3 refl (omega (arith, bit_small given)) (omega arith) in
    let s4 = style_again size 9 given k p3 rest refl is (given_is k.precincts) refl (omega arith) in
    let small = bit_small given in
    let c1 : ltb 1 (bit_of given) ≡ false = le-ltb _ _ (omega (arith, small)) in
    let q = ahead (5 + m) rest p3 in
    let read : coc_at others n p ≡ Ok ((i, k), q) = rw (s1, s2, s3, c1, bit_again given, s4) refl in
    (q, read, refl, omega (arith, coc_length i k, style_length k))

-- what was read of a quantization
pub record Steps (n : ℕ) (q : Quantisation) (p to : ReadingPlace) : Type 0 where
  pub steps : StepSizes
  pub gone : Goes p (32 * steps.guard ∷ steps.bytes) to
  pub count : length steps.bytes ≡ n
  pub guard : steps.guard < 8
  pub is : q ≡ quantisation_of steps

steps_goes : (n : ℕ) (v : Quantisation) (p q : ReadingPlace) → AreBytes p.rest → steps_at n p ≡ Ok (v, q) → Steps n v p q
unfolding steps_at
steps_goes n v p q fits e =
    let t : Quantisation × ReadingPlace = (v, q) in
    bind_then (number 1 p) _ t e (λ style s1 e.
    refuse_then (eqb (style.0 % 32) 1 || eqb (style.0 % 32) 2) Unsupported _ t e (λ known e.
    refuse_then (ltb 2 (style.0 % 32)) BadValue _ t e (λ low e.
    bind_then (passing n style.1) _ t e (λ bytes s2 e.
    let g1 = byte_goes style.0 p style.1 fits s1 in
    let g2 = passing_goes n bytes.0 style.1 bytes.1 g1.0.bytes s2 in
    let both = or_parts (eqb (style.0 % 32) 1) (eqb (style.0 % 32) 2) known in
    let one = eqb-false _ _ both.0 in
    let two = eqb-false _ _ both.1 in
    let low = ltb-false _ _ low in
    let zero-is : style.0 % 32 ≡ 0 = grind (arith, one, two, low) in
    let steps : StepSizes = record { guard = style.0 / 32; bytes = bytes.0 } in
    let first : style.0 ≡ 32 * (style.0 / 32) = omega (arith, zero-is) in
    let gone = goes_as p (style.0 ∷ bytes.0) (32 * steps.guard ∷ bytes.0) bytes.1 (goes_then p (style.0 ∷ []) style.1 bytes.0 bytes.1 g1.0 g2.0) (ap (λ x. x ∷ bytes.0) first) in
    let here : Steps n (quantisation_of steps) p bytes.1 = record { steps = steps; gone = gone; count = g2.1; guard = omega (arith, g1.1); is = refl } in
    subst (λ (r : Quantisation × ReadingPlace). Steps n r.0 p r.1) (ok_is (quantisation_of steps, bytes.1) t e) here))))

steps_again : (n : ℕ) (s : StepSizes) (p : ReadingPlace) (rest : List ℕ) → p.rest ≡ 32 * s.guard ∷ (s.bytes ++ rest) → AreSteps s → length s.bytes ≡ n → 1 ≤ p.room
    → steps_at n p ≡ Ok (quantisation_of s, ahead n rest (ahead 1 (s.bytes ++ rest) p))
unfolding steps_at
steps_again n s p rest e are len room =
    let p1 = ahead 1 (s.bytes ++ rest) p in
    let s1 = byte_again (32 * s.guard) p (s.bytes ++ rest) e (omega (arith, are.guard)) room in
    let low : 32 * s.guard % 32 ≡ 0 = omega arith in
    let guard : 32 * s.guard / 32 ≡ s.guard = omega arith in
    let s2 = passing_again s.bytes n p1 rest refl len in
    rw (s1, low, guard, s2) refl

pub record Qcd (v : Quantisation) (p q : ReadingPlace) : Type 0 where
  pub steps : StepSizes
  pub gone : Goes p (segment_body (QcdSegment steps)) q
  pub are : AreSteps steps
  pub short : 3 + length steps.bytes < 2 ^ 16
  pub is : v ≡ quantisation_of steps

pub qcd_goes : (v : Quantisation) (p q : ReadingPlace) → AreBytes p.rest → qcd_at p ≡ Ok (v, q) → Qcd v p q
unfolding qcd_at segment_body contents
qcd_goes v p q fits e =
    let t : Quantisation × ReadingPlace = (v, q) in
    bind_then (segment_length p) _ t e (λ size s1 e.
    refuse_then (ltb size.0 4) BadLength _ t e (λ long e.
    let g1 = length_goes size.0 p size.1 fits s1 in
    let g2 = steps_goes (size.0 - 3) v size.1 q g1.0.bytes e in
    let long = ltb-false _ _ long in
    let size-is : size.0 ≡ 3 + length g2.steps.bytes = omega (arith, long, g2.count) in
    record {
      steps = g2.steps;
      gone = goes_as p _ _ q (goes_then p (big_bytes 2 size.0) size.1 (32 * g2.steps.guard ∷ g2.steps.bytes) q g1.0 g2.gone)
          (ap (λ n. big_bytes 2 n ++ (32 * g2.steps.guard ∷ g2.steps.bytes)) (size-is ∙ omega arith));
      are = record { guard = g2.guard; some = omega (arith, long, g2.count) };
      short = omega (arith, size-is, g1.1);
      is = g2.is;
    }))

qcd_length : (s : StepSizes) → 2 + length (contents (QcdSegment s)) ≡ 3 + length s.bytes
unfolding contents
qcd_length s = omega arith

qcc_length : (i : ℕ) (s : StepSizes) → 2 + length (contents (QccSegment i s)) ≡ 4 + length s.bytes
unfolding contents
qcc_length i s = omega arith

pub qcd_again : (s : StepSizes) (p : ReadingPlace) (rest : List ℕ) → p.rest ≡ segment_body (QcdSegment s) ++ rest → AreSteps s → 3 + length s.bytes < 2 ^ 16 → 2 ≤ p.room
    → (q : ReadingPlace) × (qcd_at p ≡ Ok (quantisation_of s, q)) × (q.rest ≡ rest) × (q.at ≡ p.at + length (segment_body (QcdSegment s)))
unfolding qcd_at segment_body contents
qcd_again s p rest e are short room =
    let n = length s.bytes in
    let size = 3 + n in
    let r1 = 32 * s.guard ∷ (s.bytes ++ rest) in
    let e1 : p.rest ≡ big_bytes 2 size ++ r1 = e ∙ ap (λ z. big_bytes 2 z ++ r1) (qcd_length s) in
    let p1 = entered size r1 p in
    let some = are.some in
    let s1 = length_again size p r1 e1 (omega (arith, short)) room in
    let c1 : ltb size 4 ≡ false = le-ltb _ _ (omega (arith, some)) in
    let k : size - 3 ≡ n = omega arith in
    let s2 = steps_again n s p1 rest refl are refl (omega (arith, some)) in
    let q = ahead n rest (ahead 1 (s.bytes ++ rest) p1) in
    let read : qcd_at p ≡ Ok (quantisation_of s, q) = rw (s1, c1, k, s2) refl in
    (q, read, refl, omega arith)

pub record Qcc (others : List (Option Quantisation)) (n : ℕ) (v : ℕ × Quantisation) (p q : ReadingPlace) : Type 0 where
  pub steps : StepSizes
  pub gone : Goes p (segment_body (QccSegment v.0 steps)) q
  pub below : v.0 < n
  pub fresh : has others v.0 ≡ false
  pub are : AreSteps steps
  pub short : 4 + length steps.bytes < 2 ^ 16
  pub is : v.1 ≡ quantisation_of steps

pub qcc_goes : (others : List (Option Quantisation)) (n : ℕ) (v : ℕ × Quantisation) (p q : ReadingPlace) → AreBytes p.rest → qcc_at others n p ≡ Ok (v, q) → Qcc others n v p q
unfolding qcc_at segment_body contents
qcc_goes others n v p q fits e =
    let t : (ℕ × Quantisation) × ReadingPlace = (v, q) in
    bind_then (segment_length p) _ t e (λ size s1 e.
    refuse_then (ltb size.0 5) BadLength _ t e (λ long e.
    bind_then (component_at others n size.1) _ t e (λ i s2 e.
    bind_then (steps_at (size.0 - 4) i.1) _ t e (λ steps s3 e.
    let g1 = length_goes size.0 p size.1 fits s1 in
    let g2 = component_goes others n i.0 size.1 i.1 g1.0.bytes s2 in
    let g3 = steps_goes (size.0 - 4) steps.0 i.1 steps.1 g2.0.bytes s3 in
    let long = ltb-false _ _ long in
    let size-is : size.0 ≡ 4 + length g3.steps.bytes = omega (arith, long, g3.count) in
    let text : List ℕ = 32 * g3.steps.guard ∷ g3.steps.bytes in
    let here : Qcc others n (i.0, steps.0) p steps.1 = record {
      steps = g3.steps;
      gone = goes_as p _ _ steps.1 (goes_then p (big_bytes 2 size.0) size.1 (i.0 ∷ text) steps.1 g1.0 (goes_then size.1 (i.0 ∷ []) i.1 text steps.1 g2.0 g3.gone))
          (ap (λ n. big_bytes 2 n ++ (i.0 ∷ text)) (size-is ∙ omega arith));
      below = g2.1;
      fresh = g2.2;
      are = record { guard = g3.guard; some = omega (arith, long, g3.count) };
      short = omega (arith, size-is, g1.1);
      is = g3.is;
    } in
    subst (λ (r : (ℕ × Quantisation) × ReadingPlace). Qcc others n r.0 p r.1) (ok_is ((i.0, steps.0), steps.1) t e) here))))

pub qcc_again : (others : List (Option Quantisation)) (n i : ℕ) (s : StepSizes) (p : ReadingPlace) (rest : List ℕ) → p.rest ≡ segment_body (QccSegment i s) ++ rest → i < n → n ≤ 4
    → has others i ≡ false → AreSteps s → 4 + length s.bytes < 2 ^ 16 → 2 ≤ p.room
    → (q : ReadingPlace) × (qcc_at others n p ≡ Ok ((i, quantisation_of s), q)) × (q.rest ≡ rest) × (q.at ≡ p.at + length (segment_body (QccSegment i s)))
unfolding qcc_at segment_body contents
qcc_again others n i s p rest e below some_n fresh are short room =
    let n_bytes = length s.bytes in
    let size = 4 + n_bytes in
    let r2 = 32 * s.guard ∷ (s.bytes ++ rest) in
    let r1 = i ∷ r2 in
    let e1 : p.rest ≡ big_bytes 2 size ++ r1 = e ∙ ap (λ z. big_bytes 2 z ++ r1) (qcc_length i s) in
    let p1 = entered size r1 p in
    let p2 = ahead 1 r2 p1 in
    let some = are.some in
    let s1 = length_again size p r1 e1 (omega (arith, short)) room in
    let c1 : ltb size 5 ≡ false = le-ltb _ _ (omega (arith, some)) in
    let k : size - 4 ≡ n_bytes = omega arith in
    let s2 = component_again others n i p1 r2 refl below some_n fresh (omega arith) in
    let s3 = steps_again n_bytes s p2 rest refl are refl (omega (arith, some)) in
    let q = ahead n_bytes rest (ahead 1 (s.bytes ++ rest) p2) in
    let read : qcc_at others n p ≡ Ok ((i, quantisation_of s), q) = rw (s1, c1, s2, k, s3) refl in
    (q, read, refl, omega arith)

pub passed_goes : (bytes : List ℕ) (m : ℕ) (p q : ReadingPlace) → AreBytes p.rest → passed_at p ≡ Ok (bytes, q) → Goes p (segment_body (Passed m bytes)) q × (2 + length bytes < 2 ^ 16)
unfolding passed_at segment_body contents
passed_goes bytes m p q fits e =
    let t : List ℕ × ReadingPlace = (bytes, q) in
    bind_then (segment_length p) _ t e (λ size s1 e.
    refuse_then (ltb size.0 2) BadLength _ t e (λ long e.
    let g1 = length_goes size.0 p size.1 fits s1 in
    let g2 = passing_goes (size.0 - 2) bytes size.1 q g1.0.bytes e in
    let long = ltb-false _ _ long in
    let size-is : size.0 ≡ 2 + length bytes = omega (arith, long, g2.1) in
    (goes_as p _ _ q (goes_then p (big_bytes 2 size.0) size.1 bytes q g1.0 g2.0) (ap (λ n. big_bytes 2 n ++ bytes) size-is), omega (arith, size-is, g1.1))))

pub passed_again : (bytes : List ℕ) (m : ℕ) (p : ReadingPlace) (rest : List ℕ) → p.rest ≡ segment_body (Passed m bytes) ++ rest → 2 + length bytes < 2 ^ 16 → 2 ≤ p.room
    → (q : ReadingPlace) × (passed_at p ≡ Ok (bytes, q)) × (q.rest ≡ rest) × (q.at ≡ p.at + length (segment_body (Passed m bytes)))
unfolding passed_at segment_body contents
passed_again bytes m p rest e short room =
    let size = 2 + length bytes in
    let r1 = bytes ++ rest in
    let p1 = entered size r1 p in
    let s1 = length_again size p r1 e (omega (arith, short)) room in
    let c1 : ltb size 2 ≡ false = le-ltb _ _ (omega arith) in
    let k : length bytes ≡ size - 2 = omega arith in
    let s2 = passing_again bytes (size - 2) p1 rest refl k in
    let q = ahead (size - 2) rest p1 in
    let read : passed_at p ≡ Ok (bytes, q) = rw (s1, c1, s2) refl in
    (q, read, refl, omega arith)
