-- What the outline of a codestream says, the codestream says.
use Rattle.std.proofs.Common.{◌≡◌, ℕ, ◌+◌, ◌-◌, ◌<◌, ◌≤◌, ◌^◌, Bool, true, false, cond, List, [], ◌∷◌, ◌++◌, length, length-append, take, drop, refl, sym, ap, ◌∙◌, arith, append_assoc}
use Rattle.std.specs.List.{flat_map, AllByRecursion}
use Rattle.std.proofs.lemmas.List.{take_at, drop_at, length-drop, length-take-le, append_cancel_left}
use Rattle.byteorder.specs.Endian.{big_number, big_bytes}
use Rattle.byteorder.specs.Numbers.{big_number-reads_back}
use Rattle.jk_marks.specs.declared.siz.Siz.{Siz}
use Rattle.jk_marks.specs.Markers.{sot, sod, eoc, marker_text}
use Rattle.jk_marks.specs.Segments.{segment_text}
use Rattle.jk_marks.specs.Codestream.{CodestreamPart, part_text, part_length, psot, IsPart}
use Rattle.jk_params.proofs.Laws.{part_text_length}
use Rattle.jk_walk.specs.TilePackets.{slice_of}
use Rattle.jk_walk.proofs.Slices.{slice_join, slice_length, slice_none}
use Rattle.jk_stored.specs.Outlines.{Front, shortened, IsFront, AreFronts}

-- ---- lists

pub front_same : (xs ys us vs : List ℕ) → length xs ≡ length ys → xs ++ us ≡ ys ++ vs → (xs ≡ ys) × (us ≡ vs)
front_same xs ys us vs long e = (
  sym (take_at xs us (length xs) refl) ∙ ap (take (length xs)) e ∙ take_at ys vs (length xs) (sym long),
  sym (drop_at xs us (length xs) refl) ∙ ap (drop (length xs)) e ∙ drop_at ys vs (length xs) (sym long),
)

-- ---- a tile-part and its front

-- what is behind Psot
abbrev behind : CodestreamPart → List ℕ
behind p = big_bytes 1 p.number ++ (big_bytes 1 p.total ++ (flat_map segment_text p.segments ++ (marker_text sod ++ p.content)))

abbrev before : CodestreamPart → List ℕ
before p = marker_text sot ++ (big_bytes 2 10 ++ big_bytes 2 p.tile)

text_is : (p : CodestreamPart) → part_text p ≡ before p ++ (big_bytes 4 (psot p) ++ behind p)
unfolding part_text
text_is p = refl

-- ten bytes or more
ten : (xs : List ℕ) → 10 ≤ length xs → (a b c d e f g h i j : ℕ) × (rest : List ℕ) × (xs ≡ a ∷ (b ∷ (c ∷ (d ∷ (e ∷ (f ∷ (g ∷ (h ∷ (i ∷ (j ∷ rest))))))))))
ten (a ∷ (b ∷ (c ∷ (d ∷ (e ∷ (f ∷ (g ∷ (h ∷ (i ∷ (j ∷ rest)))))))))) long = (a, b, c, d, e, f, g, h, i, j, rest, refl)
ten xs long = absurd (omega (arith, long))

short_length : (f : Front) → 10 ≤ length f.bytes → length (shortened f) ≡ length f.bytes
short_length f long =
    let six = length-take-le 6 f.bytes (omega (arith, long)) in
    let rest = length-drop 10 f.bytes in
    omega (arith, six, rest, long, length-append (take 6 f.bytes) (big_bytes 4 (length f.bytes) ++ drop 10 f.bytes))

-- Psot of a front
short_psot : (f : Front) (more : List ℕ) → 10 ≤ length f.bytes → length f.bytes < 2 ^ 32 → big_number 4 (drop 6 (shortened f ++ more)) ≡ length f.bytes
short_psot f more long few =
    let six = length-take-le 6 f.bytes (omega (arith, long)) in
    ap (big_number 4)
    (ap (drop 6) (append_assoc (take 6 f.bytes) (big_bytes 4 (length f.bytes) ++ drop 10 f.bytes) more)
    ∙ drop_at (take 6 f.bytes) ((big_bytes 4 (length f.bytes) ++ drop 10 f.bytes) ++ more) 6 six)
    ∙ big_number-reads_back 4 (length f.bytes) (drop 10 f.bytes ++ more) (omega (arith, few))

part_psot : (siz : Siz) (p : CodestreamPart) (more : List ℕ) → IsPart siz p → big_number 4 (drop 6 (part_text p ++ more)) ≡ psot p
part_psot siz p more is =
    let fits = is.fits in
    ap (λ (xs : List ℕ). big_number 4 (drop 6 (xs ++ more))) (text_is p) ∙ big_number-reads_back 4 (psot p) (behind p ++ more) (omega (arith, fits))

-- it isn't left open
pub record IsClosed (p : CodestreamPart) (n : ℕ) : Type 0 where
  pub closed : p.is_open ≡ false
  pub long : part_length p ≡ n

closed_by : (p : CodestreamPart) (n : ℕ) → 0 < n → psot p ≡ n → IsClosed p n
closed_by p n some e = by p.is_open refl e
  where
    by : (b : Bool) → p.is_open ≡ b → cond b 0 (part_length p) ≡ n → IsClosed p n
    by true o z = absurd (omega (arith, some, z))
    by false o z = record { closed = o; long = z }

-- A tile-part at the front of what the front of a tile-part is at the front of too is that.
pub record IsAligned (p : CodestreamPart) (f : Front) : Type 0 where
  pub closed : p.is_open ≡ false
  pub long : part_length p ≡ length f.bytes
  pub text : part_text p ≡ shortened f

align_part : (siz : Siz) (p : CodestreamPart) (f : Front) (us vs : List ℕ) → IsPart siz p → 14 ≤ length f.bytes → length f.bytes < 2 ^ 32 → part_text p ++ us ≡ shortened f ++ vs → IsAligned p f × (us ≡ vs)
align_part siz p f us vs is long few e =
    let ten : 10 ≤ length f.bytes = omega (arith, long) in
    let size : psot p ≡ length f.bytes = sym (part_psot siz p us is) ∙ ap (λ (xs : List ℕ). big_number 4 (drop 6 xs)) e ∙ short_psot f vs ten few in
    let c = closed_by p (length f.bytes) (omega (arith, long)) size in
    let both = front_same (part_text p) (shortened f) us vs (part_text_length p ∙ c.long ∙ sym (short_length f ten)) e in
    (record { closed = c.closed; long = c.long; text = both.0 }, both.1)

-- fronts that hold a head
abbrev pub AreHeads : List Front → Type 0
AreHeads fronts = AllByRecursion (λ f. (14 ≤ length f.bytes) × (length f.bytes < 2 ^ 32)) fronts

abbrev pub AreAligned : List CodestreamPart → List Front → Type 0
AreAligned [] [] = Unit {0}
AreAligned [] (f ∷ fronts) = ⊥
AreAligned (p ∷ parts) [] = ⊥
AreAligned (p ∷ parts) (f ∷ fronts) = IsAligned p f × AreAligned parts fronts

pub aligned : (siz : Siz) (parts : List CodestreamPart) (fronts : List Front) → AllByRecursion (IsPart siz) parts → AreHeads fronts → flat_map part_text parts ++ marker_text eoc ≡ flat_map shortened fronts ++ marker_text eoc
    → AreAligned parts fronts
aligned siz [] [] each heads e = tt
aligned siz [] (f ∷ fronts) each heads e =
    let size = ap (λ (xs : List ℕ). length xs) e in
    let long = heads.0.0 in
    let short = short_length f (omega (arith, long)) in
    absurd (omega (arith, size, short, long, length-append (shortened f ++ flat_map shortened fronts) (marker_text eoc), length-append (shortened f) (flat_map shortened fronts)))
aligned siz (p ∷ parts) [] each heads e =
    let size = ap (λ (xs : List ℕ). length xs) e in
    let long = part_text_length p in
    absurd (omega (arith, size, long, length-append (part_text p ++ flat_map part_text parts) (marker_text eoc), length-append (part_text p) (flat_map part_text parts)))
aligned siz (p ∷ parts) (f ∷ fronts) each heads e =
    let here = align_part siz p f (flat_map part_text parts ++ marker_text eoc) (flat_map shortened fronts ++ marker_text eoc) each.0 heads.0.0 heads.0.1
    (sym (append_assoc (part_text p) (flat_map part_text parts) (marker_text eoc)) ∙ e ∙ append_assoc (shortened f) (flat_map shortened fronts) (marker_text eoc)) in
    (here.0, aligned siz parts fronts each.1 heads.1 here.1)

-- ---- the tile-part of the whole codestream

-- with more data
abbrev pub grown_by : List ℕ → CodestreamPart → CodestreamPart
grown_by more p = record p { content = p.content ++ more }

ends_same : (a b c d e f g h i j : ℕ) (xs : List ℕ) (n : ℕ) (p : CodestreamPart) → before p ++ (big_bytes 4 n ++ behind p) ≡ a ∷ (b ∷ (c ∷ (d ∷ (e ∷ (f ∷ (big_bytes 4 n ++ xs)))))) → (before p ≡ a ∷ (b ∷ (c ∷ (d ∷ (e ∷ (f ∷ [])))))) × (behind p ≡ xs)
ends_same a b c d e f g h i j xs n p same =
    let both = front_same (before p) (a ∷ (b ∷ (c ∷ (d ∷ (e ∷ (f ∷ [])))))) (big_bytes 4 n ++ behind p) (big_bytes 4 n ++ xs) refl same in
    (both.0, append_cancel_left (big_bytes 4 n) (behind p) xs both.1)

behind_grown : (p : CodestreamPart) (more : List ℕ) → behind (grown_by more p) ≡ behind p ++ more
behind_grown p more =
    let segs = flat_map segment_text p.segments in
    ap (λ (xs : List ℕ). big_bytes 1 p.number ++ (big_bytes 1 p.total ++ xs)) (sym (append_assoc segs (marker_text sod ++ p.content) more))

pub psot_grown : (p : CodestreamPart) (f : Front) (more : List ℕ) → IsAligned p f → length more ≡ f.size - length f.bytes → length f.bytes ≤ f.size → psot (grown_by more p) ≡ f.size
psot_grown p f more is long fits =
    let size : part_length (grown_by more p) ≡ f.size =
    let own = is.long in omega (arith, own, long, fits, length-append p.content more) in
    ap (λ (b : Bool). cond b 0 (part_length (grown_by more p))) is.closed ∙ size

-- It has the bytes of the codestream.
pub grown_text : (c : List ℕ) (at : ℕ) (p : CodestreamPart) (f : Front) → IsFront c at f → IsAligned p f → part_text (grown_by (slice_of c (at + length f.bytes, at + f.size)) p) ≡ slice_of c (at, at + f.size)
grown_text c at p f is al =
    let n = length f.bytes in
    let more = slice_of c (at + n, at + f.size) in
    let head = is.head in
    let fits = is.part in
    let within = is.within in
    let t = ten f.bytes (omega (arith, head)) in
    let xs = t.10 in
    let bytes = t.11 in
    let long : length more ≡ f.size - n = slice_length c (at + n) (at + f.size) (omega (arith, fits)) within ∙ omega (arith, fits) in
    let same : before p ++ (big_bytes 4 (psot p) ++ behind p) ≡ t.0 ∷ (t.1 ∷ (t.2 ∷ (t.3 ∷ (t.4 ∷ (t.5 ∷ (big_bytes 4 n ++ xs)))))) =
    sym (text_is p) ∙ al.text ∙ ap (λ (ys : List ℕ). take 6 ys ++ (big_bytes 4 n ++ drop 10 ys)) bytes in
    let own : psot p ≡ n = ap (λ (b : Bool). cond b 0 (part_length p)) al.closed ∙ al.long in
    let both = ends_same t.0 t.1 t.2 t.3 t.4 t.5 t.6 t.7 t.8 t.9 xs n p (ap (λ k. before p ++ (big_bytes 4 k ++ behind p)) (sym own) ∙ same) in
    let told : t.6 ∷ (t.7 ∷ (t.8 ∷ (t.9 ∷ []))) ≡ big_bytes 4 f.size = ap (λ (ys : List ℕ). take 4 (drop 6 ys)) (sym bytes) ∙ is.told in
    text_is (grown_by more p)
    ∙ ap (λ k. before p ++ (big_bytes 4 k ++ behind (grown_by more p))) (psot_grown p f more al long fits)
    ∙ ap (λ (ys : List ℕ). before p ++ (big_bytes 4 f.size ++ ys)) (behind_grown p more ∙ ap (λ (ys : List ℕ). ys ++ more) both.1)
    ∙ ap (λ (ys : List ℕ). ys ++ (big_bytes 4 f.size ++ (xs ++ more))) both.0
    ∙ ap (λ (ys : List ℕ). (t.0 ∷ (t.1 ∷ (t.2 ∷ (t.3 ∷ (t.4 ∷ (t.5 ∷ [])))))) ++ (ys ++ (xs ++ more))) (sym told)
    ∙ ap (λ (ys : List ℕ). ys ++ more) (sym bytes ∙ is.stands ∙ ap (λ k. take k (drop at c)) (let e : n ≡ at + n - at = omega arith in e))
    ∙ sym (slice_join c at (at + n) (at + f.size) (omega arith) (omega (arith, fits)))

-- ---- all tile-parts

-- the tile-parts of the codestream, of which these are the fronts
abbrev pub grown : List ℕ → (at : ℕ) → List Front → List CodestreamPart → List CodestreamPart
grown c at [] parts = []
grown c at (f ∷ fronts) [] = []
grown c at (f ∷ fronts) (p ∷ parts) = grown_by (slice_of c (at + length f.bytes, at + f.size)) p ∷ grown c (at + f.size) fronts parts

pub fronts_order : (c : List ℕ) (at stop : ℕ) (fronts : List Front) → AreFronts c at fronts stop → at ≤ stop
fronts_order c at stop [] are = omega (arith, are)
fronts_order c at stop (f ∷ fronts) are = let more = fronts_order c (at + f.size) stop fronts are.1 in omega (arith, more)

pub grown_texts : (c : List ℕ) (at stop : ℕ) (fronts : List Front) (parts : List CodestreamPart) → at ≤ stop → stop ≤ length c → AreFronts c at fronts stop → AreAligned parts fronts → flat_map part_text (grown c at fronts parts) ≡ slice_of c (at, stop)
grown_texts c at stop [] [] le within fronts al = sym (slice_none c at stop (omega (arith, fronts)))
grown_texts c at stop [] (p ∷ parts) le within fronts al = absurd al
grown_texts c at stop (f ∷ fronts) [] le within are al = absurd al
grown_texts c at stop (f ∷ fronts) (p ∷ parts) le within are al =
    let first = are.0.within in
    let less = fronts_order c (at + f.size) stop fronts are.1 in
    (λ i. grown_text c at p f are.0 al.0 i ++ grown_texts c (at + f.size) stop fronts parts less within are.1 al.1 i)
    ∙ sym (slice_join c at (at + f.size) stop (omega arith) less)
