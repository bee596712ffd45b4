-- Marker segments: what is read is spelled so, and what is spelled so is read.
use Rattle.std.proofs.Common.{◌≡◌, ℕ, zero, suc, ◌+◌, ◌*◌, ◌/◌, ◌%◌, ◌<◌, ◌≤◌, Bool, true, false, ◌&&◌, ◌||◌, eqb, ltb, List, [], ◌∷◌, ◌++◌, length, map, Ok, refl, sym, ap, subst, ◌∙◌, ◌⊎◌, inl, inr, lit≤, arith}
use Rattle.std.proofs.lemmas.Bool.{true≢false, ltb-false, le-ltb, ne_eqb, or_parts}
use Rattle.std.proofs.lemmas.List.{length-map}
use Rattle.byteorder.specs.Endian.{big_bytes}
use Rattle.jk_math.specs.Steps.{bind_then, refuse_then, ok_is}
use Rattle.jk_math.specs.declared.fault.Fault.TheVariants.{BadValue}
use Rattle.jk_marks.specs.declared.segments.CodingStyle.{CodingStyle}
use Rattle.jk_marks.specs.declared.segments.Cod.{Cod}
use Rattle.jk_marks.specs.declared.segments.Order.{Order}
use Rattle.jk_marks.specs.declared.segments.Order.TheVariants.{Lrcp, Rlcp, Rpcl, Pcrl, Cprl}
use Rattle.jk_marks.specs.Place.{ReadingPlace}
use Rattle.jk_marks.specs.Precincts.{precinct_byte}
use Rattle.jk_marks.specs.OrderCode.{order_code, order_with}
use Rattle.jk_marks.specs.BlockStyle.{bit_of}
use Rattle.jk_marks.specs.Segments.{CodSegment, CocSegment, IsCod, IsStyle, segment_body, contents, style_text, scod, given_bit}
use Rattle.jk_marks.specs.Reading.{number, segment_length, style_at, cod_at}
use Rattle.jk_math.proofs.Laws.{AreBytes}
use Rattle.jk_marks.proofs.Steps.{Goes, ahead, entered, goes_then, goes_as, number_goes, number_again, byte_goes, byte_again, length_goes, length_again}
use Rattle.jk_marks.proofs.StyleLaws.{style_goes, style_again}

-- the three bits of Scod
abbrev pub flags_of : (given sop eph : Bool) → ℕ
flags_of given sop eph = bit_of given + 2 * bit_of sop + 4 * bit_of eph

pub bit_is : (n : ℕ) → n < 2 → bit_of (eqb n 1) ≡ n
bit_is zero lt = refl
bit_is (suc zero) lt = refl
bit_is (suc (suc n)) lt = absurd (omega (arith, lt))

-- a number below 8 by its bits
bits_of : (n : ℕ) → n ≤ 7 → flags_of (eqb (n % 2) 1) (eqb (n / 2 % 2) 1) (eqb (n / 4) 1) ≡ n
bits_of n le =
    let a = bit_is (n % 2) (omega arith) in
    let b = bit_is (n / 2 % 2) (omega arith) in
    let c = bit_is (n / 4) (omega (arith, le)) in
    omega (arith, a, b, c)

pub order_back : (n : ℕ) → n ≤ 4 → order_code (order_with n) ≡ n
order_back zero le = refl
order_back (suc zero) le = refl
order_back (suc (suc zero)) le = refl
order_back (suc (suc (suc zero))) le = refl
order_back (suc (suc (suc (suc zero)))) le = refl
order_back (suc (suc (suc (suc (suc n))))) le = absurd (omega (arith, le))

order_again : (o : Order) → order_with (order_code o) ≡ o
order_again Lrcp = refl
order_again Rlcp = refl
order_again Rpcl = refl
order_again Pcrl = refl
order_again Cprl = refl

order_small : (o : Order) → order_code o ≤ 4
order_small Lrcp = omega arith
order_small Rlcp = omega arith
order_small Rpcl = omega arith
order_small Pcrl = omega arith
order_small Cprl = omega arith

colour_needs : (n colour : ℕ) → (ltb 1 colour || (eqb colour 1 && ltb n 3)) ≡ false → eqb colour 1 ≡ true → 3 ≤ n
colour_needs n colour e is =
    let parts = or_parts (ltb 1 colour) (eqb colour 1 && ltb n 3) e in
    ltb-false n 3 (sym (ap (λ b. b && ltb n 3) is) ∙ parts.1)

pub style_length : (k : CodingStyle) → length (style_text k) ≡ 5 + length k.precincts
unfolding style_text
style_length k =
    let len : length (map precinct_byte k.precincts) ≡ length k.precincts = simp length-map in
    omega (arith, len)

-- how long the contents are
cod_length : (c : Cod) → 2 + length (contents (CodSegment c)) ≡ 12 + length c.style.precincts
unfolding contents
cod_length c = omega (arith, style_length c.style)

pub coc_length : (i : ℕ) (k : CodingStyle) → 2 + length (contents (CocSegment i k)) ≡ 9 + length k.precincts
unfolding contents
coc_length i k = omega (arith, style_length k)

positive : (n : ℕ) → eqb n 0 ≡ false → 0 < n
positive zero e = absurd (true≢false e)
positive (suc n) e = omega arith

-- a COD that was read
pub cod_goes : (n : ℕ) (c : Cod) (p q : ReadingPlace) → AreBytes p.rest → cod_at n p ≡ Ok (c, q) → Goes p (segment_body (CodSegment c)) q × IsCod n c
unfolding cod_at segment_body contents
cod_goes n c p q fits e =
    let t : Cod × ReadingPlace = (c, q) in
    bind_then (segment_length p) _ t e (λ size s1 e.
    bind_then (number 1 size.1) _ t e (λ flags s2 e.
    refuse_then (ltb 7 flags.0) BadValue _ t e (λ few e.
    bind_then (number 1 flags.1) _ t e (λ order s3 e.
    refuse_then (ltb 4 order.0) BadValue _ t e (λ known e.
    bind_then (number 2 order.1) _ t e (λ layers s4 e.
    refuse_then (eqb layers.0 0) BadValue _ t e (λ some e.
    bind_then (number 1 layers.1) _ t e (λ colour s5 e.
    refuse_then (ltb 1 colour.0 || (eqb colour.0 1 && ltb n 3)) BadValue _ t e (λ coloured e.
    bind_then (style_at size.0 12 (eqb (flags.0 % 2) 1) colour.1) _ t e (λ style s6 e.
    let g1 = length_goes size.0 p size.1 fits s1 in
    let g2 = byte_goes flags.0 size.1 flags.1 g1.0.bytes s2 in
    let g3 = byte_goes order.0 flags.1 order.1 g2.0.bytes s3 in
    let g4 = number_goes 2 layers.0 order.1 layers.1 g3.0.bytes s4 in
    let g5 = byte_goes colour.0 layers.1 colour.1 g4.0.bytes s5 in
    let g6 = style_goes size.0 12 (eqb (flags.0 % 2) 1) style.0 colour.1 style.1 g5.0.bytes s6 in
    let cod : Cod = record {
      sop = eqb (flags.0 / 2 % 2) 1;
      eph = eqb (flags.0 / 4) 1;
      order = order_with order.0;
      layers = layers.0;
      colour = eqb colour.0 1;
      style = style.0;
    } in
    let few = ltb-false _ _ few in
    let low = ltb-false _ _ (or_parts (ltb 1 colour.0) (eqb colour.0 1 && ltb n 3) coloured).0 in
    let f : flags.0 ≡ scod cod = sym (ap (λ b. b + 2 * bit_of cod.sop + 4 * bit_of cod.eph) g6.given-is ∙ bits_of flags.0 few) in
    let o : order.0 ≡ order_code cod.order = sym (order_back order.0 (ltb-false _ _ known)) in
    let m : colour.0 ≡ bit_of cod.colour = sym (bit_is colour.0 (omega (arith, low))) in
    let k = style_text style.0 in
    let all = contents (CodSegment cod) in
    let gone : Goes p (big_bytes 2 size.0 ++ (flags.0 ∷ order.0 ∷ (big_bytes 2 layers.0 ++ (colour.0 ∷ k)))) style.1 =
    goes_then p (big_bytes 2 size.0) size.1 (flags.0 ∷ order.0 ∷ (big_bytes 2 layers.0 ++ (colour.0 ∷ k))) style.1 g1.0
    (goes_then size.1 (flags.0 ∷ []) flags.1 (order.0 ∷ (big_bytes 2 layers.0 ++ (colour.0 ∷ k))) style.1 g2.0
    (goes_then flags.1 (order.0 ∷ []) order.1 (big_bytes 2 layers.0 ++ (colour.0 ∷ k)) style.1 g3.0
    (goes_then order.1 (big_bytes 2 layers.0) layers.1 (colour.0 ∷ k) style.1 g4.0
    (goes_then layers.1 (colour.0 ∷ []) colour.1 k style.1 g5.0 g6.gone)))) in
    let text : flags.0 ∷ order.0 ∷ (big_bytes 2 layers.0 ++ (colour.0 ∷ k)) ≡ all =
    ap (λ x. x ∷ order.0 ∷ (big_bytes 2 layers.0 ++ (colour.0 ∷ k))) f ∙ ap (λ x. scod cod ∷ x ∷ (big_bytes 2 layers.0 ++ (colour.0 ∷ k))) o
    ∙ ap (λ x. scod cod ∷ order_code cod.order ∷ (big_bytes 2 layers.0 ++ (x ∷ k))) m in
    let size-is : size.0 ≡ 2 + length all = g6.size-is ∙ sym (cod_length cod) in
    let whole : big_bytes 2 size.0 ++ (flags.0 ∷ order.0 ∷ (big_bytes 2 layers.0 ++ (colour.0 ∷ k))) ≡ segment_body (CodSegment cod) =
    ap (λ (x : List ℕ). big_bytes 2 size.0 ++ x) text ∙ ap (λ n. big_bytes 2 n ++ all) size-is in
    let is : IsCod n cod = record {
      some_layers = positive layers.0 some;
      few_layers = omega (arith, g4.1);
      colour = λ e. colour_needs n colour.0 coloured e;
      style = g6.is;
    } in
    let here : Goes p (segment_body (CodSegment cod)) style.1 × IsCod n cod = (goes_as p _ _ style.1 gone whole, is) in
    subst (λ (r : Cod × ReadingPlace). Goes p (segment_body (CodSegment r.0)) r.1 × IsCod n r.0) (ok_is (cod, style.1) t e) here))))))))))

-- the bits of Scod, one by one
flags_back : (given sop eph : Bool) → let f = flags_of given sop eph in (f ≤ 7) × (eqb (f % 2) 1 ≡ given) × (eqb (f / 2 % 2) 1 ≡ sop) × (eqb (f / 4) 1 ≡ eph)
flags_back true true true = (lit≤ tt, refl, refl, refl)
flags_back true true false = (lit≤ tt, refl, refl, refl)
flags_back true false true = (lit≤ tt, refl, refl, refl)
flags_back true false false = (lit≤ tt, refl, refl, refl)
flags_back false true true = (lit≤ tt, refl, refl, refl)
flags_back false true false = (lit≤ tt, refl, refl, refl)
flags_back false false true = (lit≤ tt, refl, refl, refl)
flags_back false false false = (lit≤ tt, refl, refl, refl)

-- whether precinct sizes are given
abbrev pub is_given : List (ℕ × ℕ) → Bool
is_given [] = false
is_given (x ∷ xs) = true

pub given_is : (xs : List (ℕ × ℕ)) → given_bit xs ≡ bit_of (is_given xs)
given_is [] = refl
given_is (x ∷ xs) = refl

pub bit_small : (b : Bool) → bit_of b < 2
bit_small true = omega arith
bit_small false = omega arith

pub bit_again : (b : Bool) → eqb (bit_of b) 1 ≡ b
bit_again true = refl
bit_again false = refl

colour_kept : (n : ℕ) (b : Bool) → (b ≡ true → 3 ≤ n) → (ltb 1 (bit_of b) || (eqb (bit_of b) 1 && ltb n 3)) ≡ false
colour_kept n true h = le-ltb n 3 (h refl)
colour_kept n false h = refl

few : (xs : List (ℕ × ℕ)) (levels : ℕ) → (xs ≡ []) ⊎ (length xs ≡ levels + 1) → levels ≤ 10 → length xs ≤ 11
few xs levels (inl e) le = subst (λ (x : List (ℕ × ℕ)). length x ≤ 11) (sym e) (lit≤ tt)
few xs levels (inr e) le = omega (arith, e, le)

pub precincts_few : (k : CodingStyle) → IsStyle k → length k.precincts ≤ 11
precincts_few k is = few k.precincts k.levels is.precincts.count is.levels

-- a COD that is spelled is read
pub cod_again : (n : ℕ) (c : Cod) (p : ReadingPlace) (rest : List ℕ) → p.rest ≡ segment_body (CodSegment c) ++ rest → IsCod n c → 2 ≤ p.room
    → (q : ReadingPlace) × (cod_at n p ≡ Ok (c, q)) × (q.rest ≡ rest) × (q.at ≡ p.at + length (segment_body (CodSegment c)))
unfolding cod_at segment_body contents
cod_again n c p rest e is room =
    let m = length c.style.precincts in
    let k = style_text c.style in
    let given = is_given c.style.precincts in
    let f = flags_of given c.sop c.eph in
    let fb = flags_back given c.sop c.eph in
    let r5 = k ++ rest in
    let r4 = bit_of c.colour ∷ r5 in
    let r3 = big_bytes 2 c.layers ++ r4 in
    let r2 = order_code c.order ∷ r3 in
    let r1 = f ∷ r2 in
    let size = 12 + m in
    let few = precincts_few c.style is.style in
    let scod-is : scod c ≡ f = ap (λ b. b + 2 * bit_of c.sop + 4 * bit_of c.eph) (given_is c.style.precincts) in
    let e1 : p.rest ≡ big_bytes 2 size ++ r1 =
    e ∙ ap (λ z. big_bytes 2 z ++ (scod c ∷ r2)) (cod_length c) ∙ ap (λ z. big_bytes 2 size ++ (z ∷ r2)) scod-is in
    let p1 = entered size r1 p in
    let p2 = ahead 1 r2 p1 in
    let p3 = ahead 1 r3 p2 in
    let p4 = ahead 2 r4 p3 in
    let p5 = ahead 1 r5 p4 in
    let s1 = length_again size p r1 e1 (omega (arith, few)) room in
    let s2 = byte_again f p1 r2 refl (omega (arith, fb.0)) (omega arith) in
    let s3 = byte_again (order_code c.order) p2 r3 refl (omega (arith, order_small c.order)) (omega arith) in
    let s4 = number_again 2 c.layers p3 r4 refl (omega (arith, is.few_layers)) (omega arith) in
    let s5 = byte_again (bit_of c.colour) p4 r5 refl (omega (arith, bit_small c.colour)) (omega arith) in
    let s6 = style_again size 12 given c.style p5 rest refl is.style (given_is c.style.precincts) refl (omega arith) in
    let c1 : ltb 7 f ≡ false = le-ltb _ _ fb.0 in
    let c2 : ltb 4 (order_code c.order) ≡ false = le-ltb _ _ (order_small c.order) in
    let c3 : eqb c.layers 0 ≡ false = ne_eqb _ _ (omega (arith, is.some_layers)) in
    let c4 = colour_kept n c.colour is.colour in
    let q = ahead (5 + m) rest p5 in
    let read : cod_at n p ≡ Ok (c, q) = rw (s1, s2, c1, s3, c2, s4, c3, s5, c4, fb.1, s6, fb.2, fb.3, order_again c.order, bit_again c.colour) refl in
    (q, read, refl, omega (arith, cod_length c, style_length c.style))
