-- The text of a header: an SOP marker segment, the stuffed bits, and an EPH marker.
use Rattle.std.proofs.Common.{◌≡◌, ℕ, zero, suc, ◌+◌, ◌-◌, ◌<◌, ◌≤◌, Bool, true, false, cond, List, [], ◌∷◌, ◌++◌, length, get_or, take, drop, Ok, refl, sym, ap, ◌∙◌, subst, inl, inr, arith, append_assoc, length-append}
use Rattle.std.specs.Prelude.{◌&&◌, ◌==◌, not, nat_lt}
use Rattle.std.proofs.lemmas.Bool.{and_parts}
use Rattle.std.proofs.lemmas.Bool.Decides.{nat_tests}
use Rattle.std.proofs.lemmas.List.{take_at, drop_at, take-append-drop, length-drop, drop-drop}
use Rattle.jk_math.specs.Answer.{◌>>=◌, refuse}
use Rattle.jk_math.specs.Steps.{bind_then, refuse_then}
use Rattle.jk_math.specs.declared.fault.Fault.TheVariants.{Truncated, BadLength, PacketHeader}
use Rattle.jk_bits.specs.Stuffing.{room, stuffed_one, spread, size, Packs}
use Rattle.jk_bits.specs.Reading.{Bits, ahead, finish_at}
use Rattle.jk_bits.proofs.Laws.{ReadsBack, reads_back, found_at, finish_within}
use Rattle.jk_bits.specs.Giving.{GivesBits, advance, same_bytes}
use Rattle.jk_packet.specs.Reading.{BandState, Walk, HeaderText, bits_of, bits_at, sop_at, eph_at, text_end, text_rest, text_at}
use Rattle.jk_packet.specs.PacketText.{IsSop, eph_text, IsHeaderText}
use Rattle.jk_packet.proofs.TextLaws.{bind_ok, text_from, text_sop}
use Rattle.jk_packet.proofs.Moves.{bits_move}

-- the first byte of a text after FF is below 128
low_byte : (bits : List Bool) (c : ℕ) (rest : List ℕ) → Packs true bits (c ∷ rest) → c < 128
unfolding Packs
low_byte [] c rest p = p.1
low_byte (bit ∷ bits) c rest p = low_one c p.0
  where
    low_one : (c : ℕ) → stuffed_one true c ≡ false → c < 128
    low_one c h = grind (arith, nat_tests)

-- A header doesn't begin with the marker SOP.
no_sop : (bits : List Bool) (header more : List ℕ) → 0 < length bits → Packs false bits header → ((get_or (header ++ more) 0 0 == 0xFF) && (get_or (header ++ more) 1 0 == 0x91)) ≡ false
unfolding Packs
no_sop [] header more some p = absurd (omega (arith, some))
no_sop (bit ∷ bits) [] more some p = absurd (let e = p.0 in cc)
no_sop (bit ∷ bits) (b ∷ []) more some p = ap (λ (t : Bool). t && (get_or more 0 0 == 0x91)) p.2.1
no_sop (bit ∷ bits) (b ∷ (c ∷ rest)) more some p = by_first (b == 255) p.2
  where
    second : (c : ℕ) → c < 128 → (c == 0x91) ≡ false
    second c low = grind (arith, nat_tests)

    by_first : (t : Bool) → Packs t (drop (room false) (bit ∷ bits)) (c ∷ rest) → (t && (c == 0x91)) ≡ false
    by_first false q = refl
    by_first true q = second c (low_byte (drop (room false) (bit ∷ bits)) c rest q)

sop_none : (allowed : Bool) (bytes : List ℕ) → ((get_or bytes 0 0 == 0xFF) && (get_or bytes 1 0 == 0x91)) ≡ false → sop_at allowed bytes ≡ Ok 0
unfolding sop_at
sop_none false bytes h = refl
sop_none true bytes h =
    ap (λ (t : Bool). cond t (refuse (nat_lt (length bytes) 4) Truncated
    >>= λ _. refuse (not ((get_or bytes 2 0 == 0x00) && (get_or bytes 3 0 == 0x04))) BadLength
    >>= λ _. refuse (nat_lt (length bytes) 6) Truncated
    >>= λ _. Ok 6) (Ok 0)) h

sop_some : (high low : ℕ) (more : List ℕ) → sop_at true (0xFF ∷ 0x91 ∷ 0x00 ∷ 0x04 ∷ high ∷ low ∷ more) ≡ Ok 6
unfolding sop_at
sop_some high low more =
    let n = length (0xFF ∷ 0x91 ∷ 0x00 ∷ 0x04 ∷ high ∷ low ∷ more) in
    let long : n ≡ length more + 6 = omega arith in
    let four : nat_lt n 4 ≡ false = grind (arith, nat_tests) in
    let six : nat_lt n 6 ≡ false = grind (arith, nat_tests) in
    ap (λ (t : Bool). refuse t Truncated >>= λ _. refuse (nat_lt n 6) Truncated >>= λ _. Ok 6) four
    ∙ ap (λ (t : Bool). refuse t Truncated >>= λ _. Ok 6) six

pub sop_only : (allowed : Bool) (sop : List ℕ) (bits : List Bool) (header more : List ℕ) → IsSop allowed sop → 0 < length bits → Packs false bits header → sop_at allowed (sop ++ (header ++ more)) ≡ Ok (length sop)
sop_only allowed sop bits header more (inl none) some p =
    ap (λ (s : List ℕ). sop_at allowed (s ++ (header ++ more))) none ∙ sop_none allowed (header ++ more) (no_sop bits header more some p) ∙ ap (λ (s : List ℕ). Ok (length s)) (sym none)
sop_only allowed sop bits header more (inr s) some p =
    ap (λ (a : Bool). sop_at a (sop ++ (header ++ more))) s.0
    ∙ ap (λ (t : List ℕ). sop_at true (t ++ (header ++ more))) s.3
    ∙ sop_some s.1 s.2 (header ++ more)
    ∙ ap (λ (t : List ℕ). Ok (length t)) (sym s.3)

-- what stands at the front of enough bytes
abbrev Front : List ℕ → Type 0
Front bytes = (high : ℕ) × (low : ℕ) × (take 6 bytes ≡ 0xFF ∷ 0x91 ∷ 0x00 ∷ 0x04 ∷ high ∷ low ∷ [])

sop_front : (bytes : List ℕ) → 6 ≤ length bytes → get_or bytes 0 0 ≡ 0xFF → get_or bytes 1 0 ≡ 0x91 → get_or bytes 2 0 ≡ 0x00 → get_or bytes 3 0 ≡ 0x04 → Front bytes
sop_front (a ∷ (b ∷ (c ∷ (d ∷ (high ∷ (low ∷ rest)))))) long e f g h = (
  high,
  low,
  ap (λ x. x ∷ b ∷ c ∷ d ∷ high ∷ low ∷ []) e ∙ ap (λ x. 0xFF ∷ x ∷ c ∷ d ∷ high ∷ low ∷ []) f ∙ ap (λ x. 0xFF ∷ 0x91 ∷ x ∷ d ∷ high ∷ low ∷ []) g ∙ ap (λ x. 0xFF ∷ 0x91 ∷ 0x00 ∷ x ∷ high ∷ low ∷ []) h,
)
sop_front bytes long e f g h = absurd (omega (arith, long))

same_byte : (a b : ℕ) → (a == b) ≡ true → a ≡ b
same_byte a b h = grind (arith, nat_tests)

not_not : (b : Bool) → not b ≡ false → b ≡ true
not_not true e = refl
not_not false e = absurd (cc)

six_long : (n : ℕ) → nat_lt n 6 ≡ false → 6 ≤ n
six_long n h = grind (arith, nat_tests)

two_long : (n : ℕ) → nat_lt n 2 ≡ false → 2 ≤ n
two_long n h = grind (arith, nat_tests)

sop_found_by : (bytes : List ℕ) (n : ℕ) (allowed first second : Bool) → (first ≡ true → get_or bytes 0 0 ≡ 0xFF) → (second ≡ true → get_or bytes 1 0 ≡ 0x91)
    → cond (allowed && first && second) (refuse (nat_lt (length bytes) 4) Truncated
    >>= λ _. refuse (not ((get_or bytes 2 0 == 0x00) && (get_or bytes 3 0 == 0x04))) BadLength
    >>= λ _. refuse (nat_lt (length bytes) 6) Truncated
    >>= λ _. Ok 6) (Ok 0) ≡ Ok n → IsSop allowed (take n bytes) × (n ≤ length bytes)
sop_found_by bytes n false first second e f h = none_taken first second h
  where
    none_taken : (first second : Bool) → cond (false && first && second) (refuse (nat_lt (length bytes) 4) Truncated
        >>= λ _. refuse (not ((get_or bytes 2 0 == 0x00) && (get_or bytes 3 0 == 0x04))) BadLength
        >>= λ _. refuse (nat_lt (length bytes) 6) Truncated
        >>= λ _. Ok 6) (Ok 0) ≡ Ok n → IsSop false (take n bytes) × (n ≤ length bytes)
    none_taken first second h = let z : n ≡ 0 = cc in (inl (ap (λ k. take k bytes) z), omega (arith, z))
sop_found_by bytes n true false second e f h = let z : n ≡ 0 = cc in (inl (ap (λ k. take k bytes) z), omega (arith, z))
sop_found_by bytes n true true false e f h = let z : n ≡ 0 = cc in (inl (ap (λ k. take k bytes) z), omega (arith, z))
sop_found_by bytes n true true true e f h =
    refuse_then (nat_lt (length bytes) 4) Truncated (λ _. refuse (not ((get_or bytes 2 0 == 0x00) && (get_or bytes 3 0 == 0x04))) BadLength >>= λ _. refuse (nat_lt (length bytes) 6) Truncated >>= λ _. Ok 6) n h (λ four k.
    refuse_then (not ((get_or bytes 2 0 == 0x00) && (get_or bytes 3 0 == 0x04))) BadLength (λ _. refuse (nat_lt (length bytes) 6) Truncated >>= λ _. Ok 6) n k (λ lengths l.
    refuse_then (nat_lt (length bytes) 6) Truncated (λ _. Ok 6) n l (λ six m.
    let is : n ≡ 6 = cc in
    let long = six_long (length bytes) six in
    let both = and_parts (get_or bytes 2 0 == 0x00) (get_or bytes 3 0 == 0x04) (not_not ((get_or bytes 2 0 == 0x00) && (get_or bytes 3 0 == 0x04)) lengths) in
    let x = sop_front bytes long (e refl) (f refl) (same_byte (get_or bytes 2 0) 0x00 both.0) (same_byte (get_or bytes 3 0) 0x04 both.1) in
    (inr (refl, x.0, x.1, ap (λ k. take k bytes) is ∙ x.2), omega (arith, is, long)))))

pub sop_found : (allowed : Bool) (bytes : List ℕ) (n : ℕ) → sop_at allowed bytes ≡ Ok n → IsSop allowed (take n bytes) × (n ≤ length bytes)
unfolding sop_at
sop_found allowed bytes n h = sop_found_by bytes n allowed (get_or bytes 0 0 == 0xFF) (get_or bytes 1 0 == 0x91) (same_byte (get_or bytes 0 0) 0xFF) (same_byte (get_or bytes 1 0) 0x91) h

pub eph_only : (due : Bool) (rest : List ℕ) → eph_at due (eph_text due ++ rest) ≡ Ok (length (eph_text due))
unfolding eph_at
eph_only false rest = refl
eph_only true rest =
    let n = length (0xFF ∷ 0x92 ∷ rest) in
    let long : n ≡ length rest + 2 = omega arith in
    let two : nat_lt n 2 ≡ false = grind (arith, nat_tests) in
    ap (λ (t : Bool). refuse t Truncated >>= λ _. Ok 2) two

eph_front : (bytes : List ℕ) → 2 ≤ length bytes → get_or bytes 0 0 ≡ 0xFF → get_or bytes 1 0 ≡ 0x92 → take 2 bytes ≡ 0xFF ∷ 0x92 ∷ []
eph_front (a ∷ (b ∷ rest)) long e f = ap (λ x. x ∷ b ∷ []) e ∙ ap (λ x. 0xFF ∷ x ∷ []) f
eph_front bytes long e f = absurd (omega (arith, long))

pub eph_found : (due : Bool) (bytes : List ℕ) (k : ℕ) → eph_at due bytes ≡ Ok k → (take k bytes ≡ eph_text due) × (k ≤ length bytes)
unfolding eph_at
eph_found false bytes k h = let z : k ≡ 0 = cc in (ap (λ j. take j bytes) z, omega (arith, z))
eph_found true bytes k h =
    refuse_then (nat_lt (length bytes) 2) Truncated (λ _. refuse (not ((get_or bytes 0 0 == 0xFF) && (get_or bytes 1 0 == 0x92))) PacketHeader >>= λ _. Ok 2) k h (λ two l.
    refuse_then (not ((get_or bytes 0 0 == 0xFF) && (get_or bytes 1 0 == 0x92))) PacketHeader (λ _. Ok 2) k l (λ marker m.
    let is : k ≡ 2 = cc in
    let long = two_long (length bytes) two in
    let both = and_parts (get_or bytes 0 0 == 0xFF) (get_or bytes 1 0 == 0x92) (not_not ((get_or bytes 0 0 == 0xFF) && (get_or bytes 1 0 == 0x92)) marker) in
    (ap (λ j. take j bytes) is ∙ eph_front bytes long (same_byte (get_or bytes 0 0) 0xFF both.0) (same_byte (get_or bytes 1 0) 0x92 both.1), omega (arith, is, long))))

-- a front of two parts
take_plus : (a c : ℕ) (xs : List ℕ) → take (a + c) xs ≡ take a xs ++ take c (drop a xs)
take_plus zero c xs = ap (λ k. take k xs) (let e : 0 + c ≡ c = omega arith in e)
take_plus (suc a) zero [] = ap (λ k. take k []) (let e : suc a + 0 ≡ suc a = omega arith in e)
take_plus (suc a) (suc c) [] = ap (λ k. take k []) (let e : suc a + suc c ≡ suc (a + suc c) = omega arith in e)
take_plus (suc a) c (x ∷ xs) = ap (λ k. take k (x ∷ xs)) (let e : suc a + c ≡ suc (a + c) = omega arith in e) ∙ ap (λ (ys : List ℕ). x ∷ ys) (take_plus a c xs)

finish_size : (bytes : List ℕ) (n m : ℕ) → size false n bytes ≡ Ok m → finish_at (advance (bits_of bytes) n) ≡ Ok m
unfolding finish_at
finish_size bytes n m h = ap (λ k. size false k bytes) (let e : 0 + n ≡ n = omega arith in e) ∙ h

-- A header is read from its text.
pub header_only : (sop eph : Bool) (layer : ℕ) (bits : List Bool) (text rest bytes : List ℕ) (bands : List BandState) (t : IsHeaderText sop eph bits text) → 0 < length bits → bytes ≡ text ++ rest
    → (read : (r : Bits) (more : List Bool) → ahead r ≡ bits ++ more → (w : Walk) × (bits_at layer bands r ≡ Ok w) × (w.bits ≡ advance r (length bits)))
    → (r : Bits) × (more : List Bool) × (h : ahead r ≡ bits ++ more) × (text_at sop eph layer bytes bands ≡ Ok (record { length = length text; parts = (read r more h).0.parts }, (read r more h).0.bands))
header_only sop eph layer bits text rest bytes bands t some e read =
    let s = t.sop_text in
    let header = t.header in
    let tail = eph_text eph ++ rest in
    let n = length s in
    let m = length header in
    let k = length (eph_text eph) in
    let split : bytes ≡ s ++ (header ++ tail) =
    e ∙ ap (λ (xs : List ℕ). xs ++ rest) t.joins ∙ append_assoc s (header ++ eph_text eph) rest ∙ ap (λ (xs : List ℕ). s ++ xs) (append_assoc header (eph_text eph) rest) in
    let from : drop n bytes ≡ header ++ tail = ap (drop n) split ∙ drop_at s (header ++ tail) n refl in
    let behind : drop (n + m) bytes ≡ tail = sym (drop-drop m n bytes) ∙ ap (drop m) from ∙ drop_at header tail m refl in
    let r = bits_of (header ++ tail) in
    let back : ReadsBack false bits header tail = reads_back false bits header tail t.packs in
    let more = drop (length bits) (spread false (header ++ tail)) in
    let first : ahead r ≡ bits ++ more = sym (take-append-drop (length bits) (spread false (header ++ tail))) ∙ ap (λ (xs : List Bool). xs ++ more) back.bits_back in
    let x = read r more first in
    let w = x.0 in
    let ends : finish_at w.bits ≡ Ok m = ap finish_at x.2 ∙ finish_size (header ++ tail) (length bits) m back.size_back in
    let long : n + m + k ≡ length text = (let a = ap length t.joins in let b = length-append s (header ++ eph_text eph) in let c = length-append header (eph_text eph) in omega (arith, a, b, c)) in (
      r,
      more,
      first,
      text_sop sop eph layer bytes bands n (ap (sop_at sop) split ∙ sop_only sop s bits header tail t.is_sop some t.packs)
          ∙ ap (λ (xs : List ℕ). bits_at layer bands (bits_of xs) >>= λ w. text_rest eph bytes n w) from
          ∙ bind_ok (bits_at layer bands r) (λ w. text_rest eph bytes n w) w x.1
          ∙ bind_ok (finish_at w.bits) (λ m. text_end eph bytes n w m) m ends
          ∙ bind_ok (eph_at eph (drop (n + m) bytes)) (λ k. Ok (record { length = n + m + k; parts = w.parts }, w.bands)) k (ap (eph_at eph) behind ∙ eph_only eph rest)
          ∙ ap (λ l. Ok (record { length = l; parts = w.parts }, w.bands)) long,
    )

-- the bits that were read pack the bytes that hold them
bits_packed : (bytes : List ℕ) (bits : List Bool) (s : Bits) (m : ℕ) → GivesBits (bits_of bytes) bits s → finish_at s ≡ Ok m → Packs false bits (take m bytes)
bits_packed bytes bits s m g h =
    let n = length bits in
    let moved : s ≡ record { bytes = bytes; read = n; failed = false } = g.moved ∙ ap (λ k. record { bytes = bytes; read = k; failed = false }) (let e : 0 + n ≡ n = omega arith in e) in
    let all : spread false bytes ≡ bits ++ ahead s = g.first in
    let fits : n ≤ length (spread false bytes) = (let e = ap length all in let l = length-append bits (ahead s) in omega (arith, e, l)) in
    let packs : Packs false (take n (spread false bytes)) (take m bytes) = found_at record { bytes = bytes; read = n; failed = false } (Ok m) refl fits (sym (ap finish_at (sym moved) ∙ h)) in
    subst (λ (xs : List Bool). Packs false xs (take m bytes)) (ap (take n) all ∙ take_at bits (ahead s) n refl) packs

-- A header that was read is a text of its bits.
pub record HeaderFound (sop eph : Bool) (layer : ℕ) (bytes : List ℕ) (bands : List BandState) (o : HeaderText × List BandState) : Type 0 where
  pub place : ℕ
  pub walk : Walk
  pub read : bits_at layer bands (bits_of (drop place bytes)) ≡ Ok walk
  pub bands_are : o.1 ≡ walk.bands
  pub parts_are : o.0.parts ≡ walk.parts
  pub within : o.0.length ≤ length bytes
  pub text : (bits : List Bool) → GivesBits (bits_of (drop place bytes)) bits walk.bits → IsHeaderText sop eph bits (take o.0.length bytes)

header_parts : (sop eph : Bool) (layer : ℕ) (bytes : List ℕ) (bands : List BandState) (n : ℕ) (w : Walk) (m k : ℕ) → (w.bits.bytes ≡ drop n bytes) → sop_at sop bytes ≡ Ok n → bits_at layer bands (bits_of (drop n bytes)) ≡ Ok w
    → finish_at w.bits ≡ Ok m → eph_at eph (drop (n + m) bytes) ≡ Ok k → HeaderFound sop eph layer bytes bands (record { length = n + m + k; parts = w.parts }, w.bands)
header_parts sop eph layer bytes bands n w m k same a b c d =
    let s = sop_found sop bytes n a in
    let p = eph_found eph (drop (n + m) bytes) k d in
    let low : n ≤ length bytes = s.1 in
    let size_fits = finish_within w.bits m c in
    let long : length w.bits.bytes ≡ length bytes - n = ap length same ∙ length-drop n bytes in
    let fits : n + m ≤ length bytes = omega (arith, size_fits, long, low) in
    let tail = p.1 in
    let tail_long = length-drop (n + m) bytes in
    record {
      place = n;
      walk = w;
      read = b;
      bands_are = refl;
      parts_are = refl;
      within = omega (arith, fits, tail, tail_long);
      text = λ bits g. record {
        sop_text = take n bytes;
        header = take m (drop n bytes);
        is_sop = s.0;
        packs = bits_packed (drop n bytes) bits w.bits m g c;
        joins =
            take_plus (n + m) k bytes
            ∙ ap (λ (xs : List ℕ). xs ++ take k (drop (n + m) bytes)) (take_plus n m bytes)
            ∙ append_assoc (take n bytes) (take m (drop n bytes)) (take k (drop (n + m) bytes))
            ∙ ap (λ (xs : List ℕ). take n bytes ++ (take m (drop n bytes) ++ xs)) p.0;
      };
    }

pub header_found : (sop eph : Bool) (layer : ℕ) (bytes : List ℕ) (bands : List BandState) (o : HeaderText × List BandState) → text_at sop eph layer bytes bands ≡ Ok o → HeaderFound sop eph layer bytes bands o
unfolding text_at
header_found sop eph layer bytes bands o h =
    bind_then (sop_at sop bytes) (text_from eph layer bytes bands) o h (λ n a h1.
    bind_then (bits_at layer bands (bits_of (drop n bytes))) (λ w. text_rest eph bytes n w) o h1 (λ w b h2.
    bind_then (finish_at w.bits) (λ m. text_end eph bytes n w m) o h2 (λ m c h3.
    bind_then (eph_at eph (drop (n + m) bytes)) (λ k. Ok (record { length = n + m + k; parts = w.parts }, w.bands)) o h3 (λ k d h4.
    let x : HeaderText × List BandState = (record { length = n + m + k; parts = w.parts }, w.bands) in
    let is : x ≡ o = cc in
    subst (λ (y : HeaderText × List BandState). HeaderFound sop eph layer bytes bands y) is
    (header_parts sop eph layer bytes bands n w m k (same_bytes (bits_of (drop n bytes)) w.bits (bits_move layer bands (bits_of (drop n bytes)) w b)) a b c d)))))
