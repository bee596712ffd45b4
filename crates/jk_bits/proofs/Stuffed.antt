-- The text whose padding is 0: there is one, it is a text, and a writer makes it.
use Rattle.std.proofs.Common.{◌≡◌, ℕ, zero, suc, ◌+◌, ◌-◌, ◌*◌, ◌%◌, ◌^◌, ◌<◌, ◌≤◌, Bool, true, false, List, [], ◌∷◌, ◌++◌, length, take, drop, Ok, refl, sym, ap, ◌∙◌, subst, arith, append_assoc}
use Rattle.std.specs.Prelude.{◌==◌}
use Rattle.std.proofs.lemmas.Bool.Decides.{nat_tests}
use Rattle.std.proofs.lemmas.List.{length-drop, drop_at, append-nil, drop_all}
use Rattle.std.proofs.lemmas.Nat.{mod_low, shl_whole}
use Rattle.std.proofs.lemmas.Grind.{pow_more}
use Rattle.std.proofs.Math.Nat.{pow-suc}
use Rattle.jk_bits.specs.Stuffing.{room, stuffed_one, binary, number, spread, size, Packs, stuffing, stuffed}
use Rattle.jk_bits.specs.Writing.{Stuffs, IsWriting}
use Rattle.jk_bits.proofs.Spreading.{length-binary}
use Rattle.jk_bits.proofs.Numbers.{digit, number_less, number-binary, binary-number, binary_push, number_all}
use Rattle.jk_bits.proofs.Texts.{spread_free, ReadsBack, reads_back}

-- a byte of no more bits than there is room for has its stuffed bit 0
pub free_number : (after : Bool) (b : ℕ) → b < 2 ^ room after → stuffed_one after b ≡ false
free_number true b h = let low : b < 128 = h in grind (arith, nat_tests)
free_number false b h = refl

pub stuffs_packs : (after : Bool) (bits : List Bool) (bytes : List ℕ) → Stuffs after bits bytes → Packs after bits bytes
unfolding Stuffs Packs
stuffs_packs after bits [] s = s
stuffs_packs after [] (b ∷ bytes) s = (s.0, omega (arith, s.1), s.2)
stuffs_packs after (bit ∷ bits) (b ∷ bytes) s =
    let n = room after in
    let all : List Bool = bit ∷ bits in (
      free_number after b (subst (λ x. x < 2 ^ n) (sym s.0) (number_less n all)),
      ap (λ x. take (length all) (binary n x)) s.0 ∙ binary-number n all,
      stuffs_packs (b == 255) (drop n all) bytes s.1,
    )

pub stuffs_once : (after : Bool) (bits : List Bool) (xs ys : List ℕ) → Stuffs after bits xs → Stuffs after bits ys → xs ≡ ys
unfolding Stuffs
stuffs_once after bits [] [] s t = refl
stuffs_once after [] [] (y ∷ ys) s t = absurd (let e : false ≡ true = sym s.1 ∙ t.0 in cc)
stuffs_once after (bit ∷ bits) [] (y ∷ ys) s t = absurd (let e = s.0 in cc)
stuffs_once after [] (x ∷ xs) [] s t = absurd (let e : false ≡ true = sym t.1 ∙ s.0 in cc)
stuffs_once after (bit ∷ bits) (x ∷ xs) [] s t = absurd (let e = t.0 in cc)
stuffs_once after [] (x ∷ xs) (y ∷ ys) s t = let e = s.1 in let f = t.1 in let g = s.2 in let h = t.2 in cc
stuffs_once after (bit ∷ bits) (x ∷ xs) (y ∷ ys) s t =
    let same : y ≡ x = t.0 ∙ sym s.0 in
    let rest = stuffs_once (x == 255) (drop (room after) (bit ∷ bits)) xs ys s.1 (subst (λ z. Stuffs (z == 255) (drop (room after) (bit ∷ bits)) ys) same t.1) in
    ap (λ z. z ∷ xs) (sym same) ∙ ap (λ zs. y ∷ zs) rest

dropped_less : (after : Bool) (bit : Bool) (bits : List Bool) → length (drop (room after) (bit ∷ bits)) ≤ length bits
dropped_less true bit bits = omega (arith, length-drop 7 (bit ∷ bits))
dropped_less false bit bits = omega (arith, length-drop 8 (bit ∷ bits))

pub stuffing_stuffs : (most : ℕ) (after : Bool) (bits : List Bool) → length bits < most → Stuffs after bits (stuffing most after bits)
unfolding Stuffs stuffing
stuffing_stuffs zero after bits h = absurd (omega (arith, h))
stuffing_stuffs (suc most) true [] h = (refl, refl, refl)
stuffing_stuffs (suc most) false [] h = (refl, refl)
stuffing_stuffs (suc most) after (bit ∷ bits) h =
    let b = number (room after) (bit ∷ bits) in
    (refl, stuffing_stuffs most (b == 255) (drop (room after) (bit ∷ bits)) (omega (arith, h, dropped_less after bit bits)))

pub stuffed_stuffs : (bits : List Bool) → Stuffs false bits (stuffed bits)
unfolding stuffed
stuffed_stuffs bits = stuffing_stuffs (length bits + 1) false bits (omega arith)

-- one byte before a text
some_bits : (after : Bool) (n x b : ℕ) (bits : List Bool) (more : List ℕ) → 0 < n → b ≡ number (room after) (binary n x ++ bits) → Stuffs (b == 255) (drop (room after) (binary n x ++ bits)) more → Stuffs after (binary n x ++ bits) (b ∷ more)
unfolding Stuffs binary
some_bits after zero x b bits more some e s = absurd (omega (arith, some))
some_bits after (suc n) x b bits more some e s = (e, s)

room_some : (after : Bool) → 0 < room after
room_some true = omega arith
room_some false = omega arith

pub room_most : (after : Bool) → room after ≤ 8
room_most true = omega arith
room_most false = omega arith

-- A writer of no bits.
pub begin : IsWriting [] 0 0 8
unfolding spread
begin = record { after = false; many_is = refl; less = omega arith; fits = omega arith; bits_go_on = λ more. refl; text_goes_on = λ bits more s. s }

-- the bits of bytes and one full byte more
pub full_bits : (bytes : List ℕ) (after : Bool) (x : ℕ) → ((more : List ℕ) → spread false (bytes ++ more) ≡ spread false bytes ++ spread after more) → x < 2 ^ room after → spread false (bytes ++ x ∷ []) ≡ spread false bytes ++ binary (room after) x
unfolding spread
full_bits bytes after x go_on low =
    go_on (x ∷ [])
    ∙ ap (λ (bs : List Bool). spread false bytes ++ bs) (spread_free after x [] (free_number after x low) ∙ append-nil (binary (room after) x))

-- A byte is full.
pub fill : (bytes : List ℕ) (byte begun many x : ℕ) → IsWriting bytes byte begun many → x < 2 ^ many → IsWriting (bytes ++ x ∷ []) 0 0 (room (x == 255))
fill bytes byte begun many x w h =
    let n = room w.after in
    let low : x < 2 ^ n = subst (λ k. x < 2 ^ k) w.many_is h in
    let whole : spread false (bytes ++ x ∷ []) ≡ spread false bytes ++ binary n x = full_bits bytes w.after x w.bits_go_on low in
    record {
      after = x == 255;
      many_is = refl;
      less = room_some (x == 255);
      fits = omega arith;
      bits_go_on = λ more.
          ap (spread false) (append_assoc bytes (x ∷ []) more)
          ∙ w.bits_go_on (x ∷ more)
          ∙ ap (λ (bs : List Bool). spread false bytes ++ bs) (spread_free w.after x more (free_number w.after x low))
          ∙ sym (append_assoc (spread false bytes) (binary n x) (spread (x == 255) more))
          ∙ ap (λ (bs : List Bool). bs ++ spread (x == 255) more) (sym whole);
      text_goes_on = λ bits more s.
          let t : Stuffs w.after (binary n x ++ bits) (x ∷ more) =
          some_bits w.after n x x bits more (room_some w.after) (sym (number_all n x bits low))
          (subst (λ (bs : List Bool). Stuffs (x == 255) bs more) (sym (drop_at (binary n x) bits n (length-binary n x))) s) in
          subst (λ (zs : List ℕ). Stuffs false (spread false (bytes ++ x ∷ []) ++ bits) zs) (sym (append_assoc bytes (x ∷ []) more))
          (subst (λ (bs : List Bool). Stuffs false bs (bytes ++ x ∷ more)) (sym (append_assoc (spread false bytes) (binary n x) bits) ∙ ap (λ (bs : List Bool). bs ++ bits) (sym whole))
          (w.text_goes_on (binary n x ++ bits) (x ∷ more) t));
    }

grown : (byte begun : ℕ) (bit : Bool) → byte < 2 ^ begun → byte * 2 + digit bit < 2 ^ (begun + 1)
grown byte begun true h = omega (arith, h, pow_more 2 begun)
grown byte begun false h = omega (arith, h, pow_more 2 begun)

-- A bit more of a byte that has room.
pub grow : (bytes : List ℕ) (byte begun many : ℕ) (bit : Bool) → IsWriting bytes byte begun many → begun + 1 < many → IsWriting bytes (byte * 2 + digit bit) (begun + 1) many
grow bytes byte begun many bit w h = record {
  after = w.after;
  many_is = w.many_is;
  less = h;
  fits = grown byte begun bit w.fits;
  bits_go_on = w.bits_go_on;
  text_goes_on = w.text_goes_on;
}

pub grow_bits : (front : List Bool) (byte begun : ℕ) (bit : Bool) → front ++ binary (begun + 1) (byte * 2 + digit bit) ≡ (front ++ binary begun byte) ++ bit ∷ []
grow_bits front byte begun bit = ap (λ (bs : List Bool). front ++ bs) (binary_push begun byte bit) ∙ sym (append_assoc front (binary begun byte) (bit ∷ []))

pub filled : (bytes : List ℕ) (byte begun many : ℕ) (bit : Bool) → IsWriting bytes byte begun many → many ≤ begun + 1 → byte * 2 + digit bit < 2 ^ many
filled bytes byte begun many bit w h = subst (λ k. byte * 2 + digit bit < 2 ^ k) (let e : begun + 1 ≡ many = omega (arith, h, w.less) in e) (grown byte begun bit w.fits)

pub fill_bits : (bytes : List ℕ) (byte begun many : ℕ) (bit : Bool) → IsWriting bytes byte begun many → many ≤ begun + 1
    → spread false (bytes ++ (byte * 2 + digit bit) ∷ []) ++ binary 0 0 ≡ (spread false bytes ++ binary begun byte) ++ bit ∷ []
unfolding binary
fill_bits bytes byte begun many bit w h =
    let x = byte * 2 + digit bit in
    let n = room w.after in
    let low : x < 2 ^ n = subst (λ k. x < 2 ^ k) w.many_is (filled bytes byte begun many bit w h) in
    append-nil (spread false (bytes ++ x ∷ []))
    ∙ full_bits bytes w.after x w.bits_go_on low
    ∙ ap (λ k. spread false bytes ++ binary k x) (let e : n ≡ begun + 1 = omega (arith, h, w.less, w.many_is) in e)
    ∙ grow_bits (spread false bytes) byte begun bit

-- what a text with zero padding is
pub record IsText (bits : List Bool) (text : List ℕ) : Type 0 where
  pub exact : text ≡ stuffed bits
  pub packs : Packs false bits text
  pub back : (rest : List ℕ) → (take (length bits) (spread false (text ++ rest)) ≡ bits) × (size false (length bits) (text ++ rest) ≡ Ok (length text))

pub is_text : (bits : List Bool) (text : List ℕ) → Stuffs false bits text → IsText bits text
is_text bits text s =
    let p = stuffs_packs false bits text s in
    record {
      exact = stuffs_once false bits text (stuffed bits) s (stuffed_stuffs bits);
      packs = p;
      back = λ rest. let r : ReadsBack false bits text rest = reads_back false bits text rest p in (r.bits_back, r.size_back);
    }

low_all : (n x : ℕ) → x < 2 ^ n → x % 2 ^ n ≡ x
low_all n x h = ap (λ y. y % 2 ^ n) (let e : x ≡ 0 * 2 ^ n + x = omega arith in e) ∙ mod_low 0 n x h

number-nil : (n : ℕ) → number n [] ≡ 0
unfolding number
number-nil zero = refl
number-nil (suc n) = refl

even : (x k : ℕ) → x ≡ k * 2 → (x == 255) ≡ false
even x k h = grind (arith, nat_tests)

-- a byte with padding isn't FF
not_full : (byte pad : ℕ) → 0 < pad → (byte * 2 ^ pad == 255) ≡ false
not_full byte zero some = absurd (omega (arith, some))
not_full byte (suc pad) some = even (byte * 2 ^ suc pad) (byte * 2 ^ pad) (ap (λ p. byte * p) (pow-suc 2 pad) ∙ (let e : byte * (2 ^ pad * 2) ≡ byte * 2 ^ pad * 2 = grind arith in e))

closing_room : (after : Bool) → room after < 8 → after ≡ true
closing_room true h = refl
closing_room false h = absurd (omega (arith, h))

open_after : (after : Bool) → 8 ≤ room after → after ≡ false
open_after true h = absurd (omega (arith, h))
open_after false h = refl

-- The last byte, which isn't full.
last_stuffs : (after : Bool) (begun byte many : ℕ) → many ≡ room after → begun < many → byte < 2 ^ begun → (begun ≡ 0 → after ≡ true) → Stuffs after (binary begun byte) (byte * 2 ^ (many - begun) ∷ [])
unfolding Stuffs binary
last_stuffs after zero byte many e less fits closes =
    let none : byte ≡ 0 = let h : byte < 1 = fits in omega (arith, h) in
    (closes refl, ap (λ b. b * 2 ^ (many - 0)) none ∙ omega arith, refl)
last_stuffs after (suc n) byte many e less fits closes =
    let all = binary (suc n) byte in
    let pad = many - suc n in
    let x = byte * 2 ^ pad in
    let whole : suc n + pad ≡ room after = omega (arith, e, less) in
    let kept : byte % 2 ^ suc n ≡ byte = low_all (suc n) byte fits in
    let is : x ≡ number (room after) all =
    sym (ap (λ k. number k all) (sym whole)
    ∙ ap (number (suc n + pad)) (sym (append-nil all))
    ∙ number-binary (suc n) pad byte []
    ∙ ap (λ r. r * 2 ^ pad + number pad []) kept
    ∙ ap (λ k. x + k) (number-nil pad)
    ∙ omega arith) in
    let gone : drop (room after) all ≡ [] = drop_all (room after) all (omega (arith, length-binary (suc n) byte, whole)) in
    (is, subst (λ (bs : List Bool). Stuffs (x == 255) bs []) (sym gone) (refl, not_full byte pad (omega (arith, less))))

pub finish_part : (bytes : List ℕ) (byte begun many : ℕ) → IsWriting bytes byte begun many → (begun ≡ 0 → many < 8) → Stuffs false (spread false bytes ++ binary begun byte) (bytes ++ byte * 2 ^ (many - begun) ∷ [])
finish_part bytes byte begun many w some =
    w.text_goes_on (binary begun byte) (byte * 2 ^ (many - begun) ∷ [])
    (last_stuffs w.after begun byte many w.many_is w.less w.fits (λ none. closing_room w.after (subst (λ k. k < 8) w.many_is (some none))))

pub finish_none : (bytes : List ℕ) (byte begun many : ℕ) → IsWriting bytes byte begun many → begun ≡ 0 → 8 ≤ many → Stuffs false (spread false bytes ++ binary begun byte) bytes
unfolding Stuffs binary
finish_none bytes byte begun many w none whole =
    let open_room : w.after ≡ false = open_after w.after (subst (λ k. 8 ≤ k) w.many_is whole) in
    subst (λ (zs : List ℕ). Stuffs false (spread false bytes ++ binary begun byte) zs) (append-nil bytes)
    (subst (λ k. Stuffs false (spread false bytes ++ binary k byte) (bytes ++ [])) (sym none) (w.text_goes_on [] [] (refl, open_room)))

-- what << leaves of the byte in hand
pub shifted : (bytes : List ℕ) (byte begun many : ℕ) → IsWriting bytes byte begun many → byte * 2 ^ (many - begun) % 2 ^ 8 ≡ byte * 2 ^ (many - begun)
shifted bytes byte begun many w =
    shl_whole byte begun (many - begun) 8 w.fits (omega (arith, w.less, subst (λ k. k ≤ 8) (sym w.many_is) (room_most w.after)))
