-- A text of bits holds them, and its size is its length, whatever stands behind it; and the other way round.
use Rattle.std.proofs.Common.{◌≡◌, ℕ, zero, suc, ◌+◌, ◌-◌, ◌<◌, ◌≤◌, Bool, true, false, cond, List, [], ◌∷◌, ◌++◌, length, take, drop, Result, Ok, Err, refl, sym, ap, ◌∙◌, subst, inl, inr, arith, length-append}
use Rattle.std.specs.Prelude.{◌==◌}
use Rattle.std.proofs.lemmas.Bool.{cases_Bool}
use Rattle.std.proofs.lemmas.List.{length-take, length-drop, take_all, take-append-drop, take_at, drop_at}
use Rattle.std.proofs.lemmas.Bool.Decides.{nat_tests}
use Rattle.jk_math.specs.Answer.{◌>>=◌}
use Rattle.jk_math.specs.declared.fault.Fault.{Fault}
use Rattle.jk_math.specs.declared.fault.Fault.TheVariants.{PacketHeader}
use Rattle.jk_bits.specs.Stuffing.{room, stuffed_one, binary, first_byte, spread, size, Packs}
use Rattle.jk_bits.proofs.Spreading.{length-binary}

-- a byte that isn't stuffed with a 1, before other bytes
pub spread_free : (after : Bool) (b : ℕ) (bytes : List ℕ) → stuffed_one after b ≡ false → spread after (b ∷ bytes) ≡ binary (room after) b ++ spread (b == 255) bytes
unfolding spread
spread_free after b bytes free = ap (λ (t : Bool). cond t [] (binary (room after) b ++ spread (b == 255) bytes)) free

pub size_free : (after : Bool) (b n : ℕ) (bytes : List ℕ) → stuffed_one after b ≡ false → size after (suc n) (b ∷ bytes) ≡ (size (b == 255) (suc n - room after) bytes >>= (λ m. Ok (suc m)))
unfolding size first_byte
size_free after b n bytes free = ap (λ (t : Bool). cond t (Err PacketHeader) (Ok b) >>= (λ _. size (b == 255) (suc n - room after) bytes >>= (λ m. Ok (suc m)))) free

-- two front parts of one list, cut in either order
pub take_both : {A : Type 0} (m n : ℕ) (xs : List A) → take m (take n xs) ≡ take n (take m xs)
take_both zero zero xs = refl
take_both zero (suc n) xs = refl
take_both (suc m) zero xs = refl
take_both (suc m) (suc n) [] = refl
take_both (suc m) (suc n) (x ∷ xs) = ap (λ ys. x ∷ ys) (take_both m n xs)

pub drop_take : {A : Type 0} (m n : ℕ) (xs : List A) → drop m (take n xs) ≡ take (n - m) (drop m xs)
drop_take zero n xs = ap (λ k. take k xs) (omega arith)
drop_take (suc m) zero xs = ap (λ k. take k (drop (suc m) xs)) (let e : 0 ≡ 0 - suc m = omega arith in e)
drop_take {A} (suc m) (suc n) [] = let none : List A = [] in sym (take_all (suc n - suc m) none (omega arith))
drop_take (suc m) (suc n) (x ∷ xs) = drop_take m n xs ∙ ap (λ k. take k (drop m xs)) (let e : n - m ≡ suc n - suc m = omega arith in e)

pub take_append : {A : Type 0} (n : ℕ) (xs ys : List A) → take n (xs ++ ys) ≡ take n xs ++ take (n - length xs) ys
take_append zero [] ys = ap (λ k. take k ys) (let e : 0 ≡ 0 - 0 = refl in e)
take_append (suc n) [] ys = ap (λ k. take k ys) (let e : suc n ≡ suc n - 0 = omega arith in e)
take_append zero (x ∷ xs) ys = ap (λ k. take k ys) (let e : 0 ≡ 0 - suc (length xs) = omega arith in e)
take_append (suc n) (x ∷ xs) ys = ap (λ zs. x ∷ zs) (take_append n xs ys) ∙ ap (λ k. x ∷ (take n xs ++ take k ys)) (let e : n - length xs ≡ suc n - suc (length xs) = omega arith in e)

-- A list is the front of one that begins with first, if it agrees with first as far as both go, and the rest with what is behind.
front : (bits first behind : List Bool) (n : ℕ) → length first ≡ n → take (length bits) first ≡ take n bits → take (length bits - n) behind ≡ drop n bits
    → take (length bits) (first ++ behind) ≡ bits
front bits first behind n long same rest =
    take_append (length bits) first behind
    ∙ ap (λ (xs : List Bool). xs ++ take (length bits - length first) behind) same
    ∙ ap (λ k. take n bits ++ take (length bits - k) behind) long
    ∙ ap (λ (xs : List Bool). take n bits ++ xs) rest
    ∙ take-append-drop n bits

-- one byte of a text of bits, of which there are some
pub record PacksByte (after : Bool) (bits : List Bool) (b : ℕ) (bytes : List ℕ) : Type 0 where
  pub free : stuffed_one after b ≡ false
  pub same : take (length bits) (binary (room after) b) ≡ take (room after) bits
  pub more : Packs (b == 255) (drop (room after) bits) bytes

pub packs_byte : (after : Bool) (bits : List Bool) (b : ℕ) (bytes : List ℕ) → 0 < length bits → PacksByte after bits b bytes → Packs after bits (b ∷ bytes)
unfolding Packs
packs_byte after [] b bytes some p = absurd (omega (arith, some))
packs_byte after (bit ∷ bits) b bytes some p = (p.free, p.same, p.more)

pub of_packs : (after : Bool) (bits : List Bool) (b : ℕ) (bytes : List ℕ) → 0 < length bits → Packs after bits (b ∷ bytes) → PacksByte after bits b bytes
unfolding Packs
of_packs after [] b bytes some p = absurd (omega (arith, some))
of_packs after (bit ∷ bits) b bytes some p = record { free = p.0; same = p.1; more = p.2 }

-- what a text of no bits is
pub closed : (after : Bool) (bytes : List ℕ) → Packs after [] bytes → (m : ℕ) → m ≡ length bytes → (rest : List ℕ) → size after 0 (bytes ++ rest) ≡ Ok m
unfolding Packs size first_byte
closed after [] p m e rest = ap (λ (t : Bool). cond t (first_byte true rest >>= (λ _. Ok 1)) (Ok 0)) p.1 ∙ ap Ok (sym e)
closed true (b ∷ bytes) p m e rest =
    let low : b < 128 = p.1 in
    let test : stuffed_one true b ≡ false = grind (arith, nat_tests) in
    ap (λ (t : Bool). cond t (Err PacketHeader) (Ok b) >>= (λ _. Ok 1)) test ∙ ap Ok (sym (e ∙ ap (λ (bs : List ℕ). suc (length bs)) p.2))
closed false (b ∷ bytes) p m e rest = absurd (let h : false ≡ true = p.0 in cc)

-- The law of a text: its bits are read, and its size is its length, whatever stands behind.
pub record ReadsBack (after : Bool) (bits : List Bool) (text rest : List ℕ) : Type 0 where
  pub fits : length bits ≤ length (spread after (text ++ rest))
  pub bits_back : take (length bits) (spread after (text ++ rest)) ≡ bits
  pub size_back : size after (length bits) (text ++ rest) ≡ Ok (length text)

pub reads_back : (after : Bool) (bits : List Bool) (text rest : List ℕ) → Packs after bits text → ReadsBack after bits text rest
unfolding Packs
reads_back after [] text rest p = record {
  fits = omega arith;
  bits_back = refl;
  size_back = closed after text p (length text) refl rest;
}
reads_back after (bit ∷ bits) [] rest p = absurd (cc)
reads_back after (bit ∷ bits) (b ∷ text) rest p =
    let all : List Bool = bit ∷ bits in
    let of_byte : PacksByte after all b text = record { free = p.0; same = p.1; more = p.2 } in
    let r : ReadsBack (b == 255) (drop (room after) all) text rest = reads_back (b == 255) (drop (room after) all) text rest p.2 in
    let first = binary (room after) b in
    let behind = spread (b == 255) (text ++ rest) in
    let is : spread after (b ∷ (text ++ rest)) ≡ first ++ behind = spread_free after b (text ++ rest) p.0 in
    let long : length (spread after (b ∷ (text ++ rest))) ≡ room after + length behind = ap length is ∙ length-append first behind ∙ ap (λ n. n + length behind) (length-binary (room after) b) in
    let left : length (drop (room after) all) ≡ length all - room after = length-drop (room after) all in
    record {
      fits = omega (arith, long, r.fits, left);
      bits_back =
          ap (take (length all)) is ∙ front all first behind (room after) (length-binary (room after) b) p.1 (ap (λ n. take n behind) (sym left) ∙ r.bits_back);
      size_back =
          size_free after b (length bits) (text ++ rest) p.0
          ∙ ap (λ n. size (b == 255) n (text ++ rest) >>= (λ m. Ok (suc m))) (sym left)
          ∙ ap (λ (s : Result ℕ Fault). s >>= (λ m. Ok (suc m))) r.size_back;
    }

-- the size of a text whose first byte is b
pub record SizeOf (after : Bool) (b n : ℕ) (bytes : List ℕ) (m : ℕ) : Type 0 where
  pub free : stuffed_one after b ≡ false
  pub less : ℕ
  pub more : m ≡ suc less
  pub rest : size (b == 255) (n - room after) bytes ≡ Ok less

size_less : (r : Result ℕ Fault) (m : ℕ) → (r >>= (λ k. Ok (suc k))) ≡ Ok m → (k : ℕ) × (m ≡ suc k) × (r ≡ Ok k)
size_less (Ok k) m h = (k, (cc), refl)
size_less (Err e) m h = absurd (cc)

size_of : (after : Bool) (b n : ℕ) (bytes : List ℕ) (m : ℕ) → size after (suc n) (b ∷ bytes) ≡ Ok m → SizeOf after b (suc n) bytes m
unfolding size first_byte
size_of after b n bytes m h =
    elim (cases_Bool (stuffed_one after b)) [
      | inl one ↦ absurd (let g : Err PacketHeader ≡ Ok m = subst (λ (t : Bool). (cond t (Err PacketHeader) (Ok b) >>= (λ _. size (b == 255) (suc n - room after) bytes >>= (λ m. Ok (suc m)))) ≡ Ok m) one h in cc)
      | inr free ↦
          let g = size_less (size (b == 255) (suc n - room after) bytes) m (sym (size_free after b n bytes free) ∙ h) in
          record { free = free; less = g.0; more = g.1; rest = g.2 }
    ]

-- no bits: the closing byte of an FF is there
closing : (after : Bool) (bytes : List ℕ) (m : ℕ) → size after 0 bytes ≡ Ok m → Packs after [] (take m bytes)
unfolding Packs size first_byte
closing false bytes m h = let e : m ≡ 0 = cc in subst (λ k. Packs false [] (take k bytes)) (sym e) (refl, refl)
closing true [] m h = absurd (cc)
closing true (b ∷ bytes) m h =
    elim (cases_Bool (stuffed_one true b)) [
      | inl one ↦ absurd (let g : Err PacketHeader ≡ Ok m = subst (λ (t : Bool). (cond t (Err PacketHeader) (Ok b) >>= (λ _. Ok 1)) ≡ Ok m) one h in cc)
      | inr free ↦
          let g : Ok 1 ≡ Ok m = subst (λ (t : Bool). (cond t (Err PacketHeader) (Ok b) >>= (λ _. Ok 1)) ≡ Ok m) free h in
          let e : m ≡ 1 = cc in
          subst (λ k. Packs true [] (take k (b ∷ bytes))) (sym e) (refl, grind (arith, nat_tests), refl)
    ]

no_bits : (after : Bool) (n m : ℕ) → size after (suc n) [] ≡ Ok m → ⊥
unfolding size
no_bits after n m h = cc

-- Where the first n bits have a size, so many bytes are a text of them.
pub packs_sized : (after : Bool) (n : ℕ) (bytes : List ℕ) (m : ℕ) → n ≤ length (spread after bytes) → size after n bytes ≡ Ok m → Packs after (take n (spread after bytes)) (take m bytes)
packs_sized after zero bytes m fits h = closing after bytes m h
packs_sized after (suc n) [] m fits h = absurd (let g : size after (suc n) [] ≡ Ok m = h in no_bits after n m g)
packs_sized after (suc n) (b ∷ bytes) m fits h =
    let s : SizeOf after b (suc n) bytes m = size_of after b n bytes m h in
    let first = binary (room after) b in
    let behind = spread (b == 255) bytes in
    let is : spread after (b ∷ bytes) ≡ first ++ behind = spread_free after b bytes s.free in
    let long : length (spread after (b ∷ bytes)) ≡ room after + length behind = ap length is ∙ length-append first behind ∙ ap (λ k. k + length behind) (length-binary (room after) b) in
    let bits = take (suc n) (first ++ behind) in
    let count : length bits ≡ suc n = length-take (suc n) (first ++ behind) ∙ omega (arith, fits, ap length is) in
    let rest_is : drop (room after) bits ≡ take (suc n - room after) behind = drop_take (room after) (suc n) (first ++ behind) ∙ ap (take (suc n - room after)) (drop_at first behind (room after) (length-binary (room after) b)) in
    let rest_fits : suc n - room after ≤ length behind = omega (arith, fits, long) in
    let r = packs_sized (b == 255) (suc n - room after) bytes s.less rest_fits s.rest in
    let p : PacksByte after bits b (take s.less bytes) = record {
      free = s.free;
      same = ap (λ k. take k first) count ∙ ap (take (suc n)) (sym (take_at first behind (room after) (length-binary (room after) b))) ∙ take_both (suc n) (room after) (first ++ behind);
      more = subst (λ (xs : List Bool). Packs (b == 255) xs (take s.less bytes)) (sym rest_is) r;
    } in
    let done = packs_byte after bits b (take s.less bytes) (omega (arith, count)) p in
    subst (λ (xs : List Bool). Packs after (take (suc n) xs) (take m (b ∷ bytes))) (sym is)
    (subst (λ k. Packs after bits (take k (b ∷ bytes))) (sym s.more) done)
