-- Numbers and their bytes, both ways.
use Rattle.std.proofs.Common.{◌≡◌, ℕ, zero, suc, ◌+◌, ◌*◌, ◌/◌, ◌^◌, ◌<◌, ◌≤◌, true, ltb, List, [], ◌∷◌, ◌++◌, length, get_or, take, drop, refl, sym, ap, ◌∙◌, arith}
use Rattle.std.specs.Int.{byte_at, bytes_high_first}
use Rattle.std.proofs.Math.Nat.{mod-eq_of_lt, mod-lt}
use Rattle.std.proofs.lemmas.Nat.{div-mul-add}
use Rattle.std.proofs.lemmas.Bool.{ltb-true, and_parts}
use Rattle.std.specs.List.{list_all}
use Rattle.std.proofs.lemmas.List.{take_at, get_or-drop, append-nil}
use Rattle.byteorder.specs.Endian.{big_from, big_number, big_bytes}
use Rattle.byteorder.specs.Numbers.{big_from-cons, big_from-bytes, big_from-lt, length-bytes_high_first}

-- the elements of a slice of bytes
abbrev pub AreBytes : List ℕ → Type 0
AreBytes bytes = (i : ℕ) → get_or bytes i 0 < 256

pub are_bytes_after : (n : ℕ) (bytes : List ℕ) → AreBytes bytes → AreBytes (drop n bytes)
are_bytes_after n bytes h i = rw get_or-drop (h (n + i))

are_bytes_rest : (b : ℕ) (bytes : List ℕ) → AreBytes (b ∷ bytes) → AreBytes bytes
are_bytes_rest b bytes h i = h (suc i)

byte_at_small : (k x : ℕ) → byte_at k x < 256
byte_at_small zero x = mod-lt x (omega arith)
byte_at_small (suc k) x = mod-lt (x / 256 ^ suc k) (omega arith)

pub are_bytes_high_first : (n x : ℕ) → AreBytes (bytes_high_first n x)
are_bytes_high_first zero x i = omega arith
are_bytes_high_first (suc n) x zero = byte_at_small n x
are_bytes_high_first (suc n) x (suc i) = are_bytes_high_first n x i

-- bytes of one number are the same bytes
same_digits : (n : ℕ) (xs ys : List ℕ) → AreBytes xs → AreBytes ys → n ≤ length xs → n ≤ length ys → big_from 0 n xs ≡ big_from 0 n ys → take n xs ≡ take n ys
same_digits zero xs ys p q h k e = refl
same_digits (suc n) [] ys p q h k e = absurd (omega arith)
same_digits (suc n) (x ∷ xs) [] p q h k e = absurd (omega arith)
same_digits (suc n) (x ∷ xs) (y ∷ ys) p q h k e =
    let w = 256 ^ n in
    let r = big_from 0 n xs in
    let s = big_from 0 n ys in
    let whole : x * w + r ≡ y * w + s = ap (λ z. x * w + z) (sym (big_from-cons 0 n x xs)) ∙ e ∙ ap (λ z. y * w + z) (big_from-cons 0 n y ys) in
    let low_r : r < w = big_from-lt 0 n xs (are_bytes_rest x xs p) in
    let low_s : s < w = big_from-lt 0 n ys (are_bytes_rest y ys q) in
    let first : x ≡ y = sym (div-mul-add x w r low_r) ∙ ap (λ z. z / w) whole ∙ div-mul-add y w s low_s in
    let again : x * w ≡ y * w = ap (λ z. z * w) first in
    let others = same_digits n xs ys (are_bytes_rest x xs p) (are_bytes_rest y ys q) (omega arith) (omega arith) (omega (arith, whole, again)) in
    rw (first, others) refl

-- the bytes of the number that stands in the first n bytes
pub number_back : (n : ℕ) (bytes : List ℕ) → AreBytes bytes → n ≤ length bytes → big_bytes n (big_number n bytes) ≡ take n bytes
number_back n bytes fits long =
    let x = big_number n bytes in
    let digits = bytes_high_first n x in
    let len = length-bytes_high_first n x in
    let low : x < 256 ^ n = big_from-lt 0 n bytes fits in
    let value : big_from 0 n digits ≡ big_from 0 n bytes = ap (big_from 0 n) (sym (append-nil digits)) ∙ big_from-bytes n x [] ∙ mod-eq_of_lt low in
    let same = same_digits n digits bytes (are_bytes_high_first n x) fits (omega (arith, len)) long value in
    sym (take_at digits [] n len) ∙ ap (take n) (append-nil digits) ∙ same

pub are_bytes_append : (xs ys : List ℕ) → AreBytes xs → AreBytes ys → AreBytes (xs ++ ys)
are_bytes_append [] ys p q i = q i
are_bytes_append (x ∷ xs) ys p q zero = p 0
are_bytes_append (x ∷ xs) ys p q (suc i) = are_bytes_append xs ys (are_bytes_rest x xs p) q i

-- a list of numerals
pub are_bytes_tested : (xs : List ℕ) → list_all (λ b. ltb b 256) xs ≡ true → AreBytes xs
are_bytes_tested [] e i = omega arith
are_bytes_tested (x ∷ xs) e zero = ltb-true x 256 (and_parts (ltb x 256) (list_all (λ b. ltb b 256) xs) e).0
are_bytes_tested (x ∷ xs) e (suc i) = are_bytes_tested xs (and_parts (ltb x 256) (list_all (λ b. ltb b 256) xs) e).1 i

pub are_bytes_taken : (n : ℕ) (xs : List ℕ) → AreBytes xs → AreBytes (take n xs)
are_bytes_taken zero xs h i = omega arith
are_bytes_taken (suc n) [] h i = omega arith
are_bytes_taken (suc n) (x ∷ xs) h zero = h 0
are_bytes_taken (suc n) (x ∷ xs) h (suc i) = are_bytes_taken n xs (are_bytes_rest x xs h) i
