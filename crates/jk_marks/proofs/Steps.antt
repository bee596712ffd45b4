-- What each step of reading takes, and that it takes again what was written.
use Rattle.std.proofs.Common.{◌≡◌, ℕ, ◌+◌, ◌-◌, ◌^◌, ◌<◌, ◌≤◌, false, cond, ltb, List, [], ◌∷◌, ◌++◌, length, take, drop, Ok, Err, refl, sym, ap, subst, ◌∙◌, append_assoc, arith}
use Rattle.std.proofs.lemmas.Bool.{ltb-false, le-ltb}
use Rattle.std.proofs.lemmas.List.{drop_at, take_at, take-append-drop, length-append, length-take-le}
use Rattle.std.proofs.Math.Nat.{mod-eq_of_lt}
use Rattle.byteorder.specs.Endian.{big_number, big_bytes}
use Rattle.byteorder.specs.Numbers.{length-bytes_high_first, big_number-reads_back, big_from-lt}
use Rattle.jk_math.specs.Steps.{bind_then, guarded, ok_is}
use Rattle.jk_math.specs.declared.fault.Fault.TheVariants.{Truncated, BadLength}
use Rattle.jk_marks.specs.Place.{ReadingPlace, past}
use Rattle.jk_marks.specs.Reading.{number, segment_length, passing}
use Rattle.jk_math.proofs.Laws.{AreBytes, are_bytes_after, number_back}

-- what a step took from the front
pub record Goes (p : ReadingPlace) (text : List ℕ) (q : ReadingPlace) : Type 0 where
  pub parts : p.rest ≡ text ++ q.rest
  pub at : q.at ≡ p.at + length text
  pub bytes : AreBytes q.rest

-- the place n bytes on, with that rest
abbrev pub ahead : ℕ → List ℕ → ReadingPlace → ReadingPlace
ahead n rest p = record { rest = rest; at = p.at + n; room = p.room - n }

pub ahead_twice : (m n k : ℕ) (rest middle : List ℕ) (p : ReadingPlace) → m + n ≡ k → ahead n rest (ahead m middle p) ≡ ahead k rest p
ahead_twice m n k rest middle p e =
    let at : p.at + m + n ≡ p.at + k = omega (arith, e) in
    let room : p.room - m - n ≡ p.room - k = omega (arith, e) in
    rw (at, room) refl

pub goes_none : (p : ReadingPlace) → AreBytes p.rest → Goes p [] p
goes_none p fits = record { parts = refl; at = omega arith; bytes = fits }

pub goes_then : (p : ReadingPlace) (t : List ℕ) (q : ReadingPlace) (u : List ℕ) (r : ReadingPlace) → Goes p t q → Goes q u r → Goes p (t ++ u) r
goes_then p t q u r g h = record {
  parts = g.parts ∙ ap (λ (x : List ℕ). t ++ x) h.parts ∙ sym (append_assoc t u r.rest);
  at = omega (arith, g.at, h.at, length-append t u);
  bytes = h.bytes;
}

pub goes_as : (p : ReadingPlace) (t u : List ℕ) (q : ReadingPlace) → Goes p t q → t ≡ u → Goes p u q
goes_as p t u q g e = subst (λ (x : List ℕ). Goes p x q) e g

pub number_moves : (n x : ℕ) (p q : ReadingPlace) → number n p ≡ Ok (x, q) → q.at ≡ p.at + n
unfolding number
number_moves n x p q e =
    let g = guarded (ltb (length p.rest) n) Truncated (cond (ltb p.room n) (Err BadLength) (Ok (big_number n p.rest, past n p))) (x, q) e in
    let h = guarded (ltb p.room n) BadLength (Ok (big_number n p.rest, past n p)) (x, q) g.1 in
    sym (ap (λ (r : ℕ × ReadingPlace). r.1.at) (ok_is (big_number n p.rest, past n p) (x, q) h.1))

pub number_goes : (n x : ℕ) (p q : ReadingPlace) → AreBytes p.rest → number n p ≡ Ok (x, q) → Goes p (big_bytes n x) q × (x < 256 ^ n)
unfolding number
number_goes n x p q fits e =
    let g = guarded (ltb (length p.rest) n) Truncated (cond (ltb p.room n) (Err BadLength) (Ok (big_number n p.rest, past n p))) (x, q) e in
    let h = guarded (ltb p.room n) BadLength (Ok (big_number n p.rest, past n p)) (x, q) g.1 in
    let long : n ≤ length p.rest = ltb-false _ _ g.0 in
    let pair = ok_is (big_number n p.rest, past n p) (x, q) h.1 in
    let x-is : big_number n p.rest ≡ x = ap (λ (r : ℕ × ReadingPlace). r.0) pair in
    let q-is : past n p ≡ q = ap (λ (r : ℕ × ReadingPlace). r.1) pair in
    let text : big_bytes n x ≡ take n p.rest = ap (big_bytes n) (sym x-is) ∙ number_back n p.rest fits long in
    let len : length (big_bytes n x) ≡ n = length-bytes_high_first n x in
    let low : big_number n p.rest < 256 ^ n = big_from-lt 0 n p.rest fits in
    let gone : Goes p (big_bytes n x) (past n p) = record {
      parts = sym (take-append-drop n p.rest) ∙ ap (λ (t : List ℕ). t ++ drop n p.rest) (sym text);
      at = ap (λ k. p.at + k) (sym len);
      bytes = are_bytes_after n p.rest fits;
    } in
    (subst (λ (r : ReadingPlace). Goes p (big_bytes n x) r) q-is gone, omega (arith, low, x-is))

-- a number that was written is read again, whatever follows
pub number_again : (n x : ℕ) (p : ReadingPlace) (rest : List ℕ) → p.rest ≡ big_bytes n x ++ rest → x < 256 ^ n → n ≤ p.room → number n p ≡ Ok (x, ahead n rest p)
unfolding number
number_again n x p rest e lt room =
    let len : length (big_bytes n x) ≡ n = length-bytes_high_first n x in
    let long : ltb (length p.rest) n ≡ false = rw e (le-ltb _ _ (omega (arith, len, length-append (big_bytes n x) rest))) in
    let roomy : ltb p.room n ≡ false = le-ltb _ _ room in
    let value : big_number n p.rest ≡ x = ap (big_number n) e ∙ big_number-reads_back n x rest lt in
    let after : drop n p.rest ≡ rest = ap (drop n) e ∙ drop_at (big_bytes n x) rest n len in
    rw (long, roomy, value, after) refl

pub one_byte : (x : ℕ) → x < 256 → big_bytes 1 x ≡ x ∷ []
one_byte x lt = ap (λ k. k ∷ []) (mod-eq_of_lt lt)

pub byte_goes : (x : ℕ) (p q : ReadingPlace) → AreBytes p.rest → number 1 p ≡ Ok (x, q) → Goes p (x ∷ []) q × (x < 256)
byte_goes x p q fits e =
    let g = number_goes 1 x p q fits e in
    let lt : x < 256 = omega (arith, g.1) in
    (goes_as p (big_bytes 1 x) (x ∷ []) q g.0 (one_byte x lt), lt)

pub byte_again : (x : ℕ) (p : ReadingPlace) (rest : List ℕ) → p.rest ≡ x ∷ rest → x < 256 → 1 ≤ p.room → number 1 p ≡ Ok (x, ahead 1 rest p)
byte_again x p rest e lt room = number_again 1 x p rest (e ∙ ap (λ (t : List ℕ). t ++ rest) (sym (one_byte x lt))) (omega arith) room

pub length_goes : (x : ℕ) (p q : ReadingPlace) → AreBytes p.rest → segment_length p ≡ Ok (x, q) → Goes p (big_bytes 2 x) q × (x < 2 ^ 16)
unfolding segment_length
length_goes x p q fits e =
    bind_then (number 2 p) _ (x, q) e (λ n read e.
    let g = number_goes 2 n.0 p n.1 fits read in
    let lt : n.0 < 2 ^ 16 = omega (arith, g.1) in
    let here : Goes p (big_bytes 2 n.0) (record n.1 { room = n.0 - 2 }) = record { parts = g.0.parts; at = g.0.at; bytes = g.0.bytes } in
    subst (λ (r : ℕ × ReadingPlace). Goes p (big_bytes 2 r.0) r.1 × (r.0 < 2 ^ 16)) (ok_is (n.0, record n.1 { room = n.0 - 2 }) (x, q) e) (here, lt))

-- the place in a segment of that length
abbrev pub entered : ℕ → List ℕ → ReadingPlace → ReadingPlace
entered size rest p = record { rest = rest; at = p.at + 2; room = size - 2 }

pub length_again : (x : ℕ) (p : ReadingPlace) (rest : List ℕ) → p.rest ≡ big_bytes 2 x ++ rest → x < 2 ^ 16 → 2 ≤ p.room → segment_length p ≡ Ok (x, entered x rest p)
unfolding segment_length
length_again x p rest e lt room = rw (number_again 2 x p rest e (omega (arith, lt)) room) refl

pub passing_goes : (n : ℕ) (bytes : List ℕ) (p q : ReadingPlace) → AreBytes p.rest → passing n p ≡ Ok (bytes, q) → Goes p bytes q × (length bytes ≡ n)
unfolding passing
passing_goes n bytes p q fits e =
    let g = guarded (ltb (length p.rest) n) Truncated (Ok (take n p.rest, past n p)) (bytes, q) e in
    let long : n ≤ length p.rest = ltb-false _ _ g.0 in
    let pair = ok_is (take n p.rest, past n p) (bytes, q) g.1 in
    let len : length (take n p.rest) ≡ n = length-take-le n p.rest long in
    let gone : Goes p (take n p.rest) (past n p) = record { parts = sym (take-append-drop n p.rest); at = ap (λ k. p.at + k) (sym len); bytes = are_bytes_after n p.rest fits } in
    subst (λ (r : List ℕ × ReadingPlace). Goes p r.0 r.1 × (length r.0 ≡ n)) pair (gone, len)

pub passing_again : (bytes : List ℕ) (n : ℕ) (p : ReadingPlace) (rest : List ℕ) → p.rest ≡ bytes ++ rest → length bytes ≡ n → passing n p ≡ Ok (bytes, ahead n rest p)
unfolding passing
passing_again bytes n p rest e len =
    let long : ltb (length p.rest) n ≡ false = rw e (le-ltb _ _ (omega (arith, len, length-append bytes rest))) in
    let front : take n p.rest ≡ bytes = ap (take n) e ∙ take_at bytes rest n len in
    let after : drop n p.rest ≡ rest = ap (drop n) e ∙ drop_at bytes rest n len in
    rw (long, front, after) refl
