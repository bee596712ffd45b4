-- Readings of code-words: what is read is a word, and each word is read.
use Rattle.std.proofs.Common.{◌≡◌, ℕ, zero, suc, ◌+◌, ◌*◌, ◌/◌, ◌%◌, ◌^◌, ◌<◌, Bool, true, false, cond, List, [], ◌∷◌, ◌++◌, length, replicate, Result, Ok, refl, sym, ap, ◌∙◌, subst, arith, append_assoc, length-append, add-zero}
use Rattle.std.specs.Prelude.{◌==◌}
use Rattle.std.proofs.lemmas.Nat.{shr-shr, div-mul-add, div-add-mod', mod_below}
use Rattle.std.proofs.Math.Pow.{pow_pos}
use Rattle.jk_math.specs.Answer.{◌>>=◌, refuse}
use Rattle.jk_math.specs.Steps.{bind_then}
use Rattle.jk_math.specs.declared.fault.Fault.{Fault}
use Rattle.jk_bits.specs.Stuffing.{binary}
use Rattle.jk_bits.specs.Reading.{Bits, ahead, bit_at}
use Rattle.jk_bits.proofs.Laws.{length-binary}
use Rattle.jk_bits.specs.Giving.{GivesBits, advance, ahead_on, gives_none, gives_join, gives_bit, bit_ahead}
use Rattle.jk_packet.specs.Reading.{digit, number_at, growth_at}
use Rattle.jk_packet.proofs.ReadLaws.{growth_next}
use Rattle.jk_packet.proofs.TextLaws.{bind_ok}

-- what is read is said by the bits that were given, and what bits say that are ahead is read
pub record IsCoded {A : Type 0} (read : Bits → Result (A × Bits) Fault) (Says : A → List Bool → Type 0) : Type 0 where
  pub found : (r : Bits) (o : A × Bits) → read r ≡ Ok o → (bits : List Bool) × Says o.0 bits × GivesBits r bits o.1
  pub only : (a : A) (bits : List Bool) (r : Bits) (rest : List Bool) → Says a bits → ahead r ≡ bits ++ rest → read r ≡ Ok (a, advance r (length bits))

-- one word behind another
pub record Joined {A B : Type 0} (First : A → List Bool → Type 0) (Second : A → B → List Bool → Type 0) (b : B) (bits : List Bool) : Type 0 where
  pub middle : A
  pub first : List Bool
  pub second : List Bool
  pub says_first : First middle first
  pub says_second : Second middle b second
  pub joins : bits ≡ first ++ second

pub advance_twice : (r : Bits) (xs ys : List Bool) → advance (advance r (length xs)) (length ys) ≡ advance r (length (xs ++ ys))
advance_twice r xs ys = ap (λ n. record r { read = n }) (let e : r.read + length xs + length ys ≡ r.read + length (xs ++ ys) = omega (arith, length-append xs ys) in e)

pub coded_bind : {A B : Type 0} (f : Bits → Result (A × Bits) Fault) (g : A → Bits → Result (B × Bits) Fault) (First : A → List Bool → Type 0) (Second : A → B → List Bool → Type 0)
    → IsCoded f First → ((a : A) → IsCoded (g a) (Second a)) → IsCoded (λ r. f r >>= λ o. g o.0 o.1) (Joined First Second)
coded_bind {A} {B} f g First Second one two = record {
  found = λ r o h. bind_then (f r) (λ x. g x.0 x.1) o h (λ x e k.
      let a = one.found r x e in
      let b = (two x.0).found x.1 o k in (
        a.0 ++ b.0,
        record { middle = x.0; first = a.0; second = b.0; says_first = a.1; says_second = b.1; joins = refl },
        gives_join r x.1 o.1 a.0 b.0 a.2 b.2,
      ));
  only = λ b bits r rest s h.
      let first : ahead r ≡ s.first ++ (s.second ++ rest) = h ∙ ap (λ (xs : List Bool). xs ++ rest) s.joins ∙ append_assoc s.first s.second rest in
      let one_read = one.only s.middle s.first r (s.second ++ rest) s.says_first first in
      bind_ok (f r) (λ x. g x.0 x.1) (s.middle, advance r (length s.first)) one_read
      ∙ (two s.middle).only b s.second (advance r (length s.first)) rest s.says_second (ahead_on r s.first (s.second ++ rest) first)
      ∙ ap (λ (q : Bits). Ok (b, q)) (advance_twice r s.first s.second)
      ∙ ap (λ (xs : List Bool). Ok (b, advance r (length xs))) (sym s.joins);
}

pub coded_pure : {A : Type 0} (a : A) → IsCoded (λ r. Ok (a, r)) (λ b bits. (b ≡ a) × (bits ≡ []))
coded_pure {A} a = record {
  found = λ r o h.
      let is : (a, r) ≡ o = cc in
      subst (λ (p : A × Bits). (bits : List Bool) × ((p.0 ≡ a) × (bits ≡ [])) × GivesBits r bits p.1) is ([], (refl, refl), gives_none r);
  only = λ b bits r rest s h.
      ap (λ (x : A). Ok (x, r)) (sym s.0) ∙ ap (λ n. Ok (b, record r { read = n })) (sym (add-zero r.read)) ∙ ap (λ (xs : List Bool). Ok (b, advance r (length xs))) (sym s.1);
}

pub coded_refuse : {A : Type 0} (t : Bool) (e : Fault) (f : Bits → Result (A × Bits) Fault) (Says : A → List Bool → Type 0) → IsCoded f Says
    → IsCoded (λ r. refuse t e >>= λ _. f r) (λ a bits. (t ≡ false) × Says a bits)
coded_refuse {A} true e f Says c = record {
  found = λ r o h. absurd (cc);
  only = λ a bits r rest s h. absurd (let x = s.0 in cc);
}
coded_refuse {A} false e f Says c = record {
  found = λ r o h. let a = c.found r o h in (a.0, (refl, a.1), a.2);
  only = λ a bits r rest s h. c.only a bits r rest s.1 h;
}

pub coded_test : {A : Type 0} (t : Bool) (f g : Bits → Result (A × Bits) Fault) (Then Else : A → List Bool → Type 0) → IsCoded f Then → IsCoded g Else
    → IsCoded (λ r. cond t (f r) (g r)) (λ a bits. ((t ≡ true) → Then a bits) × ((t ≡ false) → Else a bits))
coded_test true f g Then Else one two = record {
  found = λ r o h. let a = one.found r o h in (a.0, (λ _. a.1, λ e. absurd (cc)), a.2);
  only = λ a bits r rest s h. one.only a bits r rest (s.0 refl) h;
}
coded_test false f g Then Else one two = record {
  found = λ r o h. let a = two.found r o h in (a.0, (λ e. absurd (cc), λ _. a.1), a.2);
  only = λ a bits r rest s h. two.only a bits r rest (s.1 refl) h;
}

pub coded_says : {A : Type 0} (f : Bits → Result (A × Bits) Fault) (Says Again : A → List Bool → Type 0) → IsCoded f Says → ((a : A) (bits : List Bool) → Says a bits → Again a bits) → ((a : A) (bits : List Bool) → Again a bits → Says a bits)
    → IsCoded f Again
coded_says f Says Again c on back = record {
  found = λ r o h. let a = c.found r o h in (a.0, on o.0 a.0 a.1, a.2);
  only = λ a bits r rest s h. c.only a bits r rest (back a bits s) h;
}

pub coded_bit : IsCoded bit_at (λ b bits. bits ≡ b ∷ [])
coded_bit = record {
  found = λ r o h. (o.0 ∷ [], refl, gives_bit r o h);
  only = λ b bits r rest s h. bit_ahead r b rest (h ∙ ap (λ (xs : List Bool). xs ++ rest) s) ∙ ap (λ (xs : List Bool). Ok (b, advance r (length xs))) (sym s);
}

digit_rest : (value : ℕ) (bit : Bool) → ((value * 2 + digit bit) % 2 == 1) ≡ bit
digit_rest value true = ap (λ n. n == 1) (let e : (value * 2 + 1) % 2 ≡ 1 = omega arith in e)
digit_rest value false = ap (λ n. n == 1) (let e : (value * 2 + 0) % 2 ≡ 0 = omega arith in e)

digit_half : (value : ℕ) (bit : Bool) → (value * 2 + digit bit) / 2 ≡ value
digit_half value true = omega arith
digit_half value false = omega arith

over_one : (x : ℕ) → x / 2 ^ 0 ≡ x
over_one x = let e : x / 1 ≡ x = omega arith in e

halves : (x n : ℕ) → x / 2 ^ suc n ≡ x / 2 ^ n / 2
halves x n = ap (λ k. x / 2 ^ k) (let e : suc n ≡ n + 1 = omega arith in e) ∙ sym (shr-shr x n 1)

number_out : (n value : ℕ) (r : Bits) (o : ℕ × Bits) → number_at n value r ≡ Ok o → (o.0 / 2 ^ n ≡ value) × GivesBits r (binary n o.0) o.1
unfolding number_at binary
number_out zero value r o h =
    let is : (value, r) ≡ o = cc in
    subst (λ (p : ℕ × Bits). (p.0 / 2 ^ 0 ≡ value) × GivesBits r [] p.1) is (over_one value, gives_none r)
number_out (suc n) value r o h = bind_then (bit_at r) (λ b. number_at n (value * 2 + digit b.0) b.1) o h (λ b e k.
    let on = number_out n (value * 2 + digit b.0) b.1 o k in
    let bit : (o.0 / 2 ^ n % 2 == 1) ≡ b.0 = ap (λ m. m % 2 == 1) on.0 ∙ digit_rest value b.0 in (
      halves o.0 n ∙ ap (λ m. m / 2) on.0 ∙ digit_half value b.0,
      subst (λ (c : Bool). GivesBits r (c ∷ binary n o.0) o.1) (sym bit) (gives_join r b.1 o.1 (b.0 ∷ []) (binary n o.0) (gives_bit r b e) on.1),
    ))

test_digit : (m : ℕ) → digit (m % 2 == 1) ≡ m % 2
test_digit m = of_small (m % 2) (omega arith)
  where
    of_small : (d : ℕ) → d < 2 → digit (d == 1) ≡ d
    of_small zero h = refl
    of_small (suc zero) h = refl
    of_small (suc (suc d)) h = absurd (omega (arith, h))

number_in : (n value x : ℕ) (r : Bits) (rest : List Bool) → x / 2 ^ n ≡ value → ahead r ≡ binary n x ++ rest → number_at n value r ≡ Ok (x, advance r n)
unfolding number_at binary
number_in zero value x r rest v h = ap (λ k. Ok (k, r)) (sym v ∙ over_one x) ∙ ap (λ k. Ok (x, record r { read = k })) (sym (add-zero r.read))
number_in (suc n) value x r rest v h =
    let b = x / 2 ^ n % 2 == 1 in
    let half : x / 2 ^ n / 2 ≡ value = sym (halves x n) ∙ v in
    let on : x / 2 ^ n ≡ value * 2 + digit b = (let d = test_digit (x / 2 ^ n) in omega (arith, half, d)) in
    bind_ok (bit_at r) (λ b. number_at n (value * 2 + digit b.0) b.1) (b, advance r 1) (bit_ahead r b (binary n x ++ rest) h)
    ∙ number_in n (value * 2 + digit b) x (advance r 1) rest on (ahead_on r (b ∷ []) (binary n x ++ rest) h)
    ∙ ap (λ k. Ok (x, record r { read = k })) (let e : r.read + 1 + n ≡ r.read + suc n = omega arith in e)

zero_high : (x n : ℕ) → x < 2 ^ n → x / 2 ^ n ≡ 0
zero_high x n h = ap (λ y. y / 2 ^ n) (let e : x ≡ 0 * 2 ^ n + x = omega arith in e) ∙ div-mul-add 0 (2 ^ n) x h

small_high : (x n : ℕ) → x / 2 ^ n ≡ 0 → x < 2 ^ n
small_high x n h =
    let whole : 0 * 2 ^ n + x % 2 ^ n ≡ x = ap (λ q. q * 2 ^ n + x % 2 ^ n) (sym h) ∙ div-add-mod' x (2 ^ n) in
    let low = mod_below x (2 ^ n) (pow_pos n) in
    omega (arith, whole, low)

pub coded_number : (n : ℕ) → IsCoded (number_at n 0) (λ x bits. (x < 2 ^ n) × (bits ≡ binary n x))
coded_number n = record {
  found = λ r o h. let a = number_out n 0 r o h in (binary n o.0, (small_high o.0 n a.0, refl), a.1);
  only = λ x bits r rest s h.
      number_in n 0 x r rest (zero_high x n s.0) (h ∙ ap (λ (xs : List Bool). xs ++ rest) s.1)
      ∙ ap (λ k. Ok (x, advance r k)) (sym (ap length s.1 ∙ length-binary n x));
}

abbrev Grown : ℕ → ℕ → Bits → ℕ × Bits → Type 0
Grown room growth r o = (k : ℕ) × (o.0 ≡ growth + k) × (k < room) × GivesBits r (replicate k true ++ false ∷ []) o.1

growth_by_bit : (room growth : ℕ) (r : Bits) (o : ℕ × Bits) → ((on : Bits) → growth_at room (growth + 1) on ≡ Ok o → Grown room (growth + 1) on o)
    → (bit : Bool) (on : Bits) → GivesBits r (bit ∷ []) on → cond bit (growth_at room (growth + 1) on) (Ok (growth, on)) ≡ Ok o → Grown (suc room) growth r o
growth_by_bit room growth r o rec true on g h =
    let a = rec on h in
    let is = a.1 in
    let less = a.2 in
    (suc a.0, omega (arith, is), omega (arith, less), gives_join r on o.1 (true ∷ []) (replicate a.0 true ++ false ∷ []) g a.3)
growth_by_bit room growth r o rec false on g h =
    let is : (growth, on) ≡ o = cc in
    subst (λ (p : ℕ × Bits). Grown (suc room) growth r p) is (0, sym (add-zero growth), omega arith, g)

growth_out : (room growth : ℕ) (r : Bits) (o : ℕ × Bits) → growth_at room growth r ≡ Ok o → Grown room growth r o
unfolding growth_at
growth_out zero growth r o h = absurd (cc)
growth_out (suc room) growth r o h = bind_then (bit_at r) (λ b. cond b.0 (growth_at room (growth + 1) b.1) (Ok (growth, b.1))) o h
    (λ b e k. growth_by_bit room growth r o (λ on. growth_out room (growth + 1) on o) b.0 b.1 (gives_bit r b e) k)

growth_in : (k room growth : ℕ) (r : Bits) (rest : List Bool) → k < room → ahead r ≡ (replicate k true ++ false ∷ []) ++ rest → growth_at room growth r ≡ Ok (growth + k, advance r (length (replicate k true ++ false ∷ [])))
growth_in k zero growth r rest less h = absurd (omega (arith, less))
growth_in zero (suc room) growth r rest less h =
    growth_next room growth r (false, advance r 1) (bit_ahead r false rest h) ∙ ap (λ n. Ok (n, advance r 1)) (sym (add-zero growth))
growth_in (suc k) (suc room) growth r rest less h =
    let word = replicate k true ++ false ∷ [] in
    growth_next room growth r (true, advance r 1) (bit_ahead r true (word ++ rest) h)
    ∙ growth_in k room (growth + 1) (advance r 1) rest (omega (arith, less)) (ahead_on r (true ∷ []) (word ++ rest) h)
    ∙ ap (λ n. Ok (n, advance (advance r 1) (length word))) (let e : growth + 1 + k ≡ growth + suc k = omega arith in e)
    ∙ ap (λ n. Ok (growth + suc k, record r { read = n })) (let e : r.read + 1 + length word ≡ r.read + suc (length word) = omega arith in e)

pub coded_growth : (room : ℕ) → IsCoded (growth_at room 0) (λ k bits. (k < room) × (bits ≡ replicate k true ++ false ∷ []))
coded_growth room = record {
  found = λ r o h.
      let a = growth_out room 0 r o h in
      let is : a.0 ≡ o.0 = (let e = a.1 in omega (arith, e)) in
      (replicate a.0 true ++ false ∷ [], (subst (λ k. k < room) is a.2, ap (λ k. replicate k true ++ false ∷ []) is), a.3);
  only = λ k bits r rest s h.
      growth_in k room 0 r rest s.0 (h ∙ ap (λ (xs : List Bool). xs ++ rest) s.1)
      ∙ ap (λ n. Ok (n, advance r (length (replicate k true ++ false ∷ [])))) (let e : 0 + k ≡ k = omega arith in e)
      ∙ ap (λ (xs : List Bool). Ok (k, advance r (length xs))) (sym s.1);
}
