-- The code-words of a number of passes (T.800 B.10.6): what is read is a code-word, and each code-word is read.
use Rattle.std.proofs.Common.{◌≡◌, ℕ, ◌+◌, ◌-◌, ◌^◌, ◌<◌, ◌≤◌, Bool, true, false, cond, List, [], ◌∷◌, ◌++◌, replicate, Result, Ok, refl, sym, ap, ◌∙◌, subst, inl, inr, arith}
use Rattle.std.specs.Prelude.{◌==◌, not, nat_le, nat_lt}
use Rattle.std.proofs.lemmas.List.{append-nil}
use Rattle.std.proofs.lemmas.Bool.{cases_lt, cases_eq}
use Rattle.std.proofs.lemmas.Bool.Decides.{nat_tests}
use Rattle.jk_math.specs.Answer.{◌>>=◌}
use Rattle.jk_math.specs.declared.fault.Fault.{Fault}
use Rattle.jk_bits.specs.Stuffing.{binary}
use Rattle.jk_bits.specs.Reading.{Bits, bit_at}
use Rattle.jk_packet.specs.Words.{pass_code}
use Rattle.jk_packet.specs.Reading.{number_at, passes_at}
use Rattle.jk_packet.proofs.Codes.{IsCoded, Joined, coded_bind, coded_pure, coded_test, coded_says, coded_bit, coded_number}

-- the cases of Table B.4, the last one first
abbrev seven_at : ℕ → Bits → Result (ℕ × Bits) Fault
seven_at d r = cond (nat_lt d 31) (Ok (6 + d, r)) (number_at 7 0 r >>= λ e. Ok (37 + e.0, e.1))

abbrev five_at : ℕ → Bits → Result (ℕ × Bits) Fault
five_at c r = cond (nat_lt c 3) (Ok (3 + c, r)) (number_at 5 0 r >>= λ d. seven_at d.0 d.1)

abbrev two_at : Bool → Bits → Result (ℕ × Bits) Fault
two_at b r = cond (not b) (Ok (2, r)) (number_at 2 0 r >>= λ c. five_at c.0 c.1)

abbrev one_at : Bool → Bits → Result (ℕ × Bits) Fault
one_at a r = cond (not a) (Ok (1, r)) (bit_at r >>= λ b. two_at b.0 b.1)

abbrev Just : ℕ → ℕ → List Bool → Type 0
Just a n bits = (n ≡ a) × (bits ≡ [])

abbrev pub Number : ℕ → ℕ → List Bool → Type 0
Number k x bits = (x < 2 ^ k) × (bits ≡ binary k x)

abbrev Bit : Bool → List Bool → Type 0
Bit b bits = bits ≡ b ∷ []

abbrev Last : ℕ → List Bool → Type 0
Last = Joined (Number 7) (λ e. Just (37 + e))

abbrev Seven : ℕ → ℕ → List Bool → Type 0
Seven d n bits = ((nat_lt d 31 ≡ true) → Just (6 + d) n bits) × ((nat_lt d 31 ≡ false) → Last n bits)

abbrev Five : ℕ → ℕ → List Bool → Type 0
Five c n bits = ((nat_lt c 3 ≡ true) → Just (3 + c) n bits) × ((nat_lt c 3 ≡ false) → Joined (Number 5) Seven n bits)

abbrev Two : Bool → ℕ → List Bool → Type 0
Two b n bits = ((not b ≡ true) → Just 2 n bits) × ((not b ≡ false) → Joined (Number 2) Five n bits)

abbrev One : Bool → ℕ → List Bool → Type 0
One a n bits = ((not a ≡ true) → Just 1 n bits) × ((not a ≡ false) → Joined Bit Two n bits)

coded_seven : (d : ℕ) → IsCoded (seven_at d) (Seven d)
coded_seven d =
    coded_test (nat_lt d 31) (λ r. Ok (6 + d, r)) (λ r. number_at 7 0 r >>= λ e. Ok (37 + e.0, e.1)) (Just (6 + d)) Last
    (coded_pure (6 + d)) (coded_bind (number_at 7 0) (λ e r. Ok (37 + e, r)) (Number 7) (λ e. Just (37 + e)) (coded_number 7) (λ e. coded_pure (37 + e)))

coded_five : (c : ℕ) → IsCoded (five_at c) (Five c)
coded_five c =
    coded_test (nat_lt c 3) (λ r. Ok (3 + c, r)) (λ r. number_at 5 0 r >>= λ d. seven_at d.0 d.1) (Just (3 + c)) (Joined (Number 5) Seven)
    (coded_pure (3 + c)) (coded_bind (number_at 5 0) seven_at (Number 5) Seven (coded_number 5) coded_seven)

coded_two : (b : Bool) → IsCoded (two_at b) (Two b)
coded_two b =
    coded_test (not b) (λ r. Ok (2, r)) (λ r. number_at 2 0 r >>= λ c. five_at c.0 c.1) (Just 2) (Joined (Number 2) Five)
    (coded_pure 2) (coded_bind (number_at 2 0) five_at (Number 2) Five (coded_number 2) coded_five)

coded_one : (a : Bool) → IsCoded (one_at a) (One a)
coded_one a =
    coded_test (not a) (λ r. Ok (1, r)) (λ r. bit_at r >>= λ b. two_at b.0 b.1) (Just 1) (Joined Bit Two)
    (coded_pure 1) (coded_bind bit_at two_at Bit Two coded_bit coded_two)

coded_cases : IsCoded passes_at (Joined Bit One)
unfolding passes_at
coded_cases = coded_bind bit_at one_at Bit One coded_bit coded_one

-- a number of passes and its code-word
pub record Passes (n : ℕ) (bits : List Bool) : Type 0 where
  pub some : 1 ≤ n
  pub few : n ≤ 164
  pub code : bits ≡ pass_code n

code_one : pass_code 1 ≡ false ∷ []
unfolding pass_code
code_one = refl

code_two : pass_code 2 ≡ true ∷ false ∷ []
unfolding pass_code
code_two = refl

-- the code-word of more than so many
code_few : (n : ℕ) → 3 ≤ n → n ≤ 5 → pass_code n ≡ replicate 2 true ++ binary 2 (n - 3)
unfolding pass_code
code_few n low high =
    let a : (n == 1) ≡ false = grind (arith, nat_tests) in
    let b : (n == 2) ≡ false = grind (arith, nat_tests) in
    let c : nat_le n 5 ≡ true = grind (arith, nat_tests) in
    rw (a, b, c) refl

code_more : (n : ℕ) → 6 ≤ n → n ≤ 36 → pass_code n ≡ replicate 4 true ++ binary 5 (n - 6)
unfolding pass_code
code_more n low high =
    let a : (n == 1) ≡ false = grind (arith, nat_tests) in
    let b : (n == 2) ≡ false = grind (arith, nat_tests) in
    let c : nat_le n 5 ≡ false = grind (arith, nat_tests) in
    let d : nat_le n 36 ≡ true = grind (arith, nat_tests) in
    rw (a, b, c, d) refl

code_most : (n : ℕ) → 37 ≤ n → pass_code n ≡ replicate 9 true ++ binary 7 (n - 37)
unfolding pass_code
code_most n low =
    let a : (n == 1) ≡ false = grind (arith, nat_tests) in
    let b : (n == 2) ≡ false = grind (arith, nat_tests) in
    let c : nat_le n 5 ≡ false = grind (arith, nat_tests) in
    let d : nat_le n 36 ≡ false = grind (arith, nat_tests) in
    rw (a, b, c, d) refl

-- the numbers that go on
three_bits : binary 2 3 ≡ true ∷ true ∷ []
unfolding binary
three_bits = refl

five_ones : binary 5 31 ≡ true ∷ true ∷ true ∷ true ∷ true ∷ []
unfolding binary
five_ones = refl

below : (x : ℕ) (m : ℕ) → nat_lt x m ≡ true → x < m
below x m h = grind (arith, nat_tests)

pub not_below : (x : ℕ) (m : ℕ) → nat_lt x m ≡ false → m ≤ x
not_below x m h = grind (arith, nat_tests)

bool_cases : (b : Bool) (P : Type 0) → (b ≡ true → P) → (b ≡ false → P) → P
bool_cases true P f g = f refl
bool_cases false P f g = g refl

-- what the cases say is a code-word
seven_says : (d n : ℕ) (bits : List Bool) → d < 32 → Seven d n bits → Passes n (replicate 4 true ++ (binary 5 d ++ bits))
seven_says d n bits fits s =
    bool_cases (nat_lt d 31) (Passes n (replicate 4 true ++ (binary 5 d ++ bits)))
    (λ t.
    let j = s.0 t in
    let less = below d 31 t in
    let is = j.0 in
    record {
      some = omega (arith, is);
      few = omega (arith, is, less);
      code =
          ap (λ (xs : List Bool). replicate 4 true ++ (binary 5 d ++ xs)) j.1
          ∙ ap (λ (xs : List Bool). replicate 4 true ++ xs) (append-nil (binary 5 d))
          ∙ ap (λ k. replicate 4 true ++ binary 5 k) (let e : d ≡ n - 6 = omega (arith, is) in e)
          ∙ sym (code_more n (omega (arith, is)) (omega (arith, is, less)));
    })
    (λ t.
    let l = s.1 t in
    let more = not_below d 31 t in
    let last : d ≡ 31 = omega (arith, more, fits) in
    let e = l.middle in
    let is = l.says_second.0 in
    let less : e < 128 = l.says_first.0 in
    record {
      some = omega (arith, is);
      few = omega (arith, is, less);
      code =
          ap (λ k. replicate 4 true ++ (binary 5 k ++ bits)) last
          ∙ ap (λ (xs : List Bool). replicate 4 true ++ (xs ++ bits)) five_ones
          ∙ ap (λ (xs : List Bool). replicate 9 true ++ xs) (l.joins ∙ ap (λ (xs : List Bool). xs ++ l.second) l.says_first.1 ∙ ap (λ (xs : List Bool). binary 7 e ++ xs) l.says_second.1 ∙ append-nil (binary 7 e))
          ∙ ap (λ k. replicate 9 true ++ binary 7 k) (let h : e ≡ n - 37 = omega (arith, is) in h)
          ∙ sym (code_most n (omega (arith, is)));
    })

five_says : (c n : ℕ) (bits : List Bool) → c < 4 → Five c n bits → Passes n (replicate 2 true ++ (binary 2 c ++ bits))
five_says c n bits fits s =
    bool_cases (nat_lt c 3) (Passes n (replicate 2 true ++ (binary 2 c ++ bits)))
    (λ t.
    let j = s.0 t in
    let less = below c 3 t in
    let is = j.0 in
    record {
      some = omega (arith, is);
      few = omega (arith, is, less);
      code =
          ap (λ (xs : List Bool). replicate 2 true ++ (binary 2 c ++ xs)) j.1
          ∙ ap (λ (xs : List Bool). replicate 2 true ++ xs) (append-nil (binary 2 c))
          ∙ ap (λ k. replicate 2 true ++ binary 2 k) (let e : c ≡ n - 3 = omega (arith, is) in e)
          ∙ sym (code_few n (omega (arith, is)) (omega (arith, is, less)));
    })
    (λ t.
    let l = s.1 t in
    let more = not_below c 3 t in
    let last : c ≡ 3 = omega (arith, more, fits) in
    let p = seven_says l.middle n l.second l.says_first.0 l.says_second in
    record {
      some = p.some;
      few = p.few;
      code =
          ap (λ k. replicate 2 true ++ (binary 2 k ++ bits)) last
          ∙ ap (λ (xs : List Bool). replicate 2 true ++ (xs ++ bits)) three_bits
          ∙ ap (λ (xs : List Bool). replicate 4 true ++ xs) (l.joins ∙ ap (λ (xs : List Bool). xs ++ l.second) l.says_first.1)
          ∙ p.code;
    })

two_says : (b : Bool) (n : ℕ) (bits : List Bool) → Two b n bits → Passes n (true ∷ (b ∷ bits))
two_says false n bits s =
    let j = s.0 refl in
    let is = j.0 in
    record { some = omega (arith, is); few = omega (arith, is); code = ap (λ (xs : List Bool). true ∷ (false ∷ xs)) j.1 ∙ sym code_two ∙ ap pass_code (sym is) }
two_says true n bits s =
    let l = s.1 refl in
    let p = five_says l.middle n l.second l.says_first.0 l.says_second in
    record { some = p.some; few = p.few; code = ap (λ (xs : List Bool). true ∷ (true ∷ xs)) (l.joins ∙ ap (λ (xs : List Bool). xs ++ l.second) l.says_first.1) ∙ p.code }

one_says : (a : Bool) (n : ℕ) (bits : List Bool) → One a n bits → Passes n (a ∷ bits)
one_says false n bits s =
    let j = s.0 refl in
    let is = j.0 in
    record { some = omega (arith, is); few = omega (arith, is); code = ap (λ (xs : List Bool). false ∷ xs) j.1 ∙ sym code_one ∙ ap pass_code (sym is) }
one_says true n bits s =
    let l = s.1 refl in
    let p = two_says l.middle n l.second l.says_second in
    record { some = p.some; few = p.few; code = ap (λ (xs : List Bool). true ∷ xs) (l.joins ∙ ap (λ (xs : List Bool). xs ++ l.second) l.says_first) ∙ p.code }

-- a code-word is said by the cases
last_back : (n : ℕ) → 37 ≤ n → n ≤ 164 → Last n (binary 7 (n - 37))
last_back n low high = record {
  middle = n - 37;
  first = binary 7 (n - 37);
  second = [];
  says_first = (omega arith, refl);
  says_second = (omega arith, refl);
  joins = sym (append-nil (binary 7 (n - 37)));
}

seven_back : (n : ℕ) → 6 ≤ n → n ≤ 164 → (d : ℕ) × (bits : List Bool) × (d < 32) × Seven d n bits × (pass_code n ≡ replicate 4 true ++ (binary 5 d ++ bits))
seven_back n low high = elim (cases_lt 36 n) [
  | inl more ↦ (
    31,
    binary 7 (n - 37),
    omega arith,
    (λ t. absurd (let h : true ≡ false = sym t in cc), λ _. last_back n (omega (arith, more)) high),
    code_most n (omega (arith, more)) ∙ ap (λ (xs : List Bool). replicate 4 true ++ (xs ++ binary 7 (n - 37))) (sym five_ones),
  )
  | inr few ↦ (
    n - 6,
    [],
    omega (arith, few),
    (λ _. (omega (arith, low), refl), λ t. absurd (let m = not_below (n - 6) 31 t in omega (arith, few, m))),
    code_more n low few ∙ ap (λ (xs : List Bool). replicate 4 true ++ xs) (sym (append-nil (binary 5 (n - 6)))),
  )
]

five_back : (n : ℕ) → 3 ≤ n → n ≤ 164 → (c : ℕ) × (bits : List Bool) × (c < 4) × Five c n bits × (pass_code n ≡ replicate 2 true ++ (binary 2 c ++ bits))
five_back n low high = elim (cases_lt 5 n) [
  | inl more ↦ (let s = seven_back n more high in (
    3,
    binary 5 s.0 ++ s.1,
    omega arith,
    (λ t. absurd (let h : true ≡ false = sym t in cc), λ _. record { middle = s.0; first = binary 5 s.0; second = s.1; says_first = (s.2, refl); says_second = s.3; joins = refl }),
    s.4 ∙ ap (λ (xs : List Bool). replicate 2 true ++ (xs ++ (binary 5 s.0 ++ s.1))) (sym three_bits),
  ))
  | inr few ↦ (
    n - 3,
    [],
    omega (arith, few),
    (λ _. (omega (arith, low), refl), λ t. absurd (let m = not_below (n - 3) 3 t in omega (arith, few, m))),
    code_few n low few ∙ ap (λ (xs : List Bool). replicate 2 true ++ xs) (sym (append-nil (binary 2 (n - 3)))),
  )
]

passes_back : (n : ℕ) → 1 ≤ n → n ≤ 164 → Joined Bit One n (pass_code n)
passes_back n some few = elim (cases_eq n 1) [
  | inl one ↦ record {
    middle = false;
    first = false ∷ [];
    second = [];
    says_first = refl;
    says_second = (λ _. (one, refl), λ t. absurd (let h : true ≡ false = t in cc));
    joins = ap pass_code one ∙ code_one;
  }
  | inr more ↦ record {
    middle = true;
    first = true ∷ [];
    second = (behind_one more).0;
    says_first = refl;
    says_second = (λ t. absurd (let h : false ≡ true = t in cc), λ _. (behind_one more).1);
    joins = (behind_one more).2;
  }
]
  where
    behind_one : (n ≡ 1 → ⊥) → (bits : List Bool) × Joined Bit Two n bits × (pass_code n ≡ true ∷ bits)
    behind_one apart = elim (cases_eq n 2) [
      | inl two ↦ (
        false ∷ [],
        record { middle = false; first = false ∷ []; second = []; says_first = refl; says_second = (λ _. (two, refl), λ t. absurd (let h : true ≡ false = t in cc)); joins = refl },
        ap pass_code two ∙ code_two,
      )
      | inr more ↦ (let s = five_back n (omega (arith, some, apart, more)) few in (
        true ∷ (binary 2 s.0 ++ s.1),
        record {
          middle = true;
          first = true ∷ [];
          second = binary 2 s.0 ++ s.1;
          says_first = refl;
          says_second = (λ t. absurd (let h : false ≡ true = t in cc), λ _. record { middle = s.0; first = binary 2 s.0; second = s.1; says_first = (s.2, refl); says_second = s.3; joins = refl });
          joins = refl;
        },
        s.4,
      ))
    ]

pub coded_passes : IsCoded passes_at Passes
coded_passes =
    coded_says passes_at (Joined Bit One) Passes coded_cases
    (λ n bits s.
    let p = one_says s.middle n s.second s.says_second in
    record { some = p.some; few = p.few; code = s.joins ∙ ap (λ (xs : List Bool). xs ++ s.second) s.says_first ∙ p.code })
    (λ n bits p. subst (λ (xs : List Bool). Joined Bit One n xs) (sym p.code) (passes_back n p.some p.few))
