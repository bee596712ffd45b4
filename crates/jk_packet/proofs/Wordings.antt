-- The words of a piece, as they are written.
use Rattle.std.proofs.Common.{◌≡◌, ℕ, suc, ◌-◌, ◌/◌, ◌%◌, ◌^◌, ◌≤◌, Bool, true, false, cond, List, [], ◌∷◌, ◌++◌, replicate, refl, sym, ap, ◌∙◌, arith, append_assoc}
use Rattle.std.specs.Prelude.{◌==◌, nat_le}
use Rattle.std.proofs.lemmas.Bool.Decides.{nat_tests}
use Rattle.jk_bits.specs.Stuffing.{binary}
use Rattle.jk_packet.specs.declared.words.Addition.{Addition}
use Rattle.jk_packet.specs.Words.{width, pass_code, piece_bits}

pub binary-zero : (x : ℕ) → binary 0 x ≡ []
unfolding binary
binary-zero x = refl

pub binary-suc : (n x : ℕ) → binary (suc n) x ≡ (x / 2 ^ n % 2 == 1) ∷ binary n x
unfolding binary
binary-suc n x = refl

-- Table B.4, line by line
pub pass_one : (n : ℕ) → n ≡ 1 → replicate 0 true ++ binary 1 (n - 1) ≡ pass_code n
unfolding binary pass_code
pass_one n e = ap (λ k. (k / 2 ^ 0 % 2 == 1) ∷ []) (let z : n - 1 ≡ 0 = omega (arith, e) in z) ∙ ap pass_code (sym e)

pub pass_two : (n : ℕ) → n ≡ 2 → replicate 1 true ++ binary 1 (n - 2) ≡ pass_code n
unfolding binary pass_code
pass_two n e = ap (λ k. true ∷ (k / 2 ^ 0 % 2 == 1) ∷ []) (let z : n - 2 ≡ 0 = omega (arith, e) in z) ∙ ap pass_code (sym e)

abbrev behind_two : ℕ → (Bool → Bool → List Bool)
behind_two n = λ five more. cond five (replicate 2 true ++ binary 2 (n - 3)) (cond more (replicate 4 true ++ binary 5 (n - 6)) (replicate 9 true ++ binary 7 (n - 37)))

code_is : (n : ℕ) → (n == 1) ≡ false → (n == 2) ≡ false → (five more : Bool) → nat_le n 5 ≡ five → nat_le n 36 ≡ more → behind_two n five more ≡ pass_code n
unfolding pass_code
code_is n one two five more a b =
    ap (λ (x : Bool). behind_two n x more) (sym a)
    ∙ ap (λ (x : Bool). behind_two n (nat_le n 5) x) (sym b)
    ∙ ap (λ (x : Bool). cond x (true ∷ false ∷ []) (behind_two n (nat_le n 5) (nat_le n 36))) (sym two)
    ∙ ap (λ (x : Bool). cond x (false ∷ []) (cond (n == 2) (true ∷ false ∷ []) (behind_two n (nat_le n 5) (nat_le n 36)))) (sym one)

pub pass_five : (n : ℕ) → 3 ≤ n → n ≤ 5 → replicate 2 true ++ binary 2 (n - 3) ≡ pass_code n
pass_five n low high = code_is n (grind (arith, nat_tests)) (grind (arith, nat_tests)) true true (grind (arith, nat_tests)) (grind (arith, nat_tests))

pub pass_more : (n : ℕ) → 6 ≤ n → n ≤ 36 → replicate 4 true ++ binary 5 (n - 6) ≡ pass_code n
pass_more n low high = code_is n (grind (arith, nat_tests)) (grind (arith, nat_tests)) false true (grind (arith, nat_tests)) (grind (arith, nat_tests))

pub pass_most : (n : ℕ) → 37 ≤ n → replicate 9 true ++ binary 7 (n - 37) ≡ pass_code n
pass_most n low = code_is n (grind (arith, nat_tests)) (grind (arith, nat_tests)) false false (grind (arith, nat_tests)) (grind (arith, nat_tests))

-- a piece, word by word
pub piece_by : (lblock : ℕ) (p : Addition) (bits a b : List Bool) → a ≡ bits ++ pass_code p.passes → b ≡ a ++ replicate p.growth true
    → (b ++ false ∷ []) ++ binary (width lblock p) p.length ≡ bits ++ piece_bits lblock p
unfolding piece_bits
piece_by lblock p bits a b first second =
    let number = binary (width lblock p) p.length in
    let ones = replicate p.growth true in
    append_assoc b (false ∷ []) number
    ∙ ap (λ (xs : List Bool). xs ++ (false ∷ number)) (second ∙ ap (λ (xs : List Bool). xs ++ ones) first)
    ∙ append_assoc (bits ++ pass_code p.passes) ones (false ∷ number)
    ∙ append_assoc bits (pass_code p.passes) (ones ++ (false ∷ number))
