-- The gathered word, bit by bit.
use Rattle.std.proofs.Common.{◌≡◌, ℕ, zero, suc, ◌+◌, ◌-◌, ◌*◌, ◌/◌, ◌%◌, ◌^◌, ◌<◌, ◌≤◌, Bool, false, sym, ap, ◌∙◌, inl, inr, arith}
use Rattle.std.specs.Prelude.{◌&&◌, ◌||◌, nat_eq}
use Rattle.std.specs.Int.RustNames.{bit_or, bit_and}
use Rattle.std.proofs.lemmas.Bool.{cases_lt}
use Rattle.std.proofs.lemmas.Bool.Decides.{nat_tests}
use Rattle.jk_scan.specs.Bits.{on}
use Rattle.jk_scan.specs.Words.{Truths, of_rows, of_gathered, Shows}
use Rattle.jk_scan.proofs.BitLaws.{on_or, on_and, on_shl, on_shl_low, on_shr_at}
use Rattle.jk_scan.proofs.Patterns.{firsts, seconds}

gated : (x y : Bool) (i n : ℕ) → (i ≡ n → x ≡ y) → (x && nat_eq i n) ≡ (nat_eq i n && y)
gated x y i n h = grind (arith, nat_tests)

-- row 3 of the stripe above comes to bit 0
lowered : (word c i : ℕ) → c < 8 → i < 8 → on (bit_and (word / 2 ^ 4) 0x0101_0101_0101_0101) (8 * c + i) ≡ (nat_eq i 0 && on word (8 * c + 4))
lowered word c i p q =
    on_and (word / 2 ^ 4) 0x0101_0101_0101_0101 (8 * c + i) ∙ ap (λ b. on (word / 2 ^ 4) (8 * c + i) && b) (firsts c i p q)
    ∙ gated (on (word / 2 ^ 4) (8 * c + i)) (on word (8 * c + 4)) i 0 (λ e. on_shr_at word 4 (8 * c + 4) (8 * c + i) (omega arith))

-- row 0 of the stripe below comes to bit 5
masked : (word c i : ℕ) → c < 8 → i < 8 → on (bit_and word 0x0202_0202_0202_0202) (8 * c + i) ≡ (on word (8 * c + i) && nat_eq i 1)
masked word c i p q = on_and word 0x0202_0202_0202_0202 (8 * c + i) ∙ ap (λ b. on word (8 * c + i) && b) (seconds c i p q)

raised : (word c i : ℕ) → c < 8 → i < 8 → on (bit_and word 0x0202_0202_0202_0202 * 2 ^ 4 % 2 ^ 64) (8 * c + i) ≡ (nat_eq i 5 && on word (8 * c + 1))
raised word c i p q = elim (cases_lt i 4) [ inl low ↦ below c p low | inr high ↦ above high ]
  where
    not_five : (b : Bool) → i < 4 → (nat_eq i 5 && b) ≡ false
    not_five b low = grind (arith, nat_tests)

    not_one : (b : Bool) → (b && nat_eq (i + 4) 1) ≡ false
    not_one b = grind (arith, nat_tests)

    below : (c : ℕ) → c < 8 → i < 4 → on (bit_and word 0x0202_0202_0202_0202 * 2 ^ 4 % 2 ^ 64) (8 * c + i) ≡ (nat_eq i 5 && on word (8 * c + 1))
    below zero p low = on_shl_low (bit_and word 0x0202_0202_0202_0202) 4 64 (8 * zero + i) (omega arith) (omega arith) ∙ sym (not_five (on word (8 * zero + 1)) low)
    below (suc c) p low =
        on_shl (bit_and word 0x0202_0202_0202_0202) 4 64 (8 * c + (i + 4)) (8 * suc c + i) (omega arith) (omega arith) ∙ masked word c (i + 4) (omega arith) (omega arith) ∙ not_one (on word (8 * c + (i + 4)))
        ∙ sym (not_five (on word (8 * suc c + 1)) low)

    five : (x y : Bool) → 4 ≤ i → (i ≡ 5 → x ≡ y) → (x && nat_eq (i - 4) 1) ≡ (nat_eq i 5 && y)
    five x y high h = grind (arith, nat_tests)

    above : 4 ≤ i → on (bit_and word 0x0202_0202_0202_0202 * 2 ^ 4 % 2 ^ 64) (8 * c + i) ≡ (nat_eq i 5 && on word (8 * c + 1))
    above high =
        on_shl (bit_and word 0x0202_0202_0202_0202) 4 64 (8 * c + (i - 4)) (8 * c + i) (omega arith) (omega arith) ∙ masked word c (i - 4) p (omega arith)
        ∙ five (on word (8 * c + (i - 4))) (on word (8 * c + 1)) high (λ e. ap (on word) (omega arith))

join : (i : ℕ) (value up down : Bool) → i < 8 → (i ≡ 0 → up ≡ value) → (i ≡ 5 → down ≡ value) → (((of_rows i && value) || (nat_eq i 0 && up)) || (nat_eq i 5 && down)) ≡ (of_gathered i && value)
join i value up down h a b = grind (arith, nat_tests)

pub gathered : (centre above below : ℕ) (f : Truths) (j s : ℕ) → Shows of_rows f j (s + 1) centre → Shows of_rows f j s above → Shows of_rows f j (s + 2) below
    → Shows of_gathered f j (s + 1) (bit_or (bit_or centre (bit_and (above / 2 ^ 4) 0x0101_0101_0101_0101)) (bit_and below 0x0202_0202_0202_0202 * 2 ^ 4 % 2 ^ 64))
gathered centre above below f j s o a b c i p q =
    let k = 8 * c + i in
    let value = f (8 * j + c) (4 * (s + 1) + i - 1) in
    let here = o c i p q in
    let up = lowered above c i p q in
    let down = raised below c i p q in
    on_or (bit_or centre (bit_and (above / 2 ^ 4) 0x0101_0101_0101_0101)) (bit_and below 0x0202_0202_0202_0202 * 2 ^ 4 % 2 ^ 64) k
    ∙ ap (λ x. x || on (bit_and below 0x0202_0202_0202_0202 * 2 ^ 4 % 2 ^ 64) k) (on_or centre (bit_and (above / 2 ^ 4) 0x0101_0101_0101_0101) k)
    ∙ ap (λ x. (x || on (bit_and (above / 2 ^ 4) 0x0101_0101_0101_0101) k) || on (bit_and below 0x0202_0202_0202_0202 * 2 ^ 4 % 2 ^ 64) k) here
    ∙ ap (λ x. ((of_rows i && value) || x) || on (bit_and below 0x0202_0202_0202_0202 * 2 ^ 4 % 2 ^ 64) k) up
    ∙ ap (λ x. ((of_rows i && value) || (nat_eq i 0 && on above (8 * c + 4))) || x) down
    ∙ join i value (on above (8 * c + 4)) (on below (8 * c + 1)) q
    (λ e. a c 4 p (omega arith) ∙ ap (f (8 * j + c)) (omega arith))
    (λ e. b c 1 p (omega arith) ∙ ap (f (8 * j + c)) (omega arith))
