-- Literal words, bit by bit.
use Rattle.std.proofs.Common.{◌≡◌, ℕ, zero, suc, ◌+◌, ◌*◌, ◌<◌, Bool, true, false, refl, sym, ap, ◌∙◌, inl, inr, arith}
use Rattle.std.specs.Prelude.{◌&&◌, nat_eq}
use Rattle.std.proofs.lemmas.Bool.{cases_lt, and_parts}
use Rattle.jk_scan.specs.Bits.{on}

unfoldable pub all_below : ℕ → (ℕ → Bool) → Bool
all_below zero p = true
all_below (suc n) p = p n && all_below n p

pub all_at : (n : ℕ) (p : ℕ → Bool) → all_below n p ≡ true → (k : ℕ) → k < n → p k ≡ true
unfolding all_below
all_at zero p h k l = absurd (omega arith)
all_at (suc n) p h k l =
    let both = and_parts (p n) (all_below n p) h in
    elim (cases_lt k n) [ inl less ↦ all_at n p both.1 k less | inr most ↦ let e : k ≡ n = omega arith in ap p e ∙ both.0 ]

unfoldable pub same : Bool → Bool → Bool
same true b = b
same false true = false
same false false = true

pub same_is : (a b : Bool) → same a b ≡ true → a ≡ b
unfolding same
same_is true b h = sym h
same_is false true h = h
same_is false false h = refl

-- the word has these bits in each byte
unfoldable pub patterned : ℕ → (ℕ → Bool) → Bool
patterned word rows = all_below 8 (λ c. all_below 8 (λ i. same (on word (8 * c + i)) (rows i)))

pub pattern_at : (word : ℕ) (rows : ℕ → Bool) → patterned word rows ≡ true → (c i : ℕ) → c < 8 → i < 8 → on word (8 * c + i) ≡ rows i
unfolding patterned
pattern_at word rows h c i p q =
    same_is (on word (8 * c + i)) (rows i) (all_at 8 (λ i. same (on word (8 * c + i)) (rows i)) (all_at 8 (λ c. all_below 8 (λ i. same (on word (8 * c + i)) (rows i))) h c p) i q)

pub firsts : (c i : ℕ) → c < 8 → i < 8 → on 0x0101_0101_0101_0101 (8 * c + i) ≡ nat_eq i 0
unfolding patterned all_below same on
firsts = pattern_at 0x0101_0101_0101_0101 (λ i. nat_eq i 0) refl

pub seconds : (c i : ℕ) → c < 8 → i < 8 → on 0x0202_0202_0202_0202 (8 * c + i) ≡ nat_eq i 1
unfolding patterned all_below same on
seconds = pattern_at 0x0202_0202_0202_0202 (λ i. nat_eq i 1) refl
