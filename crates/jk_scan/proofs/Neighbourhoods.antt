-- Three by three places around one.
use Rattle.std.proofs.Common.{◌≡◌, ℕ, zero, suc, ◌+◌, ◌-◌, ◌*◌, ◌/◌, ◌%◌, ◌^◌, ◌<◌, ◌≤◌, Bool, true, false, ap, ◌∙◌, inl, inr, arith}
use Rattle.std.specs.Prelude.{◌&&◌, ◌||◌}
use Rattle.std.specs.Int.RustNames.{bit_or}
use Rattle.std.proofs.lemmas.Bool.{cases_lt}
use Rattle.std.proofs.lemmas.Bool.Decides.{nat_tests}
use Rattle.jk_scan.specs.Bits.{on}
use Rattle.jk_scan.specs.Words.{Truths, of_gathered, Shows, IsNeighbourhood}
use Rattle.jk_scan.proofs.BitLaws.{on_or, on_above, on_shl, on_shl_low, on_shr, on_shr_at}

-- the three words joined
abbrev pub joined : (x west east : ℕ) → ℕ
joined x west east = bit_or (bit_or (west / 2 ^ 56) (x * 2 ^ 8 % 2 ^ 128)) (east * 2 ^ 72 % 2 ^ 128)

gathered_up : (i : ℕ) → i < 6 → of_gathered i ≡ true
gathered_up i h = grind (arith, nat_tests)

-- column b - 1 of the own word stands in byte b
joined_at : (f : Truths) (j s x west east b i : ℕ) → x < 2 ^ 64 → west < 2 ^ 64 → Shows of_gathered f (j + 1) s x → Shows of_gathered f j s west → Shows of_gathered f (j + 2) s east
    → b < 10 → i < 6 → on (joined x west east) (8 * b + i) ≡ f (8 * (j + 1) + b - 1) (4 * s + i - 1)
joined_at f j s x west east b i xb lb hx hl hr p q =
    on_or (bit_or (west / 2 ^ 56) (x * 2 ^ 8 % 2 ^ 128)) (east * 2 ^ 72 % 2 ^ 128) (8 * b + i) ∙ ap (λ z. z || on (east * 2 ^ 72 % 2 ^ 128) (8 * b + i)) (on_or (west / 2 ^ 56) (x * 2 ^ 8 % 2 ^ 128) (8 * b + i))
    ∙ by_byte b p
  where
    first : (a b d v : Bool) → a ≡ v → b ≡ false → d ≡ false → ((a || b) || d) ≡ v
    first a b d v e g h = grind (arith, nat_tests)

    second : (a b d v : Bool) → a ≡ false → b ≡ v → d ≡ false → ((a || b) || d) ≡ v
    second a b d v e g h = grind (arith, nat_tests)

    third : (a b d v : Bool) → a ≡ false → b ≡ false → d ≡ v → ((a || b) || d) ≡ v
    third a b d v e g h = grind (arith, nat_tests)

    no_left : (k : ℕ) → 8 ≤ k → on (west / 2 ^ 56) k ≡ false
    no_left k h = on_shr west 56 k ∙ on_above west 64 (56 + k) lb (omega arith)

    by_byte : (b : ℕ) → b < 10 → ((on (west / 2 ^ 56) (8 * b + i) || on (x * 2 ^ 8 % 2 ^ 128) (8 * b + i)) || on (east * 2 ^ 72 % 2 ^ 128) (8 * b + i)) ≡ f (8 * (j + 1) + b - 1) (4 * s + i - 1)
    by_byte zero p =
        first (on (west / 2 ^ 56) (8 * zero + i)) (on (x * 2 ^ 8 % 2 ^ 128) (8 * zero + i)) (on (east * 2 ^ 72 % 2 ^ 128) (8 * zero + i)) (f (8 * (j + 1) + zero - 1) (4 * s + i - 1))
        (on_shr_at west 56 (8 * 7 + i) (8 * zero + i) (omega arith) ∙ hl 7 i (omega arith) (omega arith) ∙ ap (λ g. g && f (8 * j + 7) (4 * s + i - 1)) (gathered_up i q) ∙ ap (λ c. f c (4 * s + i - 1)) (omega arith))
        (on_shl_low x 8 128 (8 * zero + i) (omega arith) (omega arith))
        (on_shl_low east 72 128 (8 * zero + i) (omega arith) (omega arith))
    by_byte (suc c) p = elim (cases_lt c 8) [
      | inl less ↦
          second (on (west / 2 ^ 56) (8 * suc c + i)) (on (x * 2 ^ 8 % 2 ^ 128) (8 * suc c + i)) (on (east * 2 ^ 72 % 2 ^ 128) (8 * suc c + i)) (f (8 * (j + 1) + suc c - 1) (4 * s + i - 1))
          (no_left (8 * suc c + i) (omega arith))
          (on_shl x 8 128 (8 * c + i) (8 * suc c + i) (omega arith) (omega arith) ∙ hx c i less (omega arith) ∙ ap (λ g. g && f (8 * (j + 1) + c) (4 * s + i - 1)) (gathered_up i q) ∙ ap (λ c. f c (4 * s + i - 1)) (omega arith))
          (on_shl_low east 72 128 (8 * suc c + i) (omega arith) (omega arith))
      | inr last ↦
          third (on (west / 2 ^ 56) (8 * suc c + i)) (on (x * 2 ^ 8 % 2 ^ 128) (8 * suc c + i)) (on (east * 2 ^ 72 % 2 ^ 128) (8 * suc c + i)) (f (8 * (j + 1) + suc c - 1) (4 * s + i - 1))
          (no_left (8 * suc c + i) (omega arith))
          (on_shl x 8 128 (64 + i) (8 * suc c + i) (omega arith) (omega arith) ∙ on_above x 64 (64 + i) xb (omega arith))
          (on_shl east 72 128 (8 * 0 + i) (8 * suc c + i) (omega arith) (omega arith) ∙ hr 0 i (omega arith) (omega arith) ∙ ap (λ g. g && f (8 * (j + 2) + 0) (4 * s + i - 1)) (gathered_up i q) ∙ ap (λ c. f c (4 * s + i - 1)) (omega arith))
    ]

pub neighbourhood_is : (x west east k : ℕ) → x < 2 ^ 64 → west < 2 ^ 64 → (f : Truths) (j s c i : ℕ) → Shows of_gathered f (j + 1) s x → Shows of_gathered f j s west → Shows of_gathered f (j + 2) s east
    → k ≡ 8 * c + i → c < 8 → 1 ≤ i → i < 5 → IsNeighbourhood f (8 * (j + 1) + c) (4 * s + i - 1) (joined x west east / 2 ^ (k - 1))
neighbourhood_is x west east k xb lb f j s c i hx hl hr e p i0 i1 a t q r =
    on_shr_at (joined x west east) (k - 1) (8 * (c + a) + (i - 1 + t)) (8 * a + t) (omega arith)
    ∙ joined_at f j s x west east (c + a) (i - 1 + t) xb lb hx hl hr (omega arith) (omega arith)
    ∙ ap (λ z. f z (4 * s + (i - 1 + t) - 1)) (omega arith) ∙ ap (f (8 * (j + 1) + c + a - 1)) (omega arith)
