-- What a place of a word sees around it, where it sees other words before it and behind it.
use Rattle.std.proofs.Common.{◌≡◌, ℕ, zero, suc, ◌+◌, ◌-◌, ◌*◌, ◌/◌, ◌%◌, ◌^◌, ◌<◌, ◌≤◌, false, get_or, [], ◌∷◌, sym, ap, ◌∙◌, subst, inl, inr, arith}
use Rattle.std.specs.Prelude.{◌&&◌, ◌||◌, nat_le}
use Rattle.std.specs.Int.RustNames.{bit_or}
use Rattle.std.proofs.lemmas.Bool.{cases_lt}
use Rattle.std.proofs.lemmas.Bool.Decides.{nat_tests}
use Rattle.jk_scan.specs.Bits.{on}
use Rattle.jk_scan.specs.Words.{Truths}
use Rattle.jk_scan.specs.WordPlaces.{row}
use Rattle.jk_scan.specs.Surroundings.{IsAround, Turns}
use Rattle.jk_scan.proofs.BitLaws.{on_or, on_above, on_shl_any, on_shr}
use Rattle.jk_scan.proofs.Beside.{at_place, right_moved, left_moved}

-- the columns left and right of a place, where it sees other words before and behind it
pub left_of_place : (own early left k c i : ℕ) → ((m : ℕ) → m < k → on own m ≡ on early m) → 8 * c ≤ k → c < 8 → i < 8
    → on (bit_or (early * 2 ^ 8 % 2 ^ 64) (left / 2 ^ 56)) (8 * c + i) ≡ on (bit_or (own * 2 ^ 8 % 2 ^ 64) (left / 2 ^ 56)) (8 * c + i)
left_of_place own early left k c i h le p q =
    on_or (early * 2 ^ 8 % 2 ^ 64) (left / 2 ^ 56) (8 * c + i) ∙ ap (λ b. b || on (left / 2 ^ 56) (8 * c + i)) (on_shl_any early 8 64 (8 * c + i) (omega arith) ∙ by c p le ∙ sym (on_shl_any own 8 64 (8 * c + i) (omega arith)))
    ∙ sym (on_or (own * 2 ^ 8 % 2 ^ 64) (left / 2 ^ 56) (8 * c + i))
  where
    by : (c : ℕ) → c < 8 → 8 * c ≤ k → (nat_le 8 (8 * c + i) && on early (8 * c + i - 8)) ≡ (nat_le 8 (8 * c + i) && on own (8 * c + i - 8))
    by zero p le = let e : nat_le 8 (8 * zero + i) ≡ false = grind (arith, nat_tests) in ap (λ b. b && on early (8 * zero + i - 8)) e ∙ sym (ap (λ b. b && on own (8 * zero + i - 8)) e)
    by (suc c) p le = ap (λ b. nat_le 8 (8 * suc c + i) && b) (sym (h (8 * suc c + i - 8) (omega arith)))

pub right_of_place : (own late right k c i : ℕ) → own < 2 ^ 64 → late < 2 ^ 64 → ((m : ℕ) → k ≤ m → m < 64 → on own m ≡ on late m) → k < 8 * c + 8 → i < 8
    → on (bit_or (late / 2 ^ 8) (right * 2 ^ 56 % 2 ^ 64)) (8 * c + i) ≡ on (bit_or (own / 2 ^ 8) (right * 2 ^ 56 % 2 ^ 64)) (8 * c + i)
right_of_place own late right k c i ob lb h le q =
    on_or (late / 2 ^ 8) (right * 2 ^ 56 % 2 ^ 64) (8 * c + i) ∙ ap (λ b. b || on (right * 2 ^ 56 % 2 ^ 64) (8 * c + i)) (on_shr late 8 (8 * c + i) ∙ alike ∙ sym (on_shr own 8 (8 * c + i)))
    ∙ sym (on_or (own / 2 ^ 8) (right * 2 ^ 56 % 2 ^ 64) (8 * c + i))
  where
    alike : on late (8 + (8 * c + i)) ≡ on own (8 + (8 * c + i))
    alike = elim (cases_lt (8 + (8 * c + i)) 64) [
      | inl less ↦ sym (h (8 + (8 * c + i)) (omega arith) less)
      | inr more ↦ on_above late 64 (8 + (8 * c + i)) lb more ∙ sym (on_above own 64 (8 + (8 * c + i)) ob more)
    ]

-- what a place sees in three columns of words
pub record Beheld (f : Truths) (j s early late left right c row : ℕ) : Type 0 where
  pub west : (t : ℕ) → t < 3 → on (bit_or (early * 2 ^ 8 % 2 ^ 64) (left / 2 ^ 56)) (8 * c + (row + t)) ≡ f (8 * (j + 1) + c + 0 - 1) (4 * (s + 1) + (row + 1) - 1 + t - 1)
  pub above : on early (8 * c + row) ≡ f (8 * (j + 1) + c + 1 - 1) (4 * (s + 1) + (row + 1) - 1 + 0 - 1)
  pub below : on late (8 * c + (row + 2)) ≡ f (8 * (j + 1) + c + 1 - 1) (4 * (s + 1) + (row + 1) - 1 + 2 - 1)
  pub east : (t : ℕ) → t < 3 → on (bit_or (late / 2 ^ 8) (right * 2 ^ 56 % 2 ^ 64)) (8 * c + (row + t)) ≡ f (8 * (j + 1) + c + 2 - 1) (4 * (s + 1) + (row + 1) - 1 + t - 1)

pub beheld : (f : Truths) (j s own early late left right c row : ℕ) → own < 2 ^ 64 → late < 2 ^ 64 → left < 2 ^ 64 → right < 2 ^ 64 → c < 8 → row < 4 → Turns own early late (8 * c + (row + 1))
    → IsAround f j s (record { centre = own; west = left; east = right }) → Beheld f j s early late left right c row
beheld f j s own early late left right c row ob tb lb rb p q turns h = record {
  west = λ t l.
      left_of_place own early left (8 * c + (row + 1)) c (row + t) turns.before (omega arith) p (omega arith)
      ∙ right_moved own left ob lb f j (s + 1) c (row + t) h.centre h.west p (omega arith) ∙ at (8 * (j + 1) + c - 1) (8 * (j + 1) + c + 0 - 1) (4 * (s + 1) + (row + t) - 1) (4 * (s + 1) + (row + 1) - 1 + t - 1) (omega arith) (omega arith);
  above = sym (turns.before (8 * c + row) (omega arith)) ∙ at_place f (j + 1) (s + 1) own c row (8 * (j + 1) + c + 1 - 1) (4 * (s + 1) + (row + 1) - 1 + 0 - 1) h.centre p (omega arith) (omega arith) (omega arith);
  below = sym (turns.behind (8 * c + (row + 2)) (omega arith) (omega arith)) ∙ at_place f (j + 1) (s + 1) own c (row + 2) (8 * (j + 1) + c + 1 - 1) (4 * (s + 1) + (row + 1) - 1 + 2 - 1) h.centre p (omega arith) (omega arith) (omega arith);
  east = λ t l.
      right_of_place own late right (8 * c + (row + 1)) c (row + t) ob tb turns.behind (omega arith) (omega arith)
      ∙ left_moved own right ob rb f j (s + 1) c (row + t) h.centre h.east p (omega arith) ∙ at (8 * (j + 1) + c + 1) (8 * (j + 1) + c + 2 - 1) (4 * (s + 1) + (row + t) - 1) (4 * (s + 1) + (row + 1) - 1 + t - 1) (omega arith) (omega arith);
}
  where
    at : (x x' y y' : ℕ) → x ≡ x' → y ≡ y' → f x y ≡ f x' y'
    at x x' y y' e g = cc

-- four rows
pub four_rows : (P : (r word : ℕ) → Type 0) (w0 w1 w2 w3 : ℕ) → P 0 w0 → P 1 w1 → P 2 w2 → P 3 w3 → (r : ℕ) → r < 4 → P r (get_or (w0 ∷ w1 ∷ w2 ∷ w3 ∷ []) r 0)
four_rows P w0 w1 w2 w3 a b d e zero h = a
four_rows P w0 w1 w2 w3 a b d e (suc zero) h = b
four_rows P w0 w1 w2 w3 a b d e (suc (suc zero)) h = d
four_rows P w0 w1 w2 w3 a b d e (suc (suc (suc zero))) h = e
four_rows P w0 w1 w2 w3 a b d e (suc (suc (suc (suc r)))) h = absurd (omega arith)

pub behold : (f : Truths) (j s own early late left right r k : ℕ) → own < 2 ^ 64 → late < 2 ^ 64 → left < 2 ^ 64 → right < 2 ^ 64 → k < 64 → r < 4 → k % 8 ≡ r + 1 → Turns own early late k
    → IsAround f j s (record { centre = own; west = left; east = right }) → Beheld f j s early late left right (k / 8) r
behold f j s own early late left right r k ob tb lb rb within few e turns h =
    beheld f j s own early late left right (k / 8) r ob tb lb rb (omega arith) few (subst (λ k. Turns own early late k) (let g : k ≡ 8 * (k / 8) + (r + 1) = omega (arith, e) in g) turns) h
