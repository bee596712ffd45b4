-- Columns in which nothing is significant, nor around them.
use Rattle.std.proofs.Common.{◌≡◌, ℕ, ◌+◌, ◌-◌, ◌*◌, ◌/◌, ◌%◌, ◌^◌, ◌<◌, Bool, true, false, not, refl, sym, ap, ◌∙◌, arith}
use Rattle.std.specs.Int.RustNames.{bit_or, bit_and}
use Rattle.std.specs.Prelude.{◌&&◌, ◌||◌, nat_eq, nat_lt}
use Rattle.std.proofs.lemmas.Bool.Decides.{nat_tests}
use Rattle.jk_scan.specs.Bits.{on}
use Rattle.jk_scan.specs.Words.{Truths, of_rows, of_gathered, Shows, IsLine, aside, any_of_six, in_six, IsNarrow}
use Rattle.jk_scan.specs.Surroundings.{IsAround, Turns}
use Rattle.jk_scan.proofs.BitLaws.{on_or, on_and}
use Rattle.jk_scan.proofs.Beside.{at_place, right_moved, left_moved}
use Rattle.jk_scan.proofs.Beheld.{left_of_place, right_of_place}
use Rattle.jk_scan.proofs.Patterns.{all_below, same, patterned, pattern_at}
use Rattle.jk_scan.proofs.Neighbours.{line_shown}

sixes : (c i : ℕ) → c < 8 → i < 8 → on 0x3F3F_3F3F_3F3F_3F3F (8 * c + i) ≡ nat_lt i 6
unfolding patterned all_below same on
sixes = pattern_at 0x3F3F_3F3F_3F3F_3F3F (λ i. nat_lt i 6) refl

masked : (d c i : ℕ) → c < 8 → i < 8 → on (bit_and d 0x3F3F_3F3F_3F3F_3F3F) (8 * c + i) ≡ (on d (8 * c + i) && nat_lt i 6)
masked d c i p q = on_and d 0x3F3F_3F3F_3F3F_3F3F (8 * c + i) ∙ ap (λ b. on d (8 * c + i) && b) (sixes c i p q)

pub narrowed : (d : ℕ) → IsNarrow (bit_and d 0x3F3F_3F3F_3F3F_3F3F)
narrowed d c i p l q = masked d c i p q ∙ none (on d (8 * c + i))
  where
    none : (b : Bool) → (b && nat_lt i 6) ≡ false
    none b = grind (arith, nat_tests)

-- six rows of a column, and the rows beside
pub still_by : (f m : Truths) (j s c i w quiet inside : ℕ) → c < 8 → i < 8 → Shows of_rows m (j + 1) (s + 1) inside → ((r : ℕ) → r < 6 → on w (8 * c + r) ≡ aside f (8 * (j + 1) + c) (4 * (s + 1) + r - 1))
    → on quiet (8 * c + i) ≡ (nat_eq i 1 && not (any_of_six w c))
    → on (bit_and quiet inside) (8 * c + i) ≡ (nat_eq i 1 && (m (8 * (j + 1) + c) (4 * (s + 1)) && not (in_six (aside f) (8 * (j + 1) + c) (s + 1))))
still_by f m j s c i w quiet inside p q hi row hq =
    on_and quiet inside (8 * c + i) ∙ ap (λ b. b && on inside (8 * c + i)) hq
    ∙ gate (nat_eq i 1) (any_of_six w c) (in_six (aside f) (8 * (j + 1) + c) (s + 1)) (on inside (8 * c + i)) (m (8 * (j + 1) + c) (4 * (s + 1)))
    (six (row 0 (omega arith)) (row 1 (omega arith)) (row 2 (omega arith)) (row 3 (omega arith)) (row 4 (omega arith)) (row 5 (omega arith)))
    (λ e. let one : i ≡ 1 = grind (arith, nat_tests) in hi c i p q ∙ first i one)
  where
    first : (i : ℕ) → i ≡ 1 → (of_rows i && m (8 * (j + 1) + c) (4 * (s + 1) + i - 1)) ≡ m (8 * (j + 1) + c) (4 * (s + 1))
    first i e = ap (λ k. of_rows k && m (8 * (j + 1) + c) (4 * (s + 1) + k - 1)) e ∙ ap (m (8 * (j + 1) + c)) (omega arith)

    six : {a b d e g h a' b' d' e' g' h' : Bool} → a ≡ a' → b ≡ b' → d ≡ d' → e ≡ e' → g ≡ g' → h ≡ h' → (a || (b || (d || (e || (g || h))))) ≡ (a' || (b' || (d' || (e' || (g' || h')))))
    six i j k l m n = cc

    gate : (one any any' inside m : Bool) → any ≡ any' → (one ≡ true → inside ≡ m) → ((one && not any) && inside) ≡ (one && (m && not any'))
    gate true any any' inside m e g = let g0 = g refl in grind (arith, nat_tests)
    gate false any any' inside m e g = refl

pub still_at : (f m : Truths) (j s x left right d quiet inside : ℕ)
    → ((h : ℕ → Bool) (j i : ℕ) → i < 8 → IsLine h i (j + 1) x → IsLine h i j left → IsLine h i (j + 2) right → (c : ℕ) → c < 8 → on d (8 * c + i) ≡ ((h (8 * (j + 1) + c) || h (8 * (j + 1) + c - 1)) || h (8 * (j + 1) + c + 1)))
    → Shows of_gathered f (j + 1) (s + 1) x → Shows of_gathered f j (s + 1) left → Shows of_gathered f (j + 2) (s + 1) right → Shows of_rows m (j + 1) (s + 1) inside
    → ((c i : ℕ) → c < 8 → i < 8 → on quiet (8 * c + i) ≡ (nat_eq i 1 && not (any_of_six (bit_and d 0x3F3F_3F3F_3F3F_3F3F) c)))
    → (c i : ℕ) → c < 8 → i < 8 → on (bit_and quiet inside) (8 * c + i) ≡ (nat_eq i 1 && (m (8 * (j + 1) + c) (4 * (s + 1)) && not (in_six (aside f) (8 * (j + 1) + c) (s + 1))))
still_at f m j s x left right d quiet inside lines hx hl hr hi hq c i p q = still_by f m j s c i (bit_and d 0x3F3F_3F3F_3F3F_3F3F) quiet inside p q hi row (hq c i p q)
  where
    row : (r : ℕ) → r < 6 → on (bit_and d 0x3F3F_3F3F_3F3F_3F3F) (8 * c + r) ≡ aside f (8 * (j + 1) + c) (4 * (s + 1) + r - 1)
    row r l =
        masked d c r p (omega arith)
        ∙ ap (λ b. b && nat_lt r 6) (lines (λ x. of_gathered r && f x (4 * (s + 1) + r - 1)) j r (omega arith)
        (line_shown of_gathered f (j + 1) (s + 1) r x (omega arith) hx) (line_shown of_gathered f j (s + 1) r left (omega arith) hl) (line_shown of_gathered f (j + 2) (s + 1) r right (omega arith) hr) c p)
        ∙ opened (f (8 * (j + 1) + c) (4 * (s + 1) + r - 1)) (f (8 * (j + 1) + c - 1) (4 * (s + 1) + r - 1)) (f (8 * (j + 1) + c + 1) (4 * (s + 1) + r - 1))
      where
        opened : (a b e : Bool) → ((((nat_lt r 6 && a) || (nat_lt r 6 && b)) || (nat_lt r 6 && e)) && nat_lt r 6) ≡ ((a || b) || e)
        opened a b e = grind (arith, nat_tests)

-- the same, each column in its turn
pub still_in_turn : (f m : Truths) (j s own early late left right quiet inside c i : ℕ) → late < 2 ^ 64 → left < 2 ^ 64 → right < 2 ^ 64
    → (let d = bit_and (bit_or (bit_or (bit_or (early * 2 ^ 8 % 2 ^ 64) (left / 2 ^ 56)) late) (bit_or (late / 2 ^ 8) (right * 2 ^ 56 % 2 ^ 64))) 0x3F3F_3F3F_3F3F_3F3F in
    (c i : ℕ) → c < 8 → i < 8 → on quiet (8 * c + i) ≡ (nat_eq i 1 && not (any_of_six d c)))
    → c < 8 → i < 8 → own < 2 ^ 64 → Turns own early late (8 * c) → IsAround f j s (record { centre = own; west = left; east = right }) → Shows of_rows m (j + 1) (s + 1) inside
    → on (bit_and quiet inside) (8 * c + i) ≡ (nat_eq i 1 && (m (8 * (j + 1) + c) (4 * (s + 1)) && not (in_six (aside f) (8 * (j + 1) + c) (s + 1))))
still_in_turn f m j s own early late left right quiet inside c i tb lb rb hq p q ob turns h hi =
    still_by f m j s c i (bit_and (bit_or (bit_or west late) east) 0x3F3F_3F3F_3F3F_3F3F) quiet inside p q hi row (hq c i p q)
  where
    west : ℕ
    west = bit_or (early * 2 ^ 8 % 2 ^ 64) (left / 2 ^ 56)

    east : ℕ
    east = bit_or (late / 2 ^ 8) (right * 2 ^ 56 % 2 ^ 64)

    row : (r : ℕ) → r < 6 → on (bit_and (bit_or (bit_or west late) east) 0x3F3F_3F3F_3F3F_3F3F) (8 * c + r) ≡ aside f (8 * (j + 1) + c) (4 * (s + 1) + r - 1)
    row r l =
        masked (bit_or (bit_or west late) east) c r p (omega arith)
        ∙ three (on_or (bit_or west late) east (8 * c + r) ∙ ap (λ b. b || on east (8 * c + r)) (on_or west late (8 * c + r)))
        (left_of_place own early left (8 * c) c r turns.before (omega arith) p (omega arith) ∙ right_moved own left ob lb f j (s + 1) c r h.centre h.west p l)
        (sym (turns.behind (8 * c + r) (omega arith) (omega arith)) ∙ at_place f (j + 1) (s + 1) own c r (8 * (j + 1) + c) (4 * (s + 1) + r - 1) h.centre p l (omega arith) (omega arith))
        (right_of_place own late right (8 * c) c r ob tb turns.behind (omega arith) (omega arith) ∙ left_moved own right ob rb f j (s + 1) c r h.centre h.east p l)
      where
        three : {a w o e w' o' e' : Bool} → a ≡ ((w || o) || e) → w ≡ w' → o ≡ o' → e ≡ e' → (a && nat_lt r 6) ≡ ((o' || w') || e')
        three {a} {w} {o} {e} {w'} {o'} {e'} g h i k = ap (λ a. a && nat_lt r 6) (g ∙ same h i k) ∙ turned w' o' e'
          where
            same : {w o e w' o' e' : Bool} → w ≡ w' → o ≡ o' → e ≡ e' → ((w || o) || e) ≡ ((w' || o') || e')
            same h i k = cc

            turned : (w o e : Bool) → (((w || o) || e) && nat_lt r 6) ≡ ((o || w) || e)
            turned w o e = grind (arith, nat_tests)
