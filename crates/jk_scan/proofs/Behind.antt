-- Quiet columns behind a new place.
use Rattle.std.proofs.Common.{◌≡◌, ℕ, ◌+◌, ◌-◌, ◌*◌, ◌/◌, ◌%◌, ◌^◌, ◌<◌, ◌≤◌, Bool, true, false, not, refl, ap, ◌∙◌, arith}
use Rattle.std.specs.Int.{bit_not, w64}
use Rattle.std.specs.Int.RustNames.{bit_and}
use Rattle.std.specs.Prelude.{◌&&◌, ◌||◌, nat_eq, nat_le}
use Rattle.std.proofs.lemmas.Nat.{pow_pos}
use Rattle.std.proofs.Math.Nat.{mod-lt}
use Rattle.std.proofs.lemmas.Bool.Decides.{nat_tests}
use Rattle.jk_scan.specs.Bits.{on}
use Rattle.jk_scan.specs.Words.{Truths, of_rows, aside, in_six, IsQuietFrom}
use Rattle.jk_scan.specs.WordPlaces.{column, row, also}
use Rattle.jk_scan.proofs.BitLaws.{on_and, on_not, on_shl_any}
use Rattle.jk_scan.proofs.Patterns.{all_below, all_at}
use Rattle.jk_scan.proofs.Adding.{rows_between}

one : (c r : ℕ) → Truths
one c r c' r' = nat_eq c' c && nat_eq r' r

three : (a b d a' b' d' : Bool) → (((a || a') || (b || b')) || (d || d')) ≡ (((a || b) || d) || ((a' || b') || d'))
three a b d a' b' d' = grind (arith, nat_tests)

aside-also : (f : Truths) (c r x y : ℕ) → aside (also f c r) x y ≡ (aside f x y || aside (one c r) x y)
unfolding one
aside-also f c r x y = three (f x y) (f (x - 1) y) (f (x + 1) y) (one c r x y) (one c r (x - 1) y) (one c r (x + 1) y)

-- to the right of the place
right_of : (c r x y : ℕ) → c < x → aside (one c r) x y ≡ (nat_eq x (c + 1) && nat_eq y r)
unfolding one
right_of c r x y h = parts (nat_eq x c) (nat_eq (x - 1) c) (nat_eq (x + 1) c) (nat_eq y r) (nat_eq x (c + 1)) (grind (arith, nat_tests)) (grind (arith, nat_tests)) (grind (arith, nat_tests))
  where
    parts : (a b d e g : Bool) → a ≡ false → b ≡ g → d ≡ false → (((a && e) || (b && e)) || (d && e)) ≡ (g && e)
    parts a b d e g h k l = grind (arith, nat_tests)

-- the six rows of a column to the right
six_after : (f : Truths) (c q s x : ℕ) → 1 ≤ q → q < 5 → c < x → in_six (aside (also f c (4 * (s + 1) + q - 1))) x (s + 1) ≡ (in_six (aside f) x (s + 1) || nat_eq x (c + 1))
six_after f c q s x q0 q1 h =
    joined (nat_eq x (c + 1)) (λ i. aside (also f c (4 * (s + 1) + q - 1)) x (4 * (s + 1) + i - 1)) (λ i. aside f x (4 * (s + 1) + i - 1)) (λ i. nat_eq (4 * (s + 1) + i - 1) (4 * (s + 1) + q - 1)) at some
  where
    at : (i : ℕ) → aside (also f c (4 * (s + 1) + q - 1)) x (4 * (s + 1) + i - 1) ≡ (aside f x (4 * (s + 1) + i - 1) || (nat_eq x (c + 1) && nat_eq (4 * (s + 1) + i - 1) (4 * (s + 1) + q - 1)))
    at i =
        aside-also f c (4 * (s + 1) + q - 1) x (4 * (s + 1) + i - 1)
        ∙ ap (λ b. aside f x (4 * (s + 1) + i - 1) || b) (right_of c (4 * (s + 1) + q - 1) x (4 * (s + 1) + i - 1) h)

    some : (nat_eq (4 * (s + 1) + 1 - 1) (4 * (s + 1) + q - 1) || (nat_eq (4 * (s + 1) + 2 - 1) (4 * (s + 1) + q - 1) || (nat_eq (4 * (s + 1) + 3 - 1) (4 * (s + 1) + q - 1) || nat_eq (4 * (s + 1) + 4 - 1) (4 * (s + 1) + q - 1)))) ≡ true
    some = grind (arith, nat_tests)

    six : (e a0 a1 a2 a3 a4 a5 b0 b1 b2 b3 b4 b5 t0 t1 t2 t3 t4 t5 : Bool) → a0 ≡ (b0 || (e && t0)) → a1 ≡ (b1 || (e && t1)) → a2 ≡ (b2 || (e && t2)) → a3 ≡ (b3 || (e && t3)) → a4 ≡ (b4 || (e && t4))
        → a5 ≡ (b5 || (e && t5)) → (t1 || (t2 || (t3 || t4))) ≡ true → (a0 || (a1 || (a2 || (a3 || (a4 || a5))))) ≡ ((b0 || (b1 || (b2 || (b3 || (b4 || b5))))) || e)
    six true a0 a1 a2 a3 a4 a5 b0 b1 b2 b3 b4 b5 t0 t1 t2 t3 t4 t5 h0 h1 h2 h3 h4 h5 k = grind (arith, nat_tests)
    six false a0 a1 a2 a3 a4 a5 b0 b1 b2 b3 b4 b5 t0 t1 t2 t3 t4 t5 h0 h1 h2 h3 h4 h5 k = grind (arith, nat_tests)

    joined : (e : Bool) (a b t : ℕ → Bool) → ((i : ℕ) → a i ≡ (b i || (e && t i))) → (t 1 || (t 2 || (t 3 || t 4))) ≡ true
        → (a 0 || (a 1 || (a 2 || (a 3 || (a 4 || a 5))))) ≡ ((b 0 || (b 1 || (b 2 || (b 3 || (b 4 || b 5))))) || e)
    joined e a b t h k =
        six e (a 0) (a 1) (a 2) (a 3) (a 4) (a 5) (b 0) (b 1) (b 2) (b 3) (b 4) (b 5) (t 0) (t 1) (t 2) (t 3) (t 4) (t 5) (h 0) (h 1) (h 2) (h 3) (h 4) (h 5) k

first_bit : (k : ℕ) → k < 64 → bit_and k 0x38 ≡ 8 * (k / 8)
unfolding all_below
first_bit k h = let t = all_at 64 (λ k. nat_eq (bit_and k 0x38) (8 * (k / 8))) refl k h in grind (arith, nat_tests)

on_200 : (d : ℕ) → d < 64 → on 0x200 d ≡ nat_eq d 9
unfolding on all_below
on_200 d h = by_test (on 0x200 d) (nat_eq d 9) (all_at 64 (λ d. (on 0x200 d && nat_eq d 9) || (not (on 0x200 d) && not (nat_eq d 9))) refl d h)
  where
    by_test : (a b : Bool) → ((a && b) || (not a && not b)) ≡ true → a ≡ b
    by_test true b e = grind (arith, nat_tests)
    by_test false b e = grind (arith, nat_tests)

pub behind : (limits : ℕ → Bool) (f : Truths) (j s quiet k : ℕ) → k < 64 → of_rows (k % 8) ≡ true → IsQuietFrom limits f (j + 1) (s + 1) (k / 8 + 1) quiet
    → IsQuietFrom limits (also f (column (j + 1) k) (row (s + 1) k)) (j + 1) (s + 1) (k / 8 + 1) (bit_and quiet (bit_not w64 (0x200 * 2 ^ bit_and k 0x38 % 2 ^ 64)))
behind limits f j s quiet k lim on_row h c from l =
    let between = rows_between (k % 8) on_row in
    let m = 0x200 * 2 ^ bit_and k 0x38 % 2 ^ 64 in
    let cleared : on m (8 * c + 1) ≡ nat_eq (8 * c + 1) (8 * (k / 8) + 9) =
    on_shl_any 0x200 (bit_and k 0x38) 64 (8 * c + 1) (omega arith) ∙ ap (λ z. nat_le z (8 * c + 1) && on 0x200 (8 * c + 1 - z)) (first_bit k lim)
    ∙ ap (λ b. nat_le (8 * (k / 8)) (8 * c + 1) && b) (on_200 (8 * c + 1 - 8 * (k / 8)) (omega arith)) ∙ (let e : (nat_le (8 * (k / 8)) (8 * c + 1) && nat_eq (8 * c + 1 - 8 * (k / 8)) 9) ≡ nat_eq (8 * c + 1) (8 * (k / 8) + 9) = grind (arith, nat_tests) in e) in
    on_and quiet (bit_not w64 m) (8 * c + 1)
    ∙ gate (on quiet (8 * c + 1)) (on m (8 * c + 1)) (on (bit_not w64 m) (8 * c + 1)) (nat_eq (8 * c + 1) (8 * (k / 8) + 9)) (nat_eq (8 * (j + 1) + c) (column (j + 1) k + 1)) (limits c)
    (in_six (aside f) (8 * (j + 1) + c) (s + 1)) (in_six (aside (also f (column (j + 1) k) (row (s + 1) k))) (8 * (j + 1) + c) (s + 1))
    (h c from l) (on_not w64 m (8 * c + 1) (mod-lt (0x200 * 2 ^ bit_and k 0x38) (pow_pos 64)) (omega arith)) cleared (grind (arith, nat_tests))
    (six_after f (column (j + 1) k) (k % 8) s (8 * (j + 1) + c) between.0 between.1 (omega (arith, from)))
  where
    gate : (q m n e e' g a a' : Bool) → q ≡ (g && not a) → n ≡ not m → m ≡ e → e ≡ e' → a' ≡ (a || e') → (q && n) ≡ (g && not a')
    gate q m n e e' g a a' h k l o p = grind (arith, nat_tests)

pub behind_fewer : (quiet m i : ℕ) → on quiet i ≡ false → on (bit_and quiet m) i ≡ false
behind_fewer quiet m i h = on_and quiet m i ∙ ap (λ b. b && on m i) h
