-- A bit written into the words of a block.
use Rattle.std.proofs.Common.{◌≡◌, ℕ, ◌+◌, ◌-◌, ◌*◌, ◌/◌, ◌%◌, ◌^◌, ◌<◌, ◌≤◌, Bool, true, false, not, cond, List, length, get_or, set, replicate, refl, sym, ap, ◌∙◌, inl, inr, arith}
use Rattle.std.specs.Prelude.{◌&&◌, ◌||◌, nat_eq, nat_le}
use Rattle.std.specs.Int.{bit_not, w64}
use Rattle.std.specs.Int.RustNames.{bit_or, bit_and}
use Rattle.std.proofs.lemmas.Bool.{and_parts, cases_lt}
use Rattle.std.proofs.lemmas.Bool.Decides.{nat_tests}
use Rattle.std.proofs.lemmas.Nat.{pow_pos}
use Rattle.std.proofs.Math.Nat.{mod-lt}
use Rattle.std.proofs.lemmas.List.{get_or-replicate, get_or_past, get_or-set_same, get_or-set_other, length-replicate}
use Rattle.jk_scan.specs.declared.shape.BlockShape.{BlockShape}
use Rattle.jk_scan.specs.Bits.{on}
use Rattle.jk_scan.specs.Neighbours.{is_inside}
use Rattle.jk_scan.specs.Moments.{stripes}
use Rattle.jk_scan.specs.Words.{Truths, of_rows}
use Rattle.jk_scan.specs.WordPlaces.{column, row}
use Rattle.jk_scan.specs.Flags.{IsSized, IsDrawn, across, word_at, flag_at}
use Rattle.jk_scan.proofs.BitLaws.{on_or, on_and, on_not, on_zero, on_set, on_one, on_shl_any}
use Rattle.jk_scan.proofs.Adding.{rows_between}
use Rattle.jk_scan.proofs.Numbers.{inside_parts}
use Rattle.jk_scan.proofs.Geometry.{word_fits, one_word}

-- a word with another bit at one place
abbrev pub IsPut : (word new k : ℕ) → Bool → Type 0
IsPut word new k bit = (i : ℕ) → i < 64 → on new i ≡ cond (nat_eq i k) bit (on word i)

pub put_one : (word k : ℕ) → IsPut word (bit_or word (1 * 2 ^ k % 2 ^ 64)) k true
put_one word k i h = on_set word k 64 i h ∙ turned (on word i) (nat_eq i k)
  where
    turned : (a e : Bool) → (a || e) ≡ cond e true a
    turned a e = grind (arith, nat_tests)

digit : Bool → ℕ
digit b = cond b 1 0

on_digit : (b : Bool) (k : ℕ) → on (digit b) k ≡ (b && nat_eq k 0)
unfolding digit
on_digit true k = on_one k
on_digit false k = on_zero k

-- the bit taken out, and put in again
pub put_bit : (word k : ℕ) (bit : Bool) → k < 64 → IsPut word (bit_or (bit_and word (bit_not w64 (1 * 2 ^ k % 2 ^ 64))) (cond bit 1 0 * 2 ^ k % 2 ^ 64)) k bit
unfolding digit
put_bit word k bit l i h =
    on_or (bit_and word (bit_not w64 (1 * 2 ^ k % 2 ^ 64))) (digit bit * 2 ^ k % 2 ^ 64) i
    ∙ gate (on (bit_and word (bit_not w64 (1 * 2 ^ k % 2 ^ 64))) i) (on (digit bit * 2 ^ k % 2 ^ 64) i) (on word i)
    (on_and word (bit_not w64 (1 * 2 ^ k % 2 ^ 64)) i ∙ ap (λ b. on word i && b) (on_not w64 (1 * 2 ^ k % 2 ^ 64) i (mod-lt (1 * 2 ^ k) (pow_pos 64)) h ∙ ap not (on_shl_any 1 k 64 i h ∙ ap (λ b. nat_le k i && b) (on_one (i - k)))))
    (on_shl_any (digit bit) k 64 i h ∙ ap (λ b. nat_le k i && b) (on_digit bit (i - k)))
  where
    gate : (a b w : Bool) → a ≡ (w && not (nat_le k i && nat_eq (i - k) 0)) → b ≡ (nat_le k i && (bit && nat_eq (i - k) 0)) → (a || b) ≡ cond (nat_eq i k) bit w
    gate a b w e g = grind (arith, nat_tests)

-- a field with another value at one place
abbrev pub with_place : Truths → (x y : ℕ) → Bool → Truths
with_place f x y bit x' y' = cond (nat_eq x' x && nat_eq y' y) bit (f x' y')

pub drawn_same : (s : BlockShape) (f g : Truths) (words : List ℕ) → ((x y : ℕ) → f x y ≡ g x y) → IsDrawn s f words → IsDrawn s g words
drawn_same s f g words e h j i hj hi c b p q =
    h j i hj hi c b p q ∙ ap (λ v. of_rows b && (nat_le 8 (8 * j + c) && (nat_le 4 (4 * i + b - 1) && v))) (e (8 * j + c - 8) (4 * i + b - 1 - 4))

none_at : (n k d : ℕ) → get_or (replicate n d) k d ≡ d
none_at n k d = elim (cases_lt k n) [ inl less ↦ get_or-replicate n k d d less | inr past ↦ get_or_past (replicate n d) k d (let l = length-replicate n d in omega (arith, l)) ]

pub drawn_none : (s : BlockShape) (f : Truths) (n : ℕ) → ((x y : ℕ) → f x y ≡ false) → IsDrawn s f (replicate n 0)
drawn_none s f n e j i hj hi c b p q =
    ap (λ w. on w (8 * c + b)) (none_at n (word_at s j i) 0) ∙ on_zero (8 * c + b)
    ∙ sym (gate (of_rows b) (nat_le 8 (8 * j + c)) (nat_le 4 (4 * i + b - 1)) (f (8 * j + c - 8) (4 * i + b - 1 - 4)) (e (8 * j + c - 8) (4 * i + b - 1 - 4)))
  where
    gate : (a b d v : Bool) → v ≡ false → (a && (b && (d && v))) ≡ false
    gate a b d v h = grind (arith, nat_tests)

pub flag_none : (s : BlockShape) (n x y : ℕ) → flag_at s (replicate n 0) x y ≡ false
flag_none s n x y = ap (λ w. on w (8 * (x % 8) + (y % 4 + 1))) (none_at n (word_at s (x / 8 + 1) (y / 4 + 1)) 0) ∙ on_zero (8 * (x % 8) + (y % 4 + 1))

-- the words are one, or not
one_or : {R : Type 0} (j i j' i' : ℕ) → (j ≡ j' → i ≡ i' → R) → ((nat_eq j j' && nat_eq i i') ≡ false → R) → R
one_or {R} j i j' i' f g = by (nat_eq j j' && nat_eq i i') refl
  where
    by : (b : Bool) → (nat_eq j j' && nat_eq i i') ≡ b → R
    by true e = let p = and_parts (nat_eq j j') (nat_eq i i') e in let p0 = p.0 in let p1 = p.1 in f (grind (arith, nat_tests)) (grind (arith, nat_tests))
    by false e = g e

other_word : (s : BlockShape) (words : List ℕ) (j i j' i' new : ℕ) → j < across s + 2 → j' < across s + 2 → (nat_eq j' j && nat_eq i' i) ≡ false → get_or (set words (word_at s j i) new) (word_at s j' i') 0 ≡ get_or words (word_at s j' i') 0
other_word s words j i j' i' new h h' apart =
    get_or-set_other words (word_at s j i) (word_at s j' i') new 0
    (λ e. let o = one_word s j' i' j i h' h e in let o0 = o.0 in let o1 = o.1 in let both : (nat_eq j' j && nat_eq i' i) ≡ true = grind (arith, nat_tests) in let c : true ≡ false = sym both ∙ apart in absurd cc)

pub drawn_put : (s : BlockShape) (f : Truths) (words : List ℕ) (j i k new : ℕ) (bit : Bool) → IsSized s → 774 ≤ length words → j < across s → i < stripes s → k < 64 → of_rows (k % 8) ≡ true
    → IsDrawn s f words → IsPut (get_or words (word_at s (j + 1) (i + 1)) 0) new k bit → IsDrawn s (with_place f (column j k) (row i k) bit) (set words (word_at s (j + 1) (i + 1)) new)
drawn_put s f words j i k new bit z len hj hi lim on_row h put j' i' hj' hi' c b p q =
    let between = rows_between (k % 8) on_row in
    one_or j' i' (j + 1) (i + 1)
    (λ ej ei. let at : word_at s j' i' ≡ word_at s (j + 1) (i + 1) = ap (λ j. word_at s j i') ej ∙ ap (word_at s (j + 1)) ei in
    ap (λ n. on (get_or (set words (word_at s (j + 1) (i + 1)) new) n 0) (8 * c + b)) at
    ∙ ap (λ n. on n (8 * c + b)) (get_or-set_same words (word_at s (j + 1) (i + 1)) new 0 (let f = word_fits s (j + 1) (i + 1) z (omega arith) (omega arith) in omega (arith, f)))
    ∙ put (8 * c + b) (omega arith)
    ∙ ap (λ v. cond (nat_eq (8 * c + b) k) bit v) (ap (λ n. on (get_or words n 0) (8 * c + b)) (sym at) ∙ h j' i' hj' hi' c b p q)
    ∙ here (of_rows b) (nat_le 8 (8 * j' + c)) (nat_le 4 (4 * i' + b - 1)) (f (8 * j' + c - 8) (4 * i' + b - 1 - 4)) (nat_eq (8 * c + b) k) (nat_eq (8 * j' + c - 8) (column j k) && nat_eq (4 * i' + b - 1 - 4) (row i k))
    (λ e. grind (arith, nat_tests, on_row))
    (grind (arith, nat_tests))
    (λ r. let rb = rows_between b r in grind (arith, nat_tests, rb))
    (λ r. let rb = rows_between b r in grind (arith, nat_tests, rb, between)))
    (λ apart. ap (λ n. on n (8 * c + b)) (other_word s words (j + 1) (i + 1) j' i' new (omega arith) hj' apart) ∙ h j' i' hj' hi' c b p q
    ∙ away (of_rows b) (nat_le 8 (8 * j' + c)) (nat_le 4 (4 * i' + b - 1)) (f (8 * j' + c - 8) (4 * i' + b - 1 - 4)) (nat_eq (8 * j' + c - 8) (column j k) && nat_eq (4 * i' + b - 1 - 4) (row i k))
    (λ r e g. let rb = rows_between b r in not_here rb.0 rb.1 between.0 between.1 e g apart))
  where
    not_here : 1 ≤ b → b < 5 → 1 ≤ k % 8 → k % 8 < 5 → nat_le 8 (8 * j' + c) ≡ true → nat_le 4 (4 * i' + b - 1) ≡ true → (nat_eq j' (j + 1) && nat_eq i' (i + 1)) ≡ false → (nat_eq (8 * j' + c - 8) (8 * j + k / 8) && nat_eq (4 * i' + b - 1 - 4) (4 * i + k % 8 - 1)) ≡ false
    not_here b0 b1 k0 k1 e g apart = grind (arith, nat_tests)

    here : (r e4 e8 v at place : Bool) → (at ≡ true → r ≡ true) → e4 ≡ true → (r ≡ true → e8 ≡ true) → (r ≡ true → at ≡ place) → cond at bit (r && (e4 && (e8 && v))) ≡ (r && (e4 && (e8 && cond place bit v)))
    here true e4 e8 v at place a b d g = let d0 = d refl in let g0 = g refl in grind (arith, nat_tests)
    here false e4 e8 v true place a b d g = let a0 = a refl in absurd cc
    here false e4 e8 v false place a b d g = refl

    away : (r e4 e8 v place : Bool) → (r ≡ true → e4 ≡ true → e8 ≡ true → place ≡ false) → (r && (e4 && (e8 && v))) ≡ (r && (e4 && (e8 && cond place bit v)))
    away true true true v place a = let a0 = a refl refl refl in ap (λ p. cond p bit v) (sym a0)
    away true true false v place a = refl
    away true false e8 v place a = refl
    away false e4 e8 v place a = refl

-- the bit of a place inside
pub flag_put : (s : BlockShape) (words : List ℕ) (j i k new : ℕ) (bit : Bool) → IsSized s → 774 ≤ length words → j < across s → i < stripes s → k < 64 → of_rows (k % 8) ≡ true
    → IsPut (get_or words (word_at s (j + 1) (i + 1)) 0) new k bit → (x y : ℕ) → is_inside s x y ≡ true
    → flag_at s (set words (word_at s (j + 1) (i + 1)) new) x y ≡ cond (nat_eq x (column j k) && nat_eq y (row i k)) bit (flag_at s words x y)
flag_put s words j i k new bit z len hj hi lim on_row put x y inside =
    let between = rows_between (k % 8) on_row in
    let parts = inside_parts s x y inside in
    let p0 = parts.0 in
    let p1 = parts.1 in
    one_or (x / 8 + 1) (y / 4 + 1) (j + 1) (i + 1)
    (λ ej ei. let at : word_at s (x / 8 + 1) (y / 4 + 1) ≡ word_at s (j + 1) (i + 1) = ap (λ j. word_at s j (y / 4 + 1)) ej ∙ ap (word_at s (j + 1)) ei in
    ap (λ n. on (get_or (set words (word_at s (j + 1) (i + 1)) new) n 0) (8 * (x % 8) + (y % 4 + 1))) at
    ∙ ap (λ n. on n (8 * (x % 8) + (y % 4 + 1))) (get_or-set_same words (word_at s (j + 1) (i + 1)) new 0 (let f = word_fits s (j + 1) (i + 1) z (omega arith) (omega arith) in omega (arith, f)))
    ∙ put (8 * (x % 8) + (y % 4 + 1)) (omega arith)
    ∙ ap (λ v. cond (nat_eq (8 * (x % 8) + (y % 4 + 1)) k) bit v) (ap (λ n. on (get_or words n 0) (8 * (x % 8) + (y % 4 + 1))) (sym at))
    ∙ ap (λ t. cond t bit (flag_at s words x y)) (same ej ei between.0 between.1))
    (λ apart. ap (λ n. on n (8 * (x % 8) + (y % 4 + 1))) (other_word s words (j + 1) (i + 1) (x / 8 + 1) (y / 4 + 1) new (omega arith) (omega arith) apart)
    ∙ ap (λ t. cond t bit (flag_at s words x y)) (sym (differ between.0 between.1 apart)))
  where
    same : x / 8 + 1 ≡ j + 1 → y / 4 + 1 ≡ i + 1 → 1 ≤ k % 8 → k % 8 < 5 → nat_eq (8 * (x % 8) + (y % 4 + 1)) k ≡ (nat_eq x (8 * j + k / 8) && nat_eq y (4 * i + k % 8 - 1))
    same ej ei a b = grind (arith, nat_tests)

    differ : 1 ≤ k % 8 → k % 8 < 5 → (nat_eq (x / 8 + 1) (j + 1) && nat_eq (y / 4 + 1) (i + 1)) ≡ false → (nat_eq x (8 * j + k / 8) && nat_eq y (4 * i + k % 8 - 1)) ≡ false
    differ a b apart = grind (arith, nat_tests)
