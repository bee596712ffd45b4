-- The places of a word that are left to the cleanup pass.
use Rattle.std.proofs.Common.{◌≡◌, ℕ, ◌+◌, ◌-◌, ◌*◌, ◌/◌, ◌%◌, ◌^◌, ◌<◌, ◌≤◌, Bool, true, false, not, List, get_or, refl, ap, ◌∙◌, inl, inr, arith}
use Rattle.std.specs.Prelude.{◌&&◌, ◌||◌, nat_eq, nat_le, nat_lt}
use Rattle.std.specs.Int.{bit_not, w64}
use Rattle.std.specs.Int.RustNames.{bit_or, bit_and}
use Rattle.std.proofs.lemmas.Bool.{cases_lt}
use Rattle.std.proofs.lemmas.Bool.Decides.{nat_tests}
use Rattle.jk_scan.specs.declared.shape.BlockShape.{BlockShape}
use Rattle.jk_scan.specs.Bits.{on}
use Rattle.jk_scan.specs.Neighbours.{Field, is_inside}
use Rattle.jk_scan.specs.Moments.{stripes}
use Rattle.jk_scan.specs.Words.{of_rows, Shows, bordered}
use Rattle.jk_scan.specs.WordPlaces.{column, row, also}
use Rattle.jk_scan.specs.Flags.{IsDrawn, across, word_at, flag_at}
use Rattle.jk_scan.proofs.Laws.{rows_between, on_or, on_and, on_not}
use Rattle.jk_block.specs.Fields.{significant_of, flagged}
use Rattle.jk_block.specs.decoding.BlockStates.{Draft, significant_in}
use Rattle.jk_block.proofs.WordBits.{drawn_bit, flag_bit, limit_bit}

-- the place at a bit is left to the pass
abbrev pub is_left : (k : Draft) (j i m : ℕ) → Bool
is_left k j i m = of_rows (m % 8) && (is_inside k.shape (column j m) (row i m) && (not (significant_in k (column j m) (row i m)) && not (k.visited (column j m) (row i m))))

pub left_at : (s : BlockShape) (ms : Field ℕ) (sig vis : List ℕ) (j i m p limits : ℕ) → IsDrawn s (significant_of s ms) sig → j < across s → i < stripes s → p ≡ word_at s (j + 1) (i + 1) → bit_or (get_or sig p 0) (get_or vis p 0) < 2 ^ 64
    → Shows of_rows (bordered (is_inside s)) (j + 1) (i + 1) limits → m < 64
    → on (bit_and limits (bit_not w64 (bit_or (get_or sig p 0) (get_or vis p 0)))) m ≡ (of_rows (m % 8) && (is_inside s (column j m) (row i m) && (not (significant_of s ms (column j m) (row i m)) && not (flagged s vis (column j m) (row i m)))))
left_at s ms sig vis j i m p limits drawn hj hi place lim shown l =
    on_and limits (bit_not w64 (bit_or (get_or sig p 0) (get_or vis p 0))) m ∙ ap (λ b. on limits m && b) (on_not w64 (bit_or (get_or sig p 0) (get_or vis p 0)) m lim l)
    ∙ ap (λ b. b && not (on (bit_or (get_or sig p 0) (get_or vis p 0)) m)) (limit_bit s j i m limits shown l)
    ∙ ap (λ b. (of_rows (m % 8) && is_inside s (column j m) (row i m)) && not b) (on_or (get_or sig p 0) (get_or vis p 0) m)
    ∙ ap (λ p. (of_rows (m % 8) && is_inside s (column j m) (row i m)) && not (on (get_or sig p 0) m || on (get_or vis p 0) m)) place
    ∙ ap (λ b. (of_rows (m % 8) && is_inside s (column j m) (row i m)) && not (b || on (get_or vis (word_at s (j + 1) (i + 1)) 0) m)) (drawn_bit s (significant_of s ms) sig j i m drawn hj hi l)
    ∙ gate (of_rows (m % 8)) (is_inside s (column j m) (row i m)) (nat_lt 0 (ms (column j m) (row i m))) (on (get_or vis (word_at s (j + 1) (i + 1)) 0) m) (flag_at s vis (column j m) (row i m)) (λ e. flag_bit s vis j i m l e)
  where
    turned : (n v : Bool) → not (n || v) ≡ (not n && not v)
    turned true v = refl
    turned false v = refl

    gate : (r ins n v f : Bool) → (r ≡ true → v ≡ f) → ((r && ins) && not ((r && (ins && n)) || v)) ≡ (r && (ins && (not (ins && n) && not (ins && f))))
    gate true true n v f e = let e0 = e refl in ap (λ v. not (n || v)) e0 ∙ turned n f
    gate true false n v f e = refl
    gate false ins n v f e = refl

visited_same : (k k' : Draft) → k'.visited ≡ k.visited → (x y : ℕ) → k'.visited x y ≡ k.visited x y
visited_same k k' g x y = ap (λ (f : Field Bool). f x y) g

-- a place stays left, if it stays insignificant
left_same : (k k' : Draft) (j i m : ℕ) → k'.shape ≡ k.shape → k'.visited ≡ k.visited → significant_in k' (column j m) (row i m) ≡ significant_in k (column j m) (row i m) → is_left k' j i m ≡ is_left k j i m
left_same k k' j i m shape visited known_significant =
    ap (λ (s : BlockShape). of_rows (m % 8) && (is_inside s (column j m) (row i m) && (not (significant_in k' (column j m) (row i m)) && not (k'.visited (column j m) (row i m))))) shape
    ∙ ap (λ b. of_rows (m % 8) && (is_inside k.shape (column j m) (row i m) && (not b && not (k'.visited (column j m) (row i m))))) known_significant
    ∙ ap (λ b. of_rows (m % 8) && (is_inside k.shape (column j m) (row i m) && (not (significant_in k (column j m) (row i m)) && not b))) (visited_same k k' visited (column j m) (row i m))

-- a later place isn't the one that became significant
also_later : (f : Field Bool) (j i z m : ℕ) → of_rows (z % 8) ≡ true → of_rows (m % 8) ≡ true → z < m → also f (column j z) (row i z) (column j m) (row i m) ≡ f (column j m) (row i m)
also_later f j i z m rz rm h =
    let bz = rows_between (z % 8) rz in
    let bm = rows_between (m % 8) rm in
    apart bz.0 bz.1 bm.0 bm.1
  where
    none : (a e g : Bool) → (e && g) ≡ false → (a || (e && g)) ≡ a
    none a e g h = grind (arith, nat_tests)

    apart : 1 ≤ z % 8 → z % 8 < 5 → 1 ≤ m % 8 → m % 8 < 5 → also f (column j z) (row i z) (column j m) (row i m) ≡ f (column j m) (row i m)
    apart a b d e = none (f (column j m) (row i m)) (nat_eq (column j m) (column j z)) (nat_eq (row i m) (row i z)) (differ (8 * j + m / 8) (8 * j + z / 8) (4 * i + m % 8 - 1) (4 * i + z % 8 - 1) (λ g k. omega arith))
      where
        differ : (a b d e : ℕ) → (a ≡ b → d ≡ e → ⊥) → (nat_eq a b && nat_eq d e) ≡ false
        differ a b d e h = grind (arith, nat_tests)

step_on : (z m : ℕ) (rest n : Bool) (due due' : Bool) (k e : ℕ) → k ≤ e → z ≤ e → rest ≡ (nat_lt e m && n) → n ≡ (nat_le k m && due) → (e < m → due' ≡ due) → rest ≡ (nat_le (e + 1) m && due')
step_on z m rest n due due' k e h g a b d = elim (cases_lt e m) [
  | inl less ↦ let d0 = d less in grind (arith, nat_tests)
  | inr not_less ↦ grind (arith, nat_tests)
]

gated : (r a b : Bool) → (r ≡ true → a ≡ b) → (r && a) ≡ (r && b)
gated true a b h = h refl
gated false a b h = refl

-- what is left behind a place that was coded, or a column in run mode
pub left_after : (k k' : Draft) (j i z e n w w' : ℕ) → k'.shape ≡ k.shape → k'.visited ≡ k.visited → of_rows (z % 8) ≡ true → n ≤ e → z ≤ e → ((x y : ℕ) → significant_in k' x y ≡ also (significant_in k) (column j z) (row i z) x y)
    → ((m : ℕ) → m < 64 → on w m ≡ (nat_le n m && is_left k j i m)) → ((m : ℕ) → m < 64 → on w' m ≡ (nat_lt e m && on w m)) → (m : ℕ) → m < 64 → on w' m ≡ (nat_le (e + 1) m && is_left k' j i m)
left_after k k' j i z e n w w' shape visited on_row h g known_significant left_is rest m l =
    step_on z m (on w' m) (on w m) (is_left k j i m) (is_left k' j i m) n e h g (rest m l) (left_is m l)
    (λ late. gated (of_rows (m % 8)) (is_inside k'.shape (column j m) (row i m) && (not (significant_in k' (column j m) (row i m)) && not (k'.visited (column j m) (row i m)))) (is_inside k.shape (column j m) (row i m) && (not (significant_in k (column j m) (row i m)) && not (k.visited (column j m) (row i m))))
    (λ row_m. ap (λ (s : BlockShape). is_inside s (column j m) (row i m) && (not (significant_in k' (column j m) (row i m)) && not (k'.visited (column j m) (row i m)))) shape
    ∙ ap (λ b. is_inside k.shape (column j m) (row i m) && (not b && not (k'.visited (column j m) (row i m)))) (known_significant (column j m) (row i m) ∙ also_later (significant_in k) j i z m on_row row_m (omega arith))
    ∙ ap (λ b. is_inside k.shape (column j m) (row i m) && (not (significant_in k (column j m) (row i m)) && not b)) (visited_same k k' visited (column j m) (row i m))))

pub left_kept : (k k' : Draft) (j i e n w w' : ℕ) → k'.shape ≡ k.shape → k'.visited ≡ k.visited → n ≤ e → ((x y : ℕ) → significant_in k' x y ≡ significant_in k x y)
    → ((m : ℕ) → m < 64 → on w m ≡ (nat_le n m && is_left k j i m)) → ((m : ℕ) → m < 64 → on w' m ≡ (nat_lt e m && on w m)) → (m : ℕ) → m < 64 → on w' m ≡ (nat_le (e + 1) m && is_left k' j i m)
left_kept k k' j i e n w w' shape visited h known_significant left_is rest m l =
    step_on e m (on w' m) (on w m) (is_left k j i m) (is_left k' j i m) n e h (omega arith) (rest m l) (left_is m l) (λ late. left_same k k' j i m shape visited (known_significant (column j m) (row i m)))
