-- Columns in which nothing is significant, nor around them.
use Rattle.std.proofs.Common.{◌≡◌, ℕ, ◌+◌, ◌-◌, ◌*◌, ◌/◌, ◌%◌, ◌<◌, ◌≤◌, Bool, true, false, not, refl, sym, ap, ◌∙◌, arith}
use Rattle.std.specs.Prelude.{◌&&◌, ◌||◌, nat_eq, nat_le, nat_lt}
use Rattle.std.proofs.lemmas.Bool.Decides.{nat_tests}
use Rattle.jk_scan.specs.declared.shape.BlockShape.{BlockShape}
use Rattle.jk_scan.specs.Bits.{on}
use Rattle.jk_scan.specs.Neighbours.{Field, is_inside, touched, seen_from, touched_in}
use Rattle.jk_scan.specs.Words.{Truths, of_rows, aside, near, bordered, in_six, IsQuietFrom}
use Rattle.jk_scan.specs.WordPlaces.{column, row, also}
use Rattle.jk_scan.proofs.Laws.{same_field, seen_own, seen_also, touched_seen, near_is}
use Rattle.jk_block.specs.Reading.{is_quiet}
use Rattle.jk_block.proofs.WordBits.{bordered_at, bordered_also}

-- a column of the block and a stripe of four rows, with nothing significant in it or around it
abbrev pub is_still : BlockShape → Field Bool → (j i c : ℕ) → Bool
is_still s f j i c = nat_lt (8 * j + c) s.width && is_quiet s f (8 * j + c) i

-- the columns that have four rows
abbrev pub is_whole : BlockShape → (j i c : ℕ) → Bool
is_whole s j i c = nat_lt (8 * j + c) s.width && nat_le (4 * i + 4) s.height

row_of_three : (f : Truths) (x y X Y : ℕ) → X ≡ x + 8 → Y ≡ y + 4
    → (not (f x y) && not (touched f x y)) ≡ not ((aside (bordered f) X (Y - 1) || aside (bordered f) X Y) || aside (bordered f) X (Y + 1))
row_of_three f x y X Y ex ey =
    ap (λ b. not b && not (touched f x y)) (sym (bordered_at f x y)) ∙ ap (λ b. not (bordered f (x + 8) (y + 4)) && not b) (sym (near_is f x y))
    ∙ ap (λ c. not (bordered f c (y + 4)) && not (near (bordered f) c (y + 4))) (sym ex) ∙ ap (λ r. not (bordered f X r) && not (near (bordered f) X r)) (sym ey)
    ∙ nine (bordered f X Y) (bordered f X (Y - 1)) (bordered f X (Y + 1)) (bordered f (X - 1) Y) (bordered f (X - 1) (Y - 1)) (bordered f (X - 1) (Y + 1)) (bordered f (X + 1) Y) (bordered f (X + 1) (Y - 1)) (bordered f (X + 1) (Y + 1))
  where
    nine : (o u d l lu ld r ru rd : Bool) → (not o && not ((u || d) || (((l || lu) || ld) || ((r || ru) || rd)))) ≡ not ((((u || lu) || ru) || ((o || l) || r)) || ((d || ld) || rd))
    nine o u d l lu ld r ru rd = grind (arith, nat_tests)

-- one of the six rows, with the columns beside
abbrev pub six_row : Truths → (X i t : ℕ) → Bool
six_row f X i t = aside (bordered f) X (4 * (i + 1) + t - 1)

seen_row : (f : Truths) (x X i r : ℕ) → X ≡ x + 8 → (not (f x (4 * i + r)) && not (touched f x (4 * i + r))) ≡ not ((six_row f X i r || six_row f X i (r + 1)) || six_row f X i (r + 2))
seen_row f x X i r ex =
    row_of_three f x (4 * i + r) X (4 * i + r + 4) ex refl
    ∙ ap (λ n. not ((aside (bordered f) X n || aside (bordered f) X (4 * i + r + 4)) || aside (bordered f) X (4 * i + r + 4 + 1))) (let e : 4 * i + r + 4 - 1 ≡ 4 * (i + 1) + r - 1 = omega arith in e)
    ∙ ap (λ n. not ((six_row f X i r || aside (bordered f) X n) || aside (bordered f) X (4 * i + r + 4 + 1))) (let e : 4 * i + r + 4 ≡ 4 * (i + 1) + (r + 1) - 1 = omega arith in e)
    ∙ ap (λ n. not ((six_row f X i r || six_row f X i (r + 1)) || aside (bordered f) X n)) (let e : 4 * i + r + 4 + 1 ≡ 4 * (i + 1) + (r + 2) - 1 = omega arith in e)

-- the same of a field as the stripe sees it
row_at : (s : BlockShape) (f : Truths) (x X i r : ℕ) → r < 4 → X ≡ x + 8
    → (not (f x (4 * i + r)) && not (touched_in s f x (4 * i + r))) ≡ not ((six_row (seen_from s i f) X i r || six_row (seen_from s i f) X i (r + 1)) || six_row (seen_from s i f) X i (r + 2))
row_at s f x X i r few ex =
    ap (λ b. not b && not (touched_in s f x (4 * i + r))) (sym (seen_own s i f x (4 * i + r) (omega (arith, few))))
    ∙ ap (λ b. not (seen_from s i f x (4 * i + r)) && not b) (sym (touched_seen s i f x (4 * i + r) (omega (arith, few)))) ∙ seen_row (seen_from s i f) x X i r ex

pub still_is : (s : BlockShape) (f : Truths) (j i c : ℕ) → is_still s f j i c ≡ (is_whole s j i c && not (in_six (aside (bordered (seen_from s i f))) (8 * (j + 1) + c) (i + 1)))
unfolding is_quiet
still_is s f j i c =
    let x = 8 * j + c in
    let X = 8 * (j + 1) + c in
    let ex : X ≡ x + 8 = omega arith in
    let g = seen_from s i f in
    joined (nat_lt x s.width) (nat_le (4 * i + 4) s.height) (six_row g X i 0) (six_row g X i 1) (six_row g X i 2) (six_row g X i 3) (six_row g X i 4) (six_row g X i 5)
    (row_at s f x X i 0 (omega arith) ex) (row_at s f x X i 1 (omega arith) ex) (row_at s f x X i 2 (omega arith) ex) (row_at s f x X i 3 (omega arith) ex)
  where
    six : (u0 u1 u2 u3 u4 u5 : Bool) → ((not ((u0 || u1) || u2) && not ((u1 || u2) || u3)) && (not ((u2 || u3) || u4) && not ((u3 || u4) || u5))) ≡ not (u0 || (u1 || (u2 || (u3 || (u4 || u5)))))
    six u0 u1 u2 u3 u4 u5 = grind (arith, nat_tests)

    nested : (w h q : Bool) → (w && (h && q)) ≡ ((w && h) && q)
    nested true h q = refl
    nested false h q = refl

    joined : (w h u0 u1 u2 u3 u4 u5 : Bool) {a b d e : Bool} → a ≡ not ((u0 || u1) || u2) → b ≡ not ((u1 || u2) || u3) → d ≡ not ((u2 || u3) || u4) → e ≡ not ((u3 || u4) || u5)
        → (w && (h && ((a && b) && (d && e)))) ≡ ((w && h) && not (u0 || (u1 || (u2 || (u3 || (u4 || u5))))))
    joined w h u0 u1 u2 u3 u4 u5 {a} {b} {d} {e} p q r t = nested w h ((a && b) && (d && e)) ∙ ap (λ z. (w && h) && z) (same p q r t ∙ six u0 u1 u2 u3 u4 u5)
      where
        same : {a b d e a' b' d' e' : Bool} → a ≡ a' → b ≡ b' → d ≡ d' → e ≡ e' → ((a && b) && (d && e)) ≡ ((a' && b') && (d' && e'))
        same p q r t = cc

-- still columns behind a place that becomes significant
pub still_behind : (s : BlockShape) (f g : Field Bool) (j i z from w w' : ℕ) → of_rows (z % 8) ≡ true → ((x y : ℕ) → g x y ≡ also f (column j z) (row i z) x y)
    → (IsQuietFrom (is_whole s j i) (bordered (seen_from s i f)) (j + 1) (i + 1) from w → IsQuietFrom (is_whole s j i) (also (bordered (seen_from s i f)) (column (j + 1) z) (row (i + 1) z)) (j + 1) (i + 1) from w')
    → ((c : ℕ) → from ≤ c → c < 8 → on w (8 * c + 1) ≡ is_still s f j i c) → (c : ℕ) → from ≤ c → c < 8 → on w' (8 * c + 1) ≡ is_still s g j i c
still_behind s f g j i z from w w' on_row e behind h c a l =
    behind (λ c a l. h c a l ∙ still_is s f j i c) c a l
    ∙ ap (λ (g : Truths). is_whole s j i c && not (in_six (aside g) (8 * (j + 1) + c) (i + 1))) (sym (bordered_also (seen_from s i f) j i z on_row) ∙ sym (ap (λ (g : Truths). bordered g) (same_field (seen_from s i g) (also (seen_from s i f) (column j z) (row i z)) (seen_also s f g j i z on_row e))))
    ∙ sym (still_is s g j i c)

-- the still columns of a word
pub still_bit : (s : BlockShape) (f : Field Bool) (j i w m : ℕ) → 4 * i + 4 ≤ s.height
    → on w (8 * (m / 8) + m % 8) ≡ (nat_eq (m % 8) 1 && (bordered (is_inside s) (8 * (j + 1) + m / 8) (4 * (i + 1)) && not (in_six (aside (bordered (seen_from s i f))) (8 * (j + 1) + m / 8) (i + 1))))
    → on w m ≡ (nat_eq (m % 8) 1 && is_still s f j i (m / 8))
still_bit s f j i w m high h =
    ap (on w) (let e : m ≡ 8 * (m / 8) + m % 8 = omega arith in e) ∙ h
    ∙ ap (λ b. nat_eq (m % 8) 1 && (b && not (in_six (aside (bordered (seen_from s i f))) (8 * (j + 1) + m / 8) (i + 1)))) (whole (m / 8))
    ∙ ap (λ b. nat_eq (m % 8) 1 && b) (sym (still_is s f j i (m / 8)))
  where
    whole : (c : ℕ) → bordered (is_inside s) (8 * (j + 1) + c) (4 * (i + 1)) ≡ is_whole s j i c
    whole c =
        let a : nat_lt (4 * i) s.height ≡ true = grind (arith, nat_tests) in
        let b : nat_le (4 * i + 4) s.height ≡ true = grind (arith, nat_tests) in
        ap (λ n. bordered (is_inside s) n (4 * (i + 1))) (let e : 8 * (j + 1) + c ≡ 8 * j + c + 8 = omega arith in e)
        ∙ ap (λ n. bordered (is_inside s) (8 * j + c + 8) n) (let e : 4 * (i + 1) ≡ 4 * i + 4 = omega arith in e)
        ∙ bordered_at (is_inside s) (8 * j + c) (4 * i) ∙ ap (λ b. nat_lt (8 * j + c) s.width && b) (a ∙ sym b)

pub stills_are : (s : BlockShape) (f : Field Bool) (j i w : ℕ) → 4 * i + 4 ≤ s.height
    → ((c b : ℕ) → c < 8 → b < 8 → on w (8 * c + b) ≡ (nat_eq b 1 && (bordered (is_inside s) (8 * (j + 1) + c) (4 * (i + 1)) && not (in_six (aside (bordered (seen_from s i f))) (8 * (j + 1) + c) (i + 1)))))
    → (m : ℕ) → m < 64 → on w m ≡ (nat_eq (m % 8) 1 && is_still s f j i (m / 8))
stills_are s f j i w high h m l = still_bit s f j i w m high (h (m / 8) (m % 8) (omega arith) (omega arith))

pub stills_none : (s : BlockShape) (f : Field Bool) (j i c : ℕ) → s.height < 4 * i + 4 → is_still s f j i c ≡ false
stills_none s f j i c h =
    let b : nat_le (4 * i + 4) s.height ≡ false = grind (arith, nat_tests) in
    still_is s f j i c ∙ ap (λ b. (nat_lt (8 * j + c) s.width && b) && not (in_six (aside (bordered (seen_from s i f))) (8 * (j + 1) + c) (i + 1))) b ∙ gate (nat_lt (8 * j + c) s.width) (not (in_six (aside (bordered (seen_from s i f))) (8 * (j + 1) + c) (i + 1)))
  where
    gate : (a b : Bool) → ((a && false) && b) ≡ false
    gate true b = refl
    gate false b = refl
