-- The places above, below, left and right, in words.
use Rattle.std.proofs.Common.{◌≡◌, ℕ, zero, suc, ◌+◌, ◌-◌, ◌*◌, ◌/◌, ◌%◌, ◌^◌, ◌<◌, ◌≤◌, Bool, true, false, not, refl, ap, ◌∙◌, inl, inr, arith}
use Rattle.std.specs.Prelude.{◌&&◌, ◌||◌, nat_le}
use Rattle.std.specs.Int.{bit_not, w64}
use Rattle.std.specs.Int.RustNames.{bit_or, bit_and}
use Rattle.std.proofs.lemmas.Bool.{cases_lt}
use Rattle.std.proofs.lemmas.Bool.Decides.{nat_tests}
use Rattle.jk_scan.specs.Bits.{on}
use Rattle.jk_scan.specs.Neighbours.{west, east, north, south, touched}
use Rattle.jk_scan.specs.Words.{Truths, of_rows, of_gathered, Shows, ShowsAt, IsLine, up_down, upright, aside, near, is_member, bordered}
use Rattle.jk_scan.proofs.BitLaws.{on_or, on_and, on_not, on_above, on_shl, on_shl_low, on_shr_at}

rows_between : (i : ℕ) → of_rows i ≡ true → (1 ≤ i) × (i < 5)
rows_between i h = grind (arith, nat_tests)

gathered_up : (i : ℕ) → i < 6 → of_gathered i ≡ true
gathered_up i h = grind (arith, nat_tests)

pub rows_seen : (x : ℕ) (f : Truths) (j s : ℕ) → ShowsAt of_gathered f j (s + 1) x → ShowsAt of_rows (up_down f) j (s + 1) (bit_or (bit_or x (x * 2 ^ 1 % 2 ^ 64)) (x / 2 ^ 1))
rows_seen x f j s h c i p q on_row =
    let k = 8 * c + i in
    let r = 4 * (s + 1) + i - 1 in
    let between = rows_between i on_row in
    on_or (bit_or x (x * 2 ^ 1 % 2 ^ 64)) (x / 2 ^ 1) k ∙ ap (λ b. b || on (x / 2 ^ 1) k) (on_or x (x * 2 ^ 1 % 2 ^ 64) k)
    ∙ three (on x k) (f (8 * j + c) r) (on (x * 2 ^ 1 % 2 ^ 64) k) (f (8 * j + c) (r - 1)) (on (x / 2 ^ 1) k) (f (8 * j + c) (r + 1))
    (h c i p q (gathered_up i (omega arith)))
    (on_shl x 1 64 (8 * c + (i - 1)) k (omega (arith, between)) (omega arith) ∙ h c (i - 1) p (omega arith) (gathered_up (i - 1) (omega (arith, between))) ∙ ap (f (8 * j + c)) (omega (arith, between)))
    (on_shr_at x 1 (8 * c + (i + 1)) k (omega arith) ∙ h c (i + 1) p (omega (arith, between)) (gathered_up (i + 1) (omega (arith, between))) ∙ ap (f (8 * j + c)) (omega (arith, between)))
  where
    three : (a a' b b' d d' : Bool) → a ≡ a' → b ≡ b' → d ≡ d' → ((a || b) || d) ≡ ((a' || b') || d')
    three a a' b b' d d' e g h = cc

or_false : (a : Bool) → (a || false) ≡ a
or_false true = refl
or_false false = refl

left_line : (v l : ℕ) (h : ℕ → Bool) (j c i : ℕ) → l < 2 ^ 64 → IsLine h i (j + 1) v → IsLine h i j l → c < 8 → i < 8
    → (on (v * 2 ^ 8 % 2 ^ 64) (8 * c + i) || on (l / 2 ^ 56) (8 * c + i)) ≡ h (8 * (j + 1) + c - 1)
left_line v l h j zero i lim a b p q =
    ap (λ x. x || on (l / 2 ^ 56) (8 * zero + i)) (on_shl_low v 8 64 (8 * zero + i) (omega arith) (omega arith))
    ∙ on_shr_at l 56 (8 * 7 + i) (8 * zero + i) (omega arith) ∙ b 7 (omega arith)
    ∙ ap h (omega arith)
left_line v l h j (suc c) i lim a b p q =
    ap (λ x. on (v * 2 ^ 8 % 2 ^ 64) (8 * suc c + i) || x) (on_shr_at l 56 (56 + (8 * suc c + i)) (8 * suc c + i) refl ∙ on_above l 64 (56 + (8 * suc c + i)) lim (omega arith))
    ∙ or_false (on (v * 2 ^ 8 % 2 ^ 64) (8 * suc c + i))
    ∙ on_shl v 8 64 (8 * c + i) (8 * suc c + i) (omega arith) (omega arith) ∙ a c (omega arith)
    ∙ ap h (omega arith)

right_line : (v r : ℕ) (h : ℕ → Bool) (j c i : ℕ) → v < 2 ^ 64 → IsLine h i (j + 1) v → IsLine h i (j + 2) r → c < 8 → i < 8
    → (on (v / 2 ^ 8) (8 * c + i) || on (r * 2 ^ 56 % 2 ^ 64) (8 * c + i)) ≡ h (8 * (j + 1) + c + 1)
right_line v r h j c i lim a b p q = elim (cases_lt c 7) [
  | inl less ↦
      ap (λ x. on (v / 2 ^ 8) (8 * c + i) || x) (on_shl_low r 56 64 (8 * c + i) (omega arith) (omega arith)) ∙ or_false (on (v / 2 ^ 8) (8 * c + i))
      ∙ on_shr_at v 8 (8 * (c + 1) + i) (8 * c + i) (omega arith) ∙ a (c + 1) (omega arith)
      ∙ ap h (omega arith)
  | inr last ↦
      ap (λ x. x || on (r * 2 ^ 56 % 2 ^ 64) (8 * c + i)) (on_shr_at v 8 (8 + (8 * c + i)) (8 * c + i) refl ∙ on_above v 64 (8 + (8 * c + i)) lim (omega arith))
      ∙ on_shl r 56 64 (8 * 0 + i) (8 * c + i) (omega arith) (omega arith) ∙ b 0 (omega arith)
      ∙ ap h (omega arith)
]

pub columns_line : (v l r : ℕ) → v < 2 ^ 64 → l < 2 ^ 64 → (h : ℕ → Bool) (j i : ℕ) → i < 8 → IsLine h i (j + 1) v → IsLine h i j l → IsLine h i (j + 2) r
    → (c : ℕ) → c < 8 → on (bit_or (bit_or (bit_or (v * 2 ^ 8 % 2 ^ 64) (v / 2 ^ 8)) (l / 2 ^ 56)) (r * 2 ^ 56 % 2 ^ 64)) (8 * c + i) ≡ (h (8 * (j + 1) + c - 1) || h (8 * (j + 1) + c + 1))
columns_line v l r vb lb h j i q a b d c p =
    let k = 8 * c + i in
    let west = v * 2 ^ 8 % 2 ^ 64 in
    let east = v / 2 ^ 8 in
    let left = l / 2 ^ 56 in
    let right = r * 2 ^ 56 % 2 ^ 64 in
    on_or (bit_or (bit_or west east) left) right k
    ∙ ap (λ z. z || on right k) (on_or (bit_or west east) left k ∙ ap (λ z. z || on left k) (on_or west east k))
    ∙ four (on west k) (on east k) (on left k) (on right k) (h (8 * (j + 1) + c - 1)) (h (8 * (j + 1) + c + 1)) (left_line v l h j c i lb a b p q) (right_line v r h j c i vb a d p q)
  where
    four : (w e l r x y : Bool) → (w || l) ≡ x → (e || r) ≡ y → (((w || e) || l) || r) ≡ (x || y)
    four w e l r x y g k = grind (arith, nat_tests)

pub line_own : (v w : ℕ) (h : ℕ → Bool) (j c i : ℕ) → on v (8 * c + i) ≡ h (8 * (j + 1) + c) → on w (8 * c + i) ≡ (h (8 * (j + 1) + c - 1) || h (8 * (j + 1) + c + 1))
    → on (bit_or v w) (8 * c + i) ≡ ((h (8 * (j + 1) + c) || h (8 * (j + 1) + c - 1)) || h (8 * (j + 1) + c + 1))
line_own v w h j c i e g = on_or v w (8 * c + i) ∙ three (on v (8 * c + i)) (on w (8 * c + i)) (h (8 * (j + 1) + c)) (h (8 * (j + 1) + c - 1)) (h (8 * (j + 1) + c + 1)) e g
  where
    three : (a b x y z : Bool) → a ≡ x → b ≡ (y || z) → (a || b) ≡ ((x || y) || z)
    three a b x y z e g = grind (arith, nat_tests)

-- a line of a word that shows a field at these bits
pub line_of : (rows : ℕ → Bool) (f : Truths) (j s i word : ℕ) → i < 8 → rows i ≡ true → ShowsAt rows f j s word → IsLine (λ x. f x (4 * s + i - 1)) i j word
line_of rows f j s i word q row h c p = h c i p q row

-- and any line of a word that shows a field
pub line_shown : (rows : ℕ → Bool) (f : Truths) (j s i word : ℕ) → i < 8 → Shows rows f j s word → IsLine (λ x. rows i && f x (4 * s + i - 1)) i j word
line_shown rows f j s i word q h c p = h c i p q

pub upright_seen : (x : ℕ) (f : Truths) (j s : ℕ) → ShowsAt of_gathered f j (s + 1) x → ShowsAt of_rows (upright f) j (s + 1) (bit_or (x * 2 ^ 1 % 2 ^ 64) (x / 2 ^ 1))
upright_seen x f j s h c i p q on_row =
    let k = 8 * c + i in
    let r = 4 * (s + 1) + i - 1 in
    let between = rows_between i on_row in
    on_or (x * 2 ^ 1 % 2 ^ 64) (x / 2 ^ 1) k
    ∙ two (on (x * 2 ^ 1 % 2 ^ 64) k) (f (8 * j + c) (r - 1)) (on (x / 2 ^ 1) k) (f (8 * j + c) (r + 1))
    (on_shl x 1 64 (8 * c + (i - 1)) k (omega (arith, between)) (omega arith) ∙ h c (i - 1) p (omega arith) (gathered_up (i - 1) (omega (arith, between))) ∙ ap (f (8 * j + c)) (omega (arith, between)))
    (on_shr_at x 1 (8 * c + (i + 1)) k (omega arith) ∙ h c (i + 1) p (omega (arith, between)) (gathered_up (i + 1) (omega (arith, between))) ∙ ap (f (8 * j + c)) (omega (arith, between)))
  where
    two : (b b' d d' : Bool) → b ≡ b' → d ≡ d' → (b || d) ≡ (b' || d')
    two b b' d d' g h = cc

pub members_seen : (w x inside : ℕ) → x < 2 ^ 64 → (f m : Truths) (j s : ℕ) → Shows of_gathered f j s x → Shows of_rows m j s inside → ShowsAt of_rows (aside (up_down f)) j s w
    → Shows of_rows (is_member m f) j s (bit_and (bit_and w inside) (bit_not w64 x))
members_seen w x inside xb f m j s hx hi hw c i p q =
    let k = 8 * c + i in
    on_and (bit_and w inside) (bit_not w64 x) k ∙ ap (λ b. b && on (bit_not w64 x) k) (on_and w inside k) ∙ ap (λ b. (on w k && on inside k) && b) (on_not w64 x k xb (omega arith))
    ∙ gate (of_rows i) (on w k) (on inside k) (on x k) (m (8 * j + c) (4 * s + i - 1)) (f (8 * j + c) (4 * s + i - 1)) (aside (up_down f) (8 * j + c) (4 * s + i - 1)) (hw c i p q) (hi c i p q)
    (λ row. hx c i p q ∙ ap (λ b. b && f (8 * j + c) (4 * s + i - 1)) (gathered_up i (let between = rows_between i row in omega (arith, between))))
  where
    gate : (row w inside x m f near : Bool) → (row ≡ true → w ≡ near) → inside ≡ (row && m) → (row ≡ true → x ≡ f) → ((w && inside) && not x) ≡ (row && (m && (not f && near)))
    gate true w inside x m f near a b d = let e = a refl in let g = d refl in grind (arith, nat_tests)
    gate false w inside x m f near a b d = grind (arith, nat_tests)

-- a word that shows a field shows it at some bits
pub shown_at : (rows : ℕ → Bool) (f : Truths) (j s word : ℕ) → Shows rows f j s word → ShowsAt rows f j s word
shown_at rows f j s word h c i p q row = h c i p q ∙ ap (λ b. b && f (8 * j + c) (4 * s + i - 1)) row

-- With the border's eight columns and four rows taken off, "next to" is one of the eight
-- neighbours.
pub touched_is : (f : Truths) (c r : ℕ) → (not (f c r) && aside (up_down (bordered f)) (c + 8) (r + 4)) ≡ (not (f c r) && touched f c r)
unfolding touched
touched_is f c r =
    let c0 : nat_le 8 (c + 8) ≡ true = grind (arith, nat_tests) in
    let c1 : nat_le 8 (c + 8 - 1) ≡ nat_le 1 c = grind (arith, nat_tests) in
    let c2 : nat_le 8 (c + 8 + 1) ≡ true = grind (arith, nat_tests) in
    let r0 : nat_le 4 (r + 4) ≡ true = grind (arith, nat_tests) in
    let r1 : nat_le 4 (r + 4 - 1) ≡ nat_le 1 r = grind (arith, nat_tests) in
    let r2 : nat_le 4 (r + 4 + 1) ≡ true = grind (arith, nat_tests) in
    let d0 : c + 8 - 8 ≡ c = omega arith in
    let d1 : c + 8 - 1 - 8 ≡ c - 1 = omega arith in
    let d2 : c + 8 + 1 - 8 ≡ c + 1 = omega arith in
    let e0 : r + 4 - 4 ≡ r = omega arith in
    let e1 : r + 4 - 1 - 4 ≡ r - 1 = omega arith in
    let e2 : r + 4 + 1 - 4 ≡ r + 1 = omega arith in
    ap (λ b. not (f c r) && b) (nine
    (place c0 r0 d0 e0) (place c0 r1 d0 e1) (place c0 r2 d0 e2)
    (place c1 r0 d1 e0) (place c1 r1 d1 e1) (place c1 r2 d1 e2)
    (place c2 r0 d2 e0) (place c2 r1 d2 e1) (place c2 r2 d2 e2))
    ∙ permuted (f c r) (north f c r) (south f c r) (west f c r) (west (north f) c r) (west (south f) c r) (east f c r) (east (north f) c r) (east (south f) c r)
  where
    place : {a a' b b' : Bool} {x x' y y' : ℕ} → a ≡ a' → b ≡ b' → x ≡ x' → y ≡ y' → (a && (b && f x y)) ≡ (a' && (b' && f x' y'))
    place p q e g = cc

    nine : {a0 a1 a2 a3 a4 a5 a6 a7 a8 b0 b1 b2 b3 b4 b5 b6 b7 b8 : Bool} → a0 ≡ b0 → a1 ≡ b1 → a2 ≡ b2 → a3 ≡ b3 → a4 ≡ b4 → a5 ≡ b5 → a6 ≡ b6 → a7 ≡ b7 → a8 ≡ b8
        → ((((a0 || a1) || a2) || ((a3 || a4) || a5)) || ((a6 || a7) || a8)) ≡ ((((b0 || b1) || b2) || ((b3 || b4) || b5)) || ((b6 || b7) || b8))
    nine h0 h1 h2 h3 h4 h5 h6 h7 h8 = cc

    permuted : (o u d l lu ld r ru rd : Bool) → (not o && ((((o || u) || d) || ((l || lu) || ld)) || ((r || ru) || rd))) ≡ (not o && (((l || r) || (u || d)) || ((lu || ru) || (ld || rd))))
    permuted true u d l lu ld r ru rd = refl
    permuted false u d l lu ld r ru rd = grind (arith, nat_tests)

-- The same of the neighbours alone.
pub near_is : (f : Truths) (c r : ℕ) → near (bordered f) (c + 8) (r + 4) ≡ touched f c r
unfolding touched
near_is f c r =
    let c0 : nat_le 8 (c + 8) ≡ true = grind (arith, nat_tests) in
    let c1 : nat_le 8 (c + 8 - 1) ≡ nat_le 1 c = grind (arith, nat_tests) in
    let c2 : nat_le 8 (c + 8 + 1) ≡ true = grind (arith, nat_tests) in
    let r0 : nat_le 4 (r + 4) ≡ true = grind (arith, nat_tests) in
    let r1 : nat_le 4 (r + 4 - 1) ≡ nat_le 1 r = grind (arith, nat_tests) in
    let r2 : nat_le 4 (r + 4 + 1) ≡ true = grind (arith, nat_tests) in
    let d0 : c + 8 - 8 ≡ c = omega arith in
    let d1 : c + 8 - 1 - 8 ≡ c - 1 = omega arith in
    let d2 : c + 8 + 1 - 8 ≡ c + 1 = omega arith in
    let e0 : r + 4 - 4 ≡ r = omega arith in
    let e1 : r + 4 - 1 - 4 ≡ r - 1 = omega arith in
    let e2 : r + 4 + 1 - 4 ≡ r + 1 = omega arith in
    eight
    (place c0 r1 d0 e1) (place c0 r2 d0 e2)
    (place c1 r0 d1 e0) (place c1 r1 d1 e1) (place c1 r2 d1 e2)
    (place c2 r0 d2 e0) (place c2 r1 d2 e1) (place c2 r2 d2 e2)
    ∙ permuted (north f c r) (south f c r) (west f c r) (west (north f) c r) (west (south f) c r) (east f c r) (east (north f) c r) (east (south f) c r)
  where
    place : {a a' b b' : Bool} {x x' y y' : ℕ} → a ≡ a' → b ≡ b' → x ≡ x' → y ≡ y' → (a && (b && f x y)) ≡ (a' && (b' && f x' y'))
    place p q e g = cc

    eight : {a1 a2 a3 a4 a5 a6 a7 a8 b1 b2 b3 b4 b5 b6 b7 b8 : Bool} → a1 ≡ b1 → a2 ≡ b2 → a3 ≡ b3 → a4 ≡ b4 → a5 ≡ b5 → a6 ≡ b6 → a7 ≡ b7 → a8 ≡ b8
        → ((a1 || a2) || (((a3 || a4) || a5) || ((a6 || a7) || a8))) ≡ ((b1 || b2) || (((b3 || b4) || b5) || ((b6 || b7) || b8)))
    eight h1 h2 h3 h4 h5 h6 h7 h8 = cc

    permuted : (u d l lu ld r ru rd : Bool) → ((u || d) || (((l || lu) || ld) || ((r || ru) || rd))) ≡ (((l || r) || (u || d)) || ((lu || ru) || (ld || rd)))
    permuted u d l lu ld r ru rd = grind (arith, nat_tests)
