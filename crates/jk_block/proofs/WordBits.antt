-- Fields with their border, what is around a word of one, and the bits of words that show them.
use Rattle.std.proofs.Common.{◌≡◌, ℕ, zero, suc, ◌+◌, ◌-◌, ◌*◌, ◌/◌, ◌%◌, ◌^◌, ◌<◌, ◌≤◌, Bool, true, false, not, refl, sym, ap, ◌∙◌, subst, arith, List, get_or}
use Rattle.std.specs.Prelude.{◌&&◌, ◌||◌, nat_eq, nat_le}
use Rattle.std.specs.Int.RustNames.{bit_or, bit_and}
use Rattle.std.proofs.lemmas.Bool.Decides.{nat_tests}
use Rattle.jk_scan.specs.declared.shape.BlockShape.{BlockShape}
use Rattle.jk_scan.specs.declared.around.Around.{Around}
use Rattle.jk_scan.specs.Bits.{on}
use Rattle.jk_scan.specs.Neighbours.{Field, is_inside, touched, seen_from, touched_in}
use Rattle.jk_scan.specs.Words.{Truths, of_rows, of_gathered, Shows, up_down, aside, bordered, is_member}
use Rattle.jk_scan.specs.WordPlaces.{column, row, also}
use Rattle.jk_scan.specs.Surroundings.{IsAround}
use Rattle.jk_scan.proofs.Laws.{same_field, seen_own, seen_also, row_stripe, touched_seen, touched_is, rows_between, set_shows, on_and, on_shr_at, firsts}
use Rattle.jk_scan.specs.Moments.{stripes}
use Rattle.jk_scan.specs.Flags.{IsDrawn, across, word_at, flag_at}

-- a field with its border and one more place
pub bordered_also : (f : Truths) (j i z : ℕ) → of_rows (z % 8) ≡ true → bordered (also f (column j z) (row i z)) ≡ also (bordered f) (column (j + 1) z) (row (i + 1) z)
bordered_also f j i z on_row = same_field (bordered (also f (column j z) (row i z))) (also (bordered f) (column (j + 1) z) (row (i + 1) z)) at
  where
    gate : (a b v p q : Bool) → (q ≡ true → a ≡ true) → (q ≡ true → b ≡ true) → (a ≡ true → b ≡ true → p ≡ q) → (a && (b && (v || p))) ≡ ((a && (b && v)) || q)
    gate true true v p q e g h = let h0 = h refl refl in grind (arith, nat_tests)
    gate true false v p true e g h = absurd (let g0 = g refl in cc)
    gate true false v p false e g h = refl
    gate false b v p true e g h = absurd (let e0 = e refl in cc)
    gate false b v p false e g h = refl

    at : (c r : ℕ) → (nat_le 8 c && (nat_le 4 r && (f (c - 8) (r - 4) || (nat_eq (c - 8) (column j z) && nat_eq (r - 4) (row i z))))) ≡ ((nat_le 8 c && (nat_le 4 r && f (c - 8) (r - 4))) || (nat_eq c (column (j + 1) z) && nat_eq r (row (i + 1) z)))
    at c r =
        let between = rows_between (z % 8) on_row in
        let b0 = between.0 in
        gate (nat_le 8 c) (nat_le 4 r) (f (c - 8) (r - 4)) (nat_eq (c - 8) (column j z) && nat_eq (r - 4) (row i z)) (nat_eq c (column (j + 1) z) && nat_eq r (row (i + 1) z))
        (λ e. grind (arith, nat_tests)) (λ e. grind (arith, nat_tests)) (λ e g. grind (arith, nat_tests))

pub around_same : (f g : Truths) (j i : ℕ) (seen : Around) → ((x y : ℕ) → g x y ≡ f x y) → IsAround (bordered f) j i seen → IsAround (bordered g) j i seen
around_same f g j i seen e h = subst (λ (f : Truths). IsAround (bordered f) j i seen) (sym (same_field g f e)) h

-- one more place
pub around_also : (s : BlockShape) (f g : Truths) (j i z : ℕ) (seen : Around) → z < 64 → of_rows (z % 8) ≡ true → ((x y : ℕ) → g x y ≡ also f (column j z) (row i z) x y) → IsAround (bordered (seen_from s i f)) j i seen
    → IsAround (bordered (seen_from s i g)) j i record { centre = bit_or seen.centre (1 * 2 ^ z % 2 ^ 64); west = seen.west; east = seen.east }
around_also s f g j i z seen lim on_row e h =
    let old = seen_from s i f in
    subst (λ (g : Truths). IsAround g j i record { centre = bit_or seen.centre (1 * 2 ^ z % 2 ^ 64); west = seen.west; east = seen.east })
    (sym (ap (λ (g : Truths). bordered g) (same_field (seen_from s i g) (also old (column j z) (row i z)) (seen_also s f g j i z on_row e)) ∙ bordered_also old j i z on_row))
    record {
      centre = set_shows (bordered old) j i seen.centre z lim on_row h.centre;
      west = λ c b p q. h.west c b p q ∙ away (of_gathered b) (bordered old (8 * j + c) (4 * (i + 1) + b - 1)) (nat_eq (8 * j + c) (column (j + 1) z)) (nat_eq (4 * (i + 1) + b - 1) (row (i + 1) z)) (grind (arith, nat_tests));
      east = λ c b p q. h.east c b p q ∙ away (of_gathered b) (bordered old (8 * (j + 2) + c) (4 * (i + 1) + b - 1)) (nat_eq (8 * (j + 2) + c) (column (j + 1) z)) (nat_eq (4 * (i + 1) + b - 1) (row (i + 1) z)) (grind (arith, nat_tests));
    }
  where
    away : (g v p q : Bool) → p ≡ false → (g && v) ≡ (g && (v || (p && q)))
    away g v p q e = grind (arith, nat_tests)

-- the place at a bit is a member of the pass
abbrev pub is_spread : BlockShape → Field Bool → (j i m : ℕ) → Bool
is_spread s f j i m = of_rows (m % 8) && (is_inside s (column j m) (row i m) && (not (f (column j m) (row i m)) && touched_in s f (column j m) (row i m)))

pub bordered_at : (f : Truths) (x y : ℕ) → bordered f (x + 8) (y + 4) ≡ f x y
bordered_at f x y =
    let a : nat_le 8 (x + 8) ≡ true = grind (arith, nat_tests) in
    let b : nat_le 4 (y + 4) ≡ true = grind (arith, nat_tests) in
    ap (λ q. q && (nat_le 4 (y + 4) && f (x + 8 - 8) (y + 4 - 4))) a ∙ ap (λ q. q && f (x + 8 - 8) (y + 4 - 4)) b
    ∙ ap (λ c. f c (y + 4 - 4)) (let e : x + 8 - 8 ≡ x = omega arith in e) ∙ ap (f x) (let e : y + 4 - 4 ≡ y = omega arith in e)

member_at : (m f : Truths) (x y : ℕ) → is_member (bordered m) (bordered f) (x + 8) (y + 4) ≡ (m x y && (not (f x y) && touched f x y))
member_at m f x y =
    ap (λ b. b && (not (bordered f (x + 8) (y + 4)) && aside (up_down (bordered f)) (x + 8) (y + 4))) (bordered_at m x y)
    ∙ ap (λ b. m x y && (not b && aside (up_down (bordered f)) (x + 8) (y + 4))) (bordered_at f x y)
    ∙ ap (λ b. m x y && b) (touched_is f x y)

-- a place of a word in a field with its border
pub place_shifted : (j i m : ℕ) → of_rows (m % 8) ≡ true → (column (j + 1) m ≡ column j m + 8) × (row (i + 1) m ≡ row i m + 4)
place_shifted j i m e = let between = rows_between (m % 8) e in let b0 = between.0 in (omega arith, omega arith)

pub spread_is_member : (s : BlockShape) (f : Field Bool) (j i m : ℕ) → (of_rows (m % 8) && is_member (bordered (is_inside s)) (bordered (seen_from s i f)) (column (j + 1) m) (row (i + 1) m)) ≡ is_spread s f j i m
spread_is_member s f j i m = by (of_rows (m % 8)) refl
  where
    by : (b : Bool) → of_rows (m % 8) ≡ b → (of_rows (m % 8) && is_member (bordered (is_inside s)) (bordered (seen_from s i f)) (column (j + 1) m) (row (i + 1) m)) ≡ is_spread s f j i m
    by false e = ap (λ b. b && is_member (bordered (is_inside s)) (bordered (seen_from s i f)) (column (j + 1) m) (row (i + 1) m)) e ∙ sym (ap (λ b. b && (is_inside s (column j m) (row i m) && (not (f (column j m) (row i m)) && touched_in s f (column j m) (row i m)))) e)
    by true e =
        let shifted = place_shifted j i m e in
        let own = row_stripe i m e in
        let seen = seen_own s i f (column j m) (row i m) (omega (arith, own)) in
        ap (λ c. of_rows (m % 8) && is_member (bordered (is_inside s)) (bordered (seen_from s i f)) c (row (i + 1) m)) shifted.0
        ∙ ap (λ r. of_rows (m % 8) && is_member (bordered (is_inside s)) (bordered (seen_from s i f)) (column j m + 8) r) shifted.1
        ∙ ap (λ b. of_rows (m % 8) && b) (member_at (is_inside s) (seen_from s i f) (column j m) (row i m))
        ∙ ap (λ b. of_rows (m % 8) && (is_inside s (column j m) (row i m) && (not b && touched (seen_from s i f) (column j m) (row i m)))) seen
        ∙ ap (λ b. of_rows (m % 8) && (is_inside s (column j m) (row i m) && (not (f (column j m) (row i m)) && b))) (touched_seen s i f (column j m) (row i m) own)

-- the bit of a place in a word that shows a field
pub drawn_bit : (s : BlockShape) (f : Field Bool) (words : List ℕ) (j i m : ℕ) → IsDrawn s f words → j < across s → i < stripes s → m < 64
    → on (get_or words (word_at s (j + 1) (i + 1)) 0) m ≡ (of_rows (m % 8) && f (column j m) (row i m))
drawn_bit s f words j i m h hj hi l =
    ap (on (get_or words (word_at s (j + 1) (i + 1)) 0)) (let e : m ≡ 8 * (m / 8) + m % 8 = omega arith in e)
    ∙ h (j + 1) (i + 1) (omega arith) (omega arith) (m / 8) (m % 8) (omega arith) (omega arith)
    ∙ by (of_rows (m % 8)) refl
  where
    by : (b : Bool) → of_rows (m % 8) ≡ b → (of_rows (m % 8) && bordered f (column (j + 1) m) (row (i + 1) m)) ≡ (of_rows (m % 8) && f (column j m) (row i m))
    by false e = ap (λ b. b && bordered f (column (j + 1) m) (row (i + 1) m)) e ∙ sym (ap (λ b. b && f (column j m) (row i m)) e)
    by true e =
        let shifted = place_shifted j i m e in
        ap (λ c. of_rows (m % 8) && bordered f c (row (i + 1) m)) shifted.0 ∙ ap (λ r. of_rows (m % 8) && bordered f (column j m + 8) r) shifted.1
        ∙ ap (λ b. of_rows (m % 8) && b) (bordered_at f (column j m) (row i m))

-- the bit of a place in any word
pub flag_bit : (s : BlockShape) (words : List ℕ) (j i m : ℕ) → m < 64 → of_rows (m % 8) ≡ true → on (get_or words (word_at s (j + 1) (i + 1)) 0) m ≡ flag_at s words (column j m) (row i m)
flag_bit s words j i m l on_row =
    let between = rows_between (m % 8) on_row in
    ap (λ n. on (get_or words (word_at s n (i + 1)) 0) m) (let e : j + 1 ≡ (8 * j + m / 8) / 8 + 1 = omega arith in e)
    ∙ ap (λ n. on (get_or words (word_at s ((8 * j + m / 8) / 8 + 1) n) 0) m) (let e : i + 1 ≡ (4 * i + m % 8 - 1) / 4 + 1 = omega (arith, between) in e)
    ∙ ap (λ n. on (get_or words (word_at s ((8 * j + m / 8) / 8 + 1) ((4 * i + m % 8 - 1) / 4 + 1)) 0) n) (let e : m ≡ 8 * ((8 * j + m / 8) % 8) + ((4 * i + m % 8 - 1) % 4 + 1) = omega (arith, between) in e)

-- a bit of the word that shows the block
pub limit_bit : (s : BlockShape) (j i m w : ℕ) → Shows of_rows (bordered (is_inside s)) (j + 1) (i + 1) w → m < 64 → on w m ≡ (of_rows (m % 8) && is_inside s (column j m) (row i m))
limit_bit s j i m w h l =
    ap (on w) (let e : m ≡ 8 * (m / 8) + m % 8 = omega arith in e) ∙ h (m / 8) (m % 8) (omega arith) (omega arith) ∙ by (of_rows (m % 8)) refl
  where
    by : (b : Bool) → of_rows (m % 8) ≡ b → (of_rows (m % 8) && bordered (is_inside s) (column (j + 1) m) (row (i + 1) m)) ≡ (of_rows (m % 8) && is_inside s (column j m) (row i m))
    by false e = ap (λ b. b && bordered (is_inside s) (column (j + 1) m) (row (i + 1) m)) e ∙ sym (ap (λ b. b && is_inside s (column j m) (row i m)) e)
    by true e =
        let shifted = place_shifted j i m e in
        ap (λ c. of_rows (m % 8) && bordered (is_inside s) c (row (i + 1) m)) shifted.0 ∙ ap (λ r. of_rows (m % 8) && bordered (is_inside s) (column j m + 8) r) shifted.1
        ∙ ap (λ b. of_rows (m % 8) && b) (bordered_at (is_inside s) (column j m) (row i m))

-- ---- tests

pub le_true : (a b : ℕ) → a ≤ b → nat_le a b ≡ true
le_true a b h = grind (arith, nat_tests)

pub true_le : (a b : ℕ) → nat_le a b ≡ true → a ≤ b
true_le a b h = grind (arith, nat_tests)

pub on_rows : (r : ℕ) → 1 ≤ r → r < 5 → of_rows r ≡ true
on_rows r h l = grind (arith, nat_tests)

pub is_one_number : (a : ℕ) → nat_eq a 1 ≡ true → a ≡ 1
is_one_number a h = grind (arith, nat_tests)

pub none_before : (a p q : Bool) → a ≡ false → a ≡ (p && q) → p ≡ true → q ≡ false
none_before a p q e g h = grind (arith, nat_tests)

-- a bit of each byte
pub row_bits_are : (x b n i : ℕ) → b < 8 → n < 8 → i < 8 → on (bit_and (x / 2 ^ b) 72340172838076673) (8 * n + i) ≡ (nat_eq i 0 && on x (8 * n + b))
row_bits_are x b n i hb p q =
    on_and (x / 2 ^ b) 72340172838076673 (8 * n + i) ∙ ap (λ v. on (x / 2 ^ b) (8 * n + i) && v) (firsts n i p q) ∙ ap (λ v. v && nat_eq i 0) (on_shr_at x b (b + (8 * n + i)) (8 * n + i) refl)
    ∙ by i
  where
    turned : (a b : Bool) → (a && b) ≡ (b && a)
    turned a b = grind (arith, nat_tests)

    none : (a : Bool) → (a && false) ≡ false
    none a = grind (arith, nat_tests)

    by : (i : ℕ) → (on x (b + (8 * n + i)) && nat_eq i 0) ≡ (nat_eq i 0 && on x (8 * n + b))
    by zero = turned (on x (b + (8 * n + 0))) true ∙ ap (on x) (let e : b + (8 * n + 0) ≡ 8 * n + b = omega arith in e)
    by (suc i) = let e : nat_eq (suc i) 0 ≡ false = grind (arith, nat_tests) in ap (λ v. on x (b + (8 * n + suc i)) && v) e ∙ none (on x (b + (8 * n + suc i))) ∙ sym (ap (λ v. v && on x (8 * n + b)) e)
