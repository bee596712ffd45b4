-- What a stripe sees of a field.
use Rattle.std.proofs.Common.{◌≡◌, ℕ, ◌+◌, ◌-◌, ◌*◌, ◌/◌, ◌%◌, ◌<◌, ◌≤◌, Bool, true, false, not, refl, sym, ap, ◌∙◌, arith}
use Rattle.std.specs.Prelude.{◌&&◌, ◌||◌, nat_eq, nat_lt, nat_le}
use Rattle.std.proofs.lemmas.Bool.Decides.{nat_tests}
use Rattle.jk_scan.specs.declared.shape.BlockShape.{BlockShape}
use Rattle.jk_scan.specs.Neighbours.{Field, touched, zero_at, sign_at, seen_from, touched_in, zero_in, sign_in}
use Rattle.jk_scan.specs.Moments.{number, old, found, spread}
use Rattle.jk_scan.specs.Words.{Truths, of_rows, Shows, bordered}
use Rattle.jk_scan.specs.WordPlaces.{column, row, also}
use Rattle.jk_scan.proofs.Adding.{rows_between}
use Rattle.jk_scan.proofs.BitLaws.{on_zero}
use Rattle.jk_scan.proofs.Moments.{so_far, spread_is, found_is}
use Rattle.jk_scan.proofs.Signs.{sign_same, touched_grows, touched_none}

pub seen_is : (s : BlockShape) (i : ℕ) (f : Field Bool) (x y : ℕ) → seen_from s i f x y ≡ (f x y && (not s.style.causal || nat_le (y / 4) i))
unfolding seen_from
seen_is s i f x y = refl

-- fields that agree are seen alike
pub seen_agrees : (s : BlockShape) (i : ℕ) (f g : Field Bool) → ((x y : ℕ) → f x y ≡ g x y) → (x y : ℕ) → seen_from s i f x y ≡ seen_from s i g x y
seen_agrees s i f g h x y = seen_is s i f x y ∙ ap (λ b. b && (not s.style.causal || nat_le (y / 4) i)) (h x y) ∙ sym (seen_is s i g x y)

-- where there is more, more is seen
pub seen_grows : (s : BlockShape) (i : ℕ) (f g : Field Bool) → ((x y : ℕ) → f x y ≡ true → g x y ≡ true) → (x y : ℕ) → seen_from s i f x y ≡ true → seen_from s i g x y ≡ true
seen_grows s i f g h x y e = seen_is s i g x y ∙ gate (f x y) (g x y) (not s.style.causal || nat_le (y / 4) i) (h x y) (sym (seen_is s i f x y) ∙ e)
  where
    gate : (a b v : Bool) → (a ≡ true → b ≡ true) → (a && v) ≡ true → (b && v) ≡ true
    gate true b v f e = let b0 = f refl in ap (λ b. b && v) b0 ∙ e
    gate false b v f e = absurd cc

-- what is seen is there
pub seen_there : (s : BlockShape) (i : ℕ) (f : Field Bool) (x y : ℕ) → seen_from s i f x y ≡ true → f x y ≡ true
seen_there s i f x y e = gate (f x y) (not s.style.causal || nat_le (y / 4) i) (sym (seen_is s i f x y) ∙ e)
  where
    gate : (a v : Bool) → (a && v) ≡ true → a ≡ true
    gate true v e = refl
    gate false v e = e

-- nothing is seen of nothing
pub seen_none : (s : BlockShape) (i : ℕ) (f : Field Bool) (x y : ℕ) → f x y ≡ false → seen_from s i f x y ≡ false
seen_none s i f x y e = seen_is s i f x y ∙ ap (λ b. b && (not s.style.causal || nat_le (y / 4) i)) e

-- a stripe sees itself and those above it
pub seen_own : (s : BlockShape) (i : ℕ) (f : Field Bool) (x y : ℕ) → y / 4 ≤ i → seen_from s i f x y ≡ f x y
seen_own s i f x y h = seen_is s i f x y ∙ gate (f x y) (not s.style.causal) (nat_le (y / 4) i) (grind (arith, nat_tests))
  where
    gate : (a c v : Bool) → v ≡ true → (a && (c || v)) ≡ a
    gate a c v e = grind (arith, nat_tests)

-- the place of a bit lies in the word's stripe
pub row_stripe : (i k : ℕ) → of_rows (k % 8) ≡ true → row i k / 4 ≡ i
row_stripe i k h = let between = rows_between (k % 8) h in omega (arith, between)

-- one more place of the stripe
pub seen_also : (s : BlockShape) (f g : Field Bool) (j i z : ℕ) → of_rows (z % 8) ≡ true → ((x y : ℕ) → g x y ≡ also f (column j z) (row i z) x y)
    → (x y : ℕ) → seen_from s i g x y ≡ also (seen_from s i f) (column j z) (row i z) x y
seen_also s f g j i z on_row h x y =
    let own = row_stripe i z on_row in
    seen_is s i g x y ∙ ap (λ b. b && (not s.style.causal || nat_le (y / 4) i)) (h x y)
    ∙ gate (f x y) (nat_eq x (column j z)) (nat_eq y (row i z)) (not s.style.causal) (nat_le (y / 4) i) (λ e. within own (same y (row i z) e))
    ∙ ap (λ b. b || (nat_eq x (column j z) && nat_eq y (row i z))) (sym (seen_is s i f x y))
  where
    same : (a b : ℕ) → nat_eq a b ≡ true → a ≡ b
    same a b e = grind (arith, nat_tests)

    within : row i z / 4 ≡ i → y ≡ row i z → nat_le (y / 4) i ≡ true
    within own e = let g : y / 4 ≡ i = ap (λ n. n / 4) e ∙ own in grind (arith, nat_tests)

    gate : (a p q c v : Bool) → (q ≡ true → v ≡ true) → ((a || (p && q)) && (c || v)) ≡ ((a && (c || v)) || (p && q))
    gate a p true c v h = let v0 = h refl in grind (arith, nat_tests)
    gate a p false c v h = grind (arith, nat_tests)

-- what a place sees around it, by its stripe
pub touched_seen : (s : BlockShape) (i : ℕ) (f : Field Bool) (x y : ℕ) → y / 4 ≡ i → touched (seen_from s i f) x y ≡ touched_in s f x y
unfolding touched_in
touched_seen s i f x y h = ap (λ i. touched (seen_from s i f) x y) (sym h)

pub zero_seen_in : (s : BlockShape) (i : ℕ) (f : Field Bool) (x y : ℕ) → y / 4 ≡ i → zero_at s.orientation (seen_from s i f) x y ≡ zero_in s f x y
unfolding zero_in
zero_seen_in s i f x y h = ap (λ i. zero_at s.orientation (seen_from s i f) x y) (sym h)

-- The signs that aren't seen are those of places that aren't seen.
pub sign_seen_in : (s : BlockShape) (i : ℕ) (f n : Field Bool) (x y : ℕ) → y / 4 ≡ i → sign_at (seen_from s i f) (seen_from s i n) x y ≡ sign_in s f n x y
unfolding sign_in
sign_seen_in s i f n x y h =
    sign_same (seen_from s i f) (seen_from s i f) (seen_from s i n) n x y (λ _ _. refl) (λ u v e. gate (f u v) (n u v) (not s.style.causal || nat_le (v / 4) i) (sym (seen_is s i f u v) ∙ e) (seen_is s i n u v))
    ∙ ap (λ i. sign_at (seen_from s i f) n x y) (sym h)
  where
    gate : (a b v : Bool) {m : Bool} → (a && v) ≡ true → m ≡ (b && v) → m ≡ b
    gate a b v e g = grind (arith, nat_tests)

-- the laws of neighbours, by what the stripe sees
pub touched_more : (s : BlockShape) (f g : Field Bool) (x y : ℕ) → ((x y : ℕ) → f x y ≡ true → g x y ≡ true) → touched_in s f x y ≡ true → touched_in s g x y ≡ true
unfolding touched_in
touched_more s f g x y h = touched_grows (seen_from s (y / 4) f) (seen_from s (y / 4) g) x y (seen_grows s (y / 4) f g h)

pub touched_nothing : (s : BlockShape) (f : Field Bool) (x y : ℕ) → ((x y : ℕ) → f x y ≡ false) → touched_in s f x y ≡ false
unfolding touched_in
touched_nothing s f x y h = touched_none (seen_from s (y / 4) f) x y (λ u v. seen_none s (y / 4) f u v (h u v))

pub sign_alike : (s : BlockShape) (f g n m : Field Bool) (x y : ℕ) → ((x y : ℕ) → f x y ≡ g x y) → ((x y : ℕ) → f x y ≡ true → n x y ≡ m x y) → sign_in s f n x y ≡ sign_in s g m x y
unfolding sign_in
sign_alike s f g n m x y e h = sign_same (seen_from s (y / 4) f) (seen_from s (y / 4) g) n m x y (seen_agrees s (y / 4) f g e) (λ u v k. h u v (seen_there s (y / 4) f u v k))

-- words of the stripe and of those above it show it as it is seen
pub shown_seen : (s : BlockShape) (i : ℕ) (f : Truths) (j t word : ℕ) → t ≤ i + 1 → Shows of_rows (bordered f) j t word → Shows of_rows (bordered (seen_from s i f)) j t word
shown_seen s i f j t word le h c b p q = h c b p q ∙ by (of_rows b) refl
  where
    by : (r : Bool) → of_rows b ≡ r → (of_rows b && bordered f (8 * j + c) (4 * t + b - 1)) ≡ (of_rows b && bordered (seen_from s i f) (8 * j + c) (4 * t + b - 1))
    by false e = ap (λ r. r && bordered f (8 * j + c) (4 * t + b - 1)) e ∙ sym (ap (λ r. r && bordered (seen_from s i f) (8 * j + c) (4 * t + b - 1)) e)
    by true e =
        let between = rows_between b e in
        ap (λ v. of_rows b && (nat_le 8 (8 * j + c) && (nat_le 4 (4 * t + b - 1) && v))) (sym (seen_own s i f (8 * j + c - 8) (4 * t + b - 1 - 4) (omega (arith, between, le))))

-- With vertically causal contexts the word below shows nothing, and otherwise what it shows.
pub shown_nothing : (s : BlockShape) (i : ℕ) (f : Truths) (j : ℕ) → s.style.causal ≡ true → Shows of_rows (bordered (seen_from s i f)) j (i + 2) 0
shown_nothing s i f j causal c b p q = on_zero (8 * c + b) ∙ by (of_rows b) refl
  where
    gate : (r a b f v n : Bool) → n ≡ true → v ≡ false → false ≡ (r && (a && (b && (f && (not n || v)))))
    gate r a b f v n e g = grind (arith, nat_tests)

    by : (r : Bool) → of_rows b ≡ r → false ≡ (of_rows b && bordered (seen_from s i f) (8 * j + c) (4 * (i + 2) + b - 1))
    by false e = sym (ap (λ r. r && bordered (seen_from s i f) (8 * j + c) (4 * (i + 2) + b - 1)) e)
    by true e =
        let between = rows_between b e in
        let past : i < (4 * (i + 2) + b - 1 - 4) / 4 = omega (arith, between) in
        gate (of_rows b) (nat_le 8 (8 * j + c)) (nat_le 4 (4 * (i + 2) + b - 1)) (f (8 * j + c - 8) (4 * (i + 2) + b - 1 - 4)) (nat_le ((4 * (i + 2) + b - 1 - 4) / 4) i) s.style.causal causal (grind (arith, nat_tests))
        ∙ ap (λ v. of_rows b && (nat_le 8 (8 * j + c) && (nat_le 4 (4 * (i + 2) + b - 1) && v))) (sym (seen_is s i f (8 * j + c - 8) (4 * (i + 2) + b - 1 - 4)))

pub shown_as_is : (s : BlockShape) (i : ℕ) (f : Truths) (j t word : ℕ) → s.style.causal ≡ false → Shows of_rows (bordered f) j t word → Shows of_rows (bordered (seen_from s i f)) j t word
shown_as_is s i f j t word plain h c b p q =
    h c b p q ∙ ap (λ v. of_rows b && (nat_le 8 (8 * j + c) && (nat_le 4 (4 * t + b - 1) && v))) (sym (seen_is s i f x y ∙ gate (f x y) (nat_le (y / 4) i) s.style.causal plain))
  where
    x : ℕ
    x = 8 * j + c - 8

    y : ℕ
    y = 4 * t + b - 1 - 4

    gate : (a v c : Bool) → c ≡ false → (a && (not c || v)) ≡ a
    gate a v c e = grind (arith, nat_tests)

-- A block without a 1 has nothing that spreads.
pub empty_spread : (s : BlockShape) (a : Field ℕ) (x y : ℕ) → ((x y : ℕ) → a x y ≡ 0) → spread s a x y ≡ false
empty_spread s a x y h =
    spread_is s a x y
    ∙ ap (λ u. not (old a x y) && u) (touched_nothing s (so_far s a (number s.width x y)) x y (λ u v. none (a u v) (found s a (number s.width x y) u v) (spread s a u v && nat_lt (number s.width u v) (number s.width x y)) (h u v) (found_is s a (number s.width x y) u v)))
    ∙ and_false (not (old a x y))
  where
    none : (m : ℕ) (f g : Bool) → m ≡ 0 → f ≡ (nat_eq m 1 && g) → (nat_le 2 m || f) ≡ false
    none m f g e k = grind (arith, nat_tests)

    and_false : (b : Bool) → (b && false) ≡ false
    and_false true = refl
    and_false false = refl
