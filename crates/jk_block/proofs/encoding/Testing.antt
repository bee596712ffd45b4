-- Which places of a word a pass codes, by what is significant and what was coded before.
use Rattle.std.proofs.Common.{◌≡◌, ℕ, ◌+◌, ◌*◌, ◌%◌, ◌<◌, ◌≤◌, Bool, true, false, not, refl, sym, ap, ◌∙◌, arith}
use Rattle.std.specs.Prelude.{◌&&◌, ◌||◌, nat_eq, nat_lt, nat_le}
use Rattle.std.proofs.lemmas.Bool.{and_parts}
use Rattle.std.proofs.lemmas.Bool.Decides.{nat_tests}
use Rattle.jk_scan.specs.declared.shape.BlockShape.{BlockShape}
use Rattle.jk_scan.specs.Neighbours.{Field, is_inside, touched_in}
use Rattle.jk_scan.specs.Moments.{number, visits, old, spread, pass_of, moment, is_coded, significant}
use Rattle.jk_scan.specs.Passes.{in_run_mode}
use Rattle.jk_scan.specs.Words.{of_rows}
use Rattle.jk_scan.specs.WordPlaces.{column, row}
use Rattle.jk_scan.proofs.Laws.{number_row, number_below, inside_parts, touched_same, so_far, spread_is, significant_early, significant_is, cases_of, number_first}
use Rattle.jk_block.specs.Reading.{is_quiet}
use Rattle.jk_block.specs.encoding.Viewed.{moment_at}
use Rattle.jk_block.proofs.Seeing.{is_due}
use Rattle.jk_block.proofs.Columns.{neither, spread_touches, four, rows_left, row_left, runs_is}
use Rattle.jk_block.proofs.Rows.{start}
use Rattle.jk_block.proofs.encoding.Remaining.{is_run}
use Rattle.jk_block.proofs.Stills.{is_still}
use Rattle.jk_block.proofs.encoding.Timing.{by_test, codes, spread_before, moment_place, moment_column, moment_bound}
use Rattle.jk_block.proofs.WordBits.{is_spread}

-- A test of places inside is a test of all, where both have them inside.
by_place : (s : BlockShape) (x y : ℕ) (a b : Bool) → (is_inside s x y ≡ true → a ≡ b) → (is_inside s x y ≡ false → a ≡ false) → (is_inside s x y ≡ false → b ≡ false) → a ≡ b
by_place s x y a b f g h = by_test (is_inside s x y) f (λ i. g i ∙ sym (h i))

-- significance propagation
spread_due : (s : BlockShape) (a : Field ℕ) (t x y : ℕ) → t ≡ 0 * visits s + number s.width x y → (is_inside s x y && (not (significant s a t x y) && touched_in s (significant s a t) x y)) ≡ is_due s a 0 x y
unfolding is_due
spread_due s a t x y now = by_test (is_inside s x y)
    (λ i. ap (λ q. q && (not (significant s a t x y) && touched_in s (significant s a t) x y)) i ∙ at i ∙ sym (ap (λ q. q && nat_eq (pass_of s a x y) 0) i))
    (λ i. ap (λ q. q && (not (significant s a t x y) && touched_in s (significant s a t) x y)) i ∙ sym (ap (λ q. q && nat_eq (pass_of s a x y) 0) i))
  where
    own : (m q : ℕ) (l : Bool) → l ≡ (nat_le 2 m || (nat_eq m 1 && nat_lt q t)) → t ≤ q → l ≡ nat_le 2 m
    own m q l e h = grind (arith, nat_tests)

    at_old : (o u : Bool) (n : ℕ) → o ≡ true → n ≡ 1 → (true && (not o && u)) ≡ (true && nat_eq n 0)
    at_old o u n e f = grind (arith, nat_tests)

    at_new : (o u p : Bool) (n : ℕ) → p ≡ (not o && u) → p ≡ nat_eq n 0 → (true && (not o && u)) ≡ (true && nat_eq n 0)
    at_new o u p n e f = ap (λ q. true && q) (sym e ∙ f)

    at : is_inside s x y ≡ true → (true && (not (significant s a t x y) && touched_in s (significant s a t) x y)) ≡ (true && nat_eq (pass_of s a x y) 0)
    at i =
        let below = number_below s x y i in
        let k : t ≡ number s.width x y = omega (arith, now) in
        let seen : touched_in s (significant s a t) x y ≡ touched_in s (so_far s a (number s.width x y)) x y =
        touched_same s (significant s a t) (so_far s a (number s.width x y)) x y (λ u v. significant_early s a t u v (omega (arith, k, below)) ∙ ap (λ k. so_far s a k u v) k) in
        let o : significant s a t x y ≡ old a x y =
        own (a x y) (moment s a x y) (significant s a t x y) (significant_is s a t x y) (let f = number_first s a x y in omega (arith, k, f)) in
        ap (λ l. true && (not l && touched_in s (significant s a t) x y)) o ∙ ap (λ u. true && (not (old a x y) && u)) seen
        ∙ at_new (old a x y) (touched_in s (so_far s a (number s.width x y)) x y) (spread s a x y) (pass_of s a x y) (spread_is s a x y)
        (cases_of s a x y (λ w. w.spread_is ∙ ap (λ n. nat_eq n 0) (sym w.pass_is)) (λ w. w.spread_is ∙ ap (λ n. nat_eq n 0) (sym w.pass_is)) (λ w. w.spread_is ∙ ap (λ n. nat_eq n 0) (sym w.pass_is)))

-- what is outside isn't due
due_outside : (s : BlockShape) (a : Field ℕ) (pass x y : ℕ) → is_inside s x y ≡ false → is_due s a pass x y ≡ false
unfolding is_due
due_outside s a pass x y i = ap (λ q. q && nat_eq (pass_of s a x y) pass) i

pub due_inside : (s : BlockShape) (a : Field ℕ) (pass x y : ℕ) → is_due s a pass x y ≡ true → (is_inside s x y ≡ true) × (pass_of s a x y ≡ pass)
unfolding is_due
due_inside s a pass x y e = let p = and_parts (is_inside s x y) (nat_eq (pass_of s a x y) pass) e in (p.0, same (pass_of s a x y) p.1)
  where
    same : (n : ℕ) → nat_eq n pass ≡ true → n ≡ pass
    same n e = grind (arith, nat_tests)

gated : (r a b : Bool) → (r ≡ true → a ≡ b) → (r && a) ≡ (r && b)
gated true a b h = h refl
gated false a b h = refl

pub spread_codes : (s : BlockShape) (a : Field ℕ) (j i k : ℕ) → is_spread s (significant s a (moment_at s 0 j i k)) j i k ≡ codes s a 0 j i k
spread_codes s a j i k =
    gated (of_rows (k % 8)) (is_inside s (column j k) (row i k) && (not (significant s a (moment_at s 0 j i k) (column j k) (row i k)) && touched_in s (significant s a (moment_at s 0 j i k)) (column j k) (row i k))) (is_due s a 0 (column j k) (row i k))
    (λ on_row. by_place s (column j k) (row i k) (is_inside s (column j k) (row i k) && (not (significant s a (moment_at s 0 j i k) (column j k) (row i k)) && touched_in s (significant s a (moment_at s 0 j i k)) (column j k) (row i k))) (is_due s a 0 (column j k) (row i k))
    (λ inside. spread_due s a (moment_at s 0 j i k) (column j k) (row i k) (moment_place s 0 j i k on_row (inside_parts s (column j k) (row i k) inside).0))
    (λ out. ap (λ q. q && (not (significant s a (moment_at s 0 j i k) (column j k) (row i k)) && touched_in s (significant s a (moment_at s 0 j i k)) (column j k) (row i k))) out)
    (due_outside s a 0 (column j k) (row i k)))

-- In the two later passes, a place is significant where it was before, or was found.
later_due : (s : BlockShape) (a : Field ℕ) (t x y : ℕ) → is_inside s x y ≡ true → visits s ≤ t → t ≤ 2 * visits s + number s.width x y
    → (significant s a t x y ≡ (old a x y || (nat_eq (a x y) 1 && spread s a x y))) × (spread_before s a t x y ≡ spread s a x y)
later_due s a t x y i h l =
    let below = number_below s x y i in (
      significant_is s a t x y
          ∙ cases_of s a x y
          (λ w. at_old (a x y) (nat_lt (moment s a x y) t) (spread s a x y) w.old_is)
          (λ w. at_spread (a x y) (moment s a x y) (spread s a x y) w.spread_is (let m = w.moment_is in omega (arith, m, below, h)))
          (λ w. at_left (a x y) (moment s a x y) (spread s a x y) w.spread_is (let m = w.moment_is in omega (arith, m, l))),
      at_inside (is_inside s x y) (spread s a x y) (number s.width x y) i (omega (arith, below, h)),
    )
  where
    at_old : (m : ℕ) (c p : Bool) → nat_le 2 m ≡ true → (nat_le 2 m || (nat_eq m 1 && c)) ≡ (nat_le 2 m || (nat_eq m 1 && p))
    at_old m c p e = grind (arith, nat_tests)

    at_spread : (m q : ℕ) (p : Bool) → p ≡ true → q < t → (nat_le 2 m || (nat_eq m 1 && nat_lt q t)) ≡ (nat_le 2 m || (nat_eq m 1 && p))
    at_spread m q p e f = grind (arith, nat_tests)

    at_left : (m q : ℕ) (p : Bool) → p ≡ false → t ≤ q → (nat_le 2 m || (nat_eq m 1 && nat_lt q t)) ≡ (nat_le 2 m || (nat_eq m 1 && p))
    at_left m q p e f = grind (arith, nat_tests)

    at_inside : (i p : Bool) (n : ℕ) → i ≡ true → n < t → (i && (p && nat_lt n t)) ≡ p
    at_inside i p n e f = grind (arith, nat_tests)

-- refinement and cleanup
pub older_codes : (s : BlockShape) (a : Field ℕ) (t j i k : ℕ) → ((x y : ℕ) → is_inside s x y ≡ false → a x y ≡ 0) → visits s ≤ t → t ≤ 2 * visits s
    → (of_rows (k % 8) && (significant s a t (column j k) (row i k) && not (spread_before s a t (column j k) (row i k)))) ≡ codes s a 1 j i k
unfolding is_due
older_codes s a t j i k none h l = ap (λ q. of_rows (k % 8) && q) (at (column j k) (row i k))
  where
    gate : (m : ℕ) (l b p i : Bool) (n : ℕ) → l ≡ (nat_le 2 m || (nat_eq m 1 && p)) → b ≡ p → i ≡ true → (nat_le 2 m ≡ true → p ≡ false) → nat_le 2 m ≡ nat_eq n 1 → (l && not b) ≡ (i && nat_eq n 1)
    gate m l b p i n e f g o q = by_test (nat_le 2 m) (λ w. let o0 = o w in grind (arith, nat_tests)) (λ w. grind (arith, nat_tests))

    dark : (m : ℕ) (l c q : Bool) → m ≡ 0 → l ≡ (nat_le 2 m || (nat_eq m 1 && c)) → (l && q) ≡ false
    dark m l c q e f = grind (arith, nat_tests)

    at : (x y : ℕ) → (significant s a t x y && not (spread_before s a t x y)) ≡ is_due s a 1 x y
    at x y = by_test (is_inside s x y)
        (λ i. let d = later_due s a t x y i h (omega (arith, l)) in
        gate (a x y) (significant s a t x y) (spread_before s a t x y) (spread s a x y) (is_inside s x y) (pass_of s a x y) d.0 d.1 i
        (λ o. cases_of s a x y (λ w. w.spread_is) (λ w. absurd (let f = w.old_is in let c : true ≡ false = sym o ∙ f in cc)) (λ w. w.spread_is))
        (cases_of s a x y (λ w. w.old_is ∙ ap (λ n. nat_eq n 1) (sym w.pass_is)) (λ w. w.old_is ∙ ap (λ n. nat_eq n 1) (sym w.pass_is)) (λ w. w.old_is ∙ ap (λ n. nat_eq n 1) (sym w.pass_is))))
        (λ i. dark (a x y) (significant s a t x y) (is_coded s a t x y) (not (spread_before s a t x y)) (none x y i) (significant_is s a t x y) ∙ sym (ap (λ q. q && nat_eq (pass_of s a x y) 1) i))

pub left_codes : (s : BlockShape) (a : Field ℕ) (j i k : ℕ) → k < 64
    → (of_rows (k % 8) && (is_inside s (column j k) (row i k) && (not (significant s a (moment_at s 2 j i 0) (column j k) (row i k)) && not (spread_before s a (moment_at s 2 j i 0) (column j k) (row i k))))) ≡ codes s a 2 j i k
unfolding is_due
left_codes s a j i k within =
    gated (of_rows (k % 8)) (is_inside s x y && (not (significant s a t x y) && not (spread_before s a t x y))) (is_due s a 2 x y)
    (λ on_row. by_test (is_inside s x y)
    (λ i. let b = moment_bound s 2 j row_of k on_row (inside_parts s x y i).0 in
    let d = later_due s a t x y i (omega (arith, b)) b.1 in
    gate (a x y) (significant s a t x y) (spread_before s a t x y) (spread s a x y) (is_inside s x y) (pass_of s a x y) d.0 d.1 i
    (λ o. cases_of s a x y (λ w. w.pass_is) (λ w. absurd (let f = w.old_is in let c : true ≡ false = sym o ∙ f in cc)) (λ w. absurd (let f = w.old_is in let c : true ≡ false = sym o ∙ f in cc)))
    (λ p. cases_of s a x y (λ w. absurd (let f = w.spread_is in let c : true ≡ false = sym p ∙ f in cc)) (λ w. w.pass_is) (λ w. absurd (let f = w.spread_is in let c : true ≡ false = sym p ∙ f in cc)))
    (λ o p. cases_of s a x y (λ w. absurd (let f = w.old_is in let c : true ≡ false = sym f ∙ o in cc)) (λ w. absurd (let f = w.spread_is in let c : true ≡ false = sym f ∙ p in cc)) (λ w. w.pass_is)))
    (λ i. ap (λ q. q && (not (significant s a t x y) && not (spread_before s a t x y))) i ∙ sym (ap (λ q. q && nat_eq (pass_of s a x y) 2) i)))
  where
    x : ℕ
    x = column j k

    y : ℕ
    y = row i k

    row_of : ℕ
    row_of = i

    t : ℕ
    t = moment_at s 2 j i 0

    gate : (m : ℕ) (l b p i : Bool) (n : ℕ) → l ≡ (nat_le 2 m || (nat_eq m 1 && p)) → b ≡ p → i ≡ true → (nat_le 2 m ≡ true → n ≡ 1) → (p ≡ true → n ≡ 0) → (nat_le 2 m ≡ false → p ≡ false → n ≡ 2)
        → (i && (not l && not b)) ≡ (i && nat_eq n 2)
    gate m l b p i n e f g u v w = by_test (nat_le 2 m)
        (λ o. let u0 = u o in grind (arith, nat_tests))
        (λ o. by_test p (λ q. let v0 = v q in grind (arith, nat_tests)) (λ q. let w0 = w o q in grind (arith, nat_tests)))

-- a row of a quiet column is left to the cleanup pass, and the other way round
row_test : (s : BlockShape) (a : Field ℕ) (x i k : ℕ) → x < s.width → k < 4 → 4 * i + 4 ≤ s.height
    → (not (significant s a (start s 2 x i) x (4 * i + k)) && not (touched_in s (significant s a (start s 2 x i)) x (4 * i + k))) ≡ row_left s a (start s 2 x i) x (4 * i + k)
unfolding start row_left
row_test s a x i k narrow l high =
    let y = 4 * i + k in
    let t = start s 2 x i in
    let inside : is_inside s x y ≡ true = both (nat_lt x s.width) (nat_lt y s.height) (grind (arith, nat_tests)) (grind (arith, nat_tests)) in
    let n = number_row s.width x i k l in
    let below = number_below s x y inside in
    let early : number s.width x y ≤ 2 * visits s + 4 * (s.width * i + x) = omega (arith, n, below) in
    let late : 2 * visits s + 4 * (s.width * i + x) ≤ 2 * visits s + number s.width x y = omega (arith, n) in
    let room : number s.width x y ≤ visits s = omega (arith, below) in
    gate (touched_in s (significant s a t) x y) (significant s a t x y) (pass_of s a x y) (λ quiet.
    cases_of s a x y
    (λ w. at (significant s a t x y) true (pass_of s a x y) 1 (significant_is s a t x y ∙ ap (λ o. o || (nat_eq (a x y) 1 && is_coded s a t x y)) w.old_is) w.pass_is refl)
    (λ w. absurd (spread_touches s a t x y room early w.spread_is quiet))
    (λ w. at (significant s a t x y) false (pass_of s a x y) 2 (significant_is s a t x y ∙ not_yet (a x y) (moment s a x y) (2 * visits s + number s.width x y) w.old_is w.moment_is late) w.pass_is refl))
  where
    both : (p q : Bool) → p ≡ true → q ≡ true → (p && q) ≡ true
    both p q e g = cc

    at : (l o : Bool) (n m : ℕ) → l ≡ o → n ≡ m → not o ≡ nat_eq m 2 → not l ≡ nat_eq n 2
    at l o n m e g h = ap not e ∙ h ∙ ap (λ n. nat_eq n 2) (sym g)

    gate : (u l : Bool) (n : ℕ) → (u ≡ false → not l ≡ nat_eq n 2) → (not l && not u) ≡ (nat_eq n 2 && not u)
    gate true l n h = neither (not l) (nat_eq n 2)
    gate false l n h = ap (λ p. p && true) (h refl)

    not_yet : (m q r : ℕ) → nat_le 2 m ≡ false → q ≡ r → start s 2 x i ≤ r → (nat_le 2 m || (nat_eq m 1 && nat_lt q (start s 2 x i))) ≡ false
    not_yet m q r o e h = grind (arith, nat_tests)

quiet_runs : (s : BlockShape) (a : Field ℕ) (x i : ℕ) → x < s.width → is_quiet s (significant s a (start s 2 x i)) x i ≡ in_run_mode s a x i
unfolding is_quiet rows_left row_left
quiet_runs s a x i narrow =
    four (nat_le (4 * i + 4) s.height) (q 0) (q 1) (q 2) (q 3) (row_left s a t x (4 * i + 0)) (row_left s a t x (4 * i + 1)) (row_left s a t x (4 * i + 2)) (row_left s a t x (4 * i + 3))
    (λ h. row_test s a x i 0 narrow (omega arith) (high h)) (λ h. row_test s a x i 1 narrow (omega arith) (high h)) (λ h. row_test s a x i 2 narrow (omega arith) (high h)) (λ h. row_test s a x i 3 narrow (omega arith) (high h))
    ∙ sym (runs_is s a x i)
  where
    t : ℕ
    t = start s 2 x i

    q : ℕ → Bool
    q j = not (significant s a t x (4 * i + j)) && not (touched_in s (significant s a t) x (4 * i + j))

    high : nat_le (4 * i + 4) s.height ≡ true → 4 * i + 4 ≤ s.height
    high h = grind (arith, nat_tests)

-- run mode
pub still_runs : (s : BlockShape) (a : Field ℕ) (j i c : ℕ) → is_still s (significant s a (moment_at s 2 j i (8 * c))) j i c ≡ is_run s a 2 j i c
unfolding start
still_runs s a j i c =
    gated (nat_lt (8 * j + c) s.width) (is_quiet s (significant s a (moment_at s 2 j i (8 * c))) (8 * j + c) i) (true && in_run_mode s a (8 * j + c) i)
    (λ w. let narrow : 8 * j + c < s.width = grind (arith, nat_tests) in
    ap (λ t. is_quiet s (significant s a t) (8 * j + c) i) (moment_column s 2 j i c narrow) ∙ quiet_runs s a (8 * j + c) i narrow)
