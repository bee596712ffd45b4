-- Rows of a column, and rows without a 1.
use Rattle.std.proofs.Common.{◌≡◌, ℕ, zero, suc, ◌+◌, ◌*◌, ◌/◌, ◌^◌, ◌<◌, ◌≤◌, Bool, true, false, cond, List, refl, sym, ap, ◌∙◌, subst, arith}
use Rattle.std.specs.Prelude.{◌&&◌, ◌||◌, nat_eq, nat_lt, nat_le}
use Rattle.std.proofs.lemmas.Bool.Decides.{nat_tests}
use Rattle.jk_scan.specs.declared.shape.BlockShape.{BlockShape}
use Rattle.jk_scan.specs.Neighbours.{Field, is_inside}
use Rattle.jk_scan.specs.Moments.{number, stripes, visits, pass_of, moment, is_coded}
use Rattle.jk_scan.specs.Passes.{BlockAtPlane, is_one, place_decisions, rows_decisions, first_one}
use Rattle.jk_scan.proofs.Laws.{number_row, number_room, significant_is, moment_is}
use Rattle.jk_block.specs.Reading.{Progress, place_at, rows_at}
use Rattle.jk_block.proofs.Stages.{mags, Cut, Like, Stage, stage_times, stage_at}
use Rattle.jk_block.proofs.Changes.{Due, Change, mags_inside, change_cut, change_only}
use Rattle.jk_block.proofs.Coding.{zero_change, with_visited}
use Rattle.jk_block.proofs.Places.{stage_place, kept_visits}

-- the moment at which a column begins
unfoldable pub start : BlockShape → (pass x i : ℕ) → ℕ
start s pass x i = pass * visits s + 4 * (s.width * i + x)

pub stage_rows : (bytes : List ℕ) (s : BlockShape) (b pass x i j n : ℕ) → x < s.width → i < stripes s → pass < 3 → j + n ≤ 4
    → Stage bytes s b (start s pass x i + j) (start s pass x i + (j + n)) (rows_at bytes s b pass x i j n) (λ p. rows_decisions s p pass x i j n)
unfolding start
stage_rows bytes s b pass x i j n narrow stripe few rows =
    let t : ℕ → ℕ = λ k. start s pass x i + (j + k) in
    stage_at bytes s b (t 0) (t n) (start s pass x i + j) (start s pass x i + (j + n)) (rows_at bytes s b pass x i j n) (λ p. rows_decisions s p pass x i j n) (ap (λ k. start s pass x i + k) (let e : j + 0 ≡ j = omega arith in e)) refl
    (stage_times bytes s b t (λ k. place_at bytes s b pass x (4 * i + (j + k))) (λ k p. place_decisions s p pass x (4 * i + (j + k))) n
    (λ k h.
    stage_at bytes s b (t k) (t k + 1) (t k) (t (suc k)) (place_at bytes s b pass x (4 * i + (j + k))) (λ p. place_decisions s p pass x (4 * i + (j + k))) refl
    (let e : pass * visits s + 4 * (s.width * i + x) + (j + k) + 1 ≡ pass * visits s + 4 * (s.width * i + x) + (j + suc k) = omega arith in e)
    (stage_place bytes s b (t k) pass x (4 * i + (j + k)) narrow (number_room s x i (j + k) narrow stripe (omega arith)) few
    (let e = number_row s.width x i (j + k) (omega arith) in let g : pass * visits s + 4 * (s.width * i + x) + (j + k) ≡ pass * visits s + number s.width x (4 * i + (j + k)) = omega (arith, e) in g))))

-- A column that is left to run mode: at its beginning nothing in it is held, and all of it is left
-- to the cleanup pass.
pub record Still (s : BlockShape) (b x i : ℕ) (z : Progress) : Type 0 where
  pub narrow : x < s.width
  pub stripe : i < stripes s
  pub inside : (k : ℕ) → k < 4 → is_inside s x (4 * i + k) ≡ true
  pub left : (k : ℕ) → k < 4 → pass_of s (mags s b z) x (4 * i + k) ≡ 2
  pub empty : (k : ℕ) → k < 4 → z.magnitude x (4 * i + k) ≡ 0

pub due_row : (s : BlockShape) (b x i k : ℕ) (z : Progress) → Still s b x i z → k < 4 → Due s b (start s 2 x i + k) 2 x (4 * i + k) z
unfolding start
due_row s b x i k z h l = record {
  inside = h.inside k l;
  pass_is = h.left k l;
  now = let e = number_row s.width x i k l in let g : 2 * visits s + 4 * (s.width * i + x) + k ≡ 2 * visits s + number s.width x (4 * i + k) = omega (arith, e) in g;
}

pub no_change : (s : BlockShape) (b x y : ℕ) (z : Progress) → Change s b 2 x y z z false
unfolding with_visited
no_change s b x y z = zero_change s b 2 x y z z.visited z.coder (kept_visits x y 1 z.visited)

-- rows without a 1
pub zeros_cut : (s : BlockShape) (b x i f : ℕ) (z : Progress) → Still s b x i z → f ≤ 4 → Cut s b (start s 2 x i) z → Cut s b (start s 2 x i + f) z
zeros_cut s b x i zero z h l c = subst (λ (t : ℕ). Cut s b t z) (let e : start s 2 x i ≡ start s 2 x i + 0 = omega arith in e) c
zeros_cut s b x i (suc f) z h l c =
    subst (λ (t : ℕ). Cut s b t z) (let e : start s 2 x i + f + 1 ≡ start s 2 x i + suc f = omega arith in e)
    (change_cut s b (start s 2 x i + f) 2 x (4 * i + f) z z false (zeros_cut s b x i f z h (omega arith) c) (due_row s b x i f z h (omega arith)) (no_change s b x (4 * i + f) z))

pub row_dark : (s : BlockShape) (b x i k : ℕ) (z : Progress) → Still s b x i z → k < 4 → mags s b z x (4 * i + k) ≡ 0
row_dark s b x i k z h l = mags_inside s b z x (4 * i + k) (h.inside k l) ∙ ap (λ m. m / 2 ^ b) (h.empty k l) ∙ (let e : 0 / 2 ^ b ≡ 0 = omega arith in e)

pub zeros_only : (s : BlockShape) (b x i f : ℕ) (z : Progress) (p : BlockAtPlane) → Still s b x i z → f ≤ 4 → Cut s b (start s 2 x i) z → ((k : ℕ) → k < f → is_one (p.magnitude x (4 * i + k)) ≡ false)
    → Like s b (start s 2 x i) z p → Like s b (start s 2 x i + f) z p
zeros_only s b x i zero z p h l c none like = subst (λ (t : ℕ). Like s b t z p) (let e : start s 2 x i ≡ start s 2 x i + 0 = omega arith in e) like
zeros_only s b x i (suc f) z p h l c none like =
    subst (λ (t : ℕ). Like s b t z p) (let e : start s 2 x i + f + 1 ≡ start s 2 x i + suc f = omega arith in e)
    (change_only s b (start s 2 x i + f) 2 x (4 * i + f) z z false p (zeros_cut s b x i f z h (omega arith) c) (due_row s b x i f z h (omega arith)) (no_change s b x (4 * i + f) z)
    (zeros_only s b x i f z p h (omega arith) c (λ k q. none k (omega arith)) like) (sym (none f (omega arith)))
    (λ e. absurd (gate (mags s b z x (4 * i + f)) (is_coded s (mags s b z) (start s 2 x i + f + 1) x (4 * i + f)) (row_dark s b x i f z h (omega arith)) (sym (significant_is s (mags s b z) (start s 2 x i + f + 1) x (4 * i + f)) ∙ e))))
  where
    gate : (m : ℕ) (d : Bool) → m ≡ 0 → (nat_le 2 m || (nat_eq m 1 && d)) ≡ true → ⊥
    gate m d e h = grind (arith, nat_tests)

-- a row of the block is empty, where it was passed as empty
pub rows_zero : (s : BlockShape) (b x i k u : ℕ) (z : Progress) (p : BlockAtPlane) → Still s b x i z → k < 4 → k < u → Like s b (start s 2 x i + u) z p → p.magnitude x (4 * i + k) ≡ 0
rows_zero s b x i k u z p h l q like =
    sym (like.agree.coded x (4 * i + k) (early (moment s (mags s b z) x (4 * i + k)) at)) ∙ row_dark s b x i k z h l
  where
    at : moment s (mags s b z) x (4 * i + k) ≡ start s 2 x i + k
    at = let d = due_row s b x i k z h l in moment_is s (mags s b z) x (4 * i + k) ∙ ap (λ n. n * visits s + number s.width x (4 * i + k)) d.pass_is ∙ sym d.now

    early : (m : ℕ) → m ≡ start s 2 x i + k → nat_lt m (start s 2 x i + u) ≡ true
    early m e = grind (arith, nat_tests)

-- the first row with a 1
pub first_is : (a : Field ℕ) (x i f : ℕ) → f ≤ 4 → ((k : ℕ) → k < f → is_one (a x (4 * i + k)) ≡ false) → (f < 4 → is_one (a x (4 * i + f)) ≡ true) → first_one a x i ≡ f
unfolding first_one
first_is a x i f l below here =
    by_bits f (is_one (a x (4 * i + 0))) (is_one (a x (4 * i + 1))) (is_one (a x (4 * i + 2))) (is_one (a x (4 * i + 3))) l (λ h. below 0 h) (λ h. below 1 h) (λ h. below 2 h) (λ h. below 3 h)
    (λ e. ap (λ k. is_one (a x (4 * i + k))) e ∙ here (omega arith)) (λ e. ap (λ k. is_one (a x (4 * i + k))) e ∙ here (omega arith))
    (λ e. ap (λ k. is_one (a x (4 * i + k))) e ∙ here (omega arith)) (λ e. ap (λ k. is_one (a x (4 * i + k))) e ∙ here (omega arith))
  where
    by_bits : (f : ℕ) (b0 b1 b2 b3 : Bool) → f ≤ 4 → (0 < f → b0 ≡ false) → (1 < f → b1 ≡ false) → (2 < f → b2 ≡ false) → (3 < f → b3 ≡ false) → (0 ≡ f → b0 ≡ true) → (1 ≡ f → b1 ≡ true) → (2 ≡ f → b2 ≡ true) → (3 ≡ f → b3 ≡ true)
        → cond b0 0 (cond b1 1 (cond b2 2 (cond b3 3 4))) ≡ f
    by_bits f b0 b1 b2 b3 l c0 c1 c2 c3 d0 d1 d2 d3 = grind (arith, nat_tests)

pub record First (a : Field ℕ) (x i f : ℕ) : Type 0 where
  pub most : f ≤ 4
  pub below : (k : ℕ) → k < f → is_one (a x (4 * i + k)) ≡ false
  pub here : f < 4 → is_one (a x (4 * i + f)) ≡ true

pub row_two : (a : Field ℕ) (x i k : ℕ) → k < 2 → is_one (a x (4 * i + 0)) ≡ false → is_one (a x (4 * i + 1)) ≡ false → is_one (a x (4 * i + k)) ≡ false
row_two a x i zero l e0 e1 = e0
row_two a x i (suc zero) l e0 e1 = e1
row_two a x i (suc (suc k)) l e0 e1 = absurd (omega arith)

pub row_three : (a : Field ℕ) (x i k : ℕ) → k < 3 → is_one (a x (4 * i + 0)) ≡ false → is_one (a x (4 * i + 1)) ≡ false → is_one (a x (4 * i + 2)) ≡ false → is_one (a x (4 * i + k)) ≡ false
row_three a x i zero l e0 e1 e2 = e0
row_three a x i (suc zero) l e0 e1 e2 = e1
row_three a x i (suc (suc zero)) l e0 e1 e2 = e2
row_three a x i (suc (suc (suc k))) l e0 e1 e2 = absurd (omega arith)

pub row_four : (a : Field ℕ) (x i k : ℕ) → k < 4 → is_one (a x (4 * i + 0)) ≡ false → is_one (a x (4 * i + 1)) ≡ false → is_one (a x (4 * i + 2)) ≡ false → is_one (a x (4 * i + 3)) ≡ false → is_one (a x (4 * i + k)) ≡ false
row_four a x i zero l e0 e1 e2 e3 = e0
row_four a x i (suc zero) l e0 e1 e2 e3 = e1
row_four a x i (suc (suc zero)) l e0 e1 e2 e3 = e2
row_four a x i (suc (suc (suc zero))) l e0 e1 e2 e3 = e3
row_four a x i (suc (suc (suc (suc k)))) l e0 e1 e2 e3 = absurd (omega arith)

pub first_has : (a : Field ℕ) (x i : ℕ) → First a x i (first_one a x i)
unfolding first_one
first_has a x i = by_bits (is_one (a x (4 * i + 0))) (is_one (a x (4 * i + 1))) (is_one (a x (4 * i + 2))) (is_one (a x (4 * i + 3))) refl refl refl refl
  where
    at : (k j : ℕ) (b : Bool) → k ≡ j → is_one (a x (4 * i + j)) ≡ b → is_one (a x (4 * i + k)) ≡ b
    at k j b e h = ap (λ k. is_one (a x (4 * i + k))) e ∙ h

    by_bits : (b0 b1 b2 b3 : Bool) → is_one (a x (4 * i + 0)) ≡ b0 → is_one (a x (4 * i + 1)) ≡ b1 → is_one (a x (4 * i + 2)) ≡ b2 → is_one (a x (4 * i + 3)) ≡ b3 → First a x i (cond b0 0 (cond b1 1 (cond b2 2 (cond b3 3 4))))
    by_bits true b1 b2 b3 e0 e1 e2 e3 = record { most = omega arith; below = λ k l. absurd (omega arith); here = λ _. e0 }
    by_bits false true b2 b3 e0 e1 e2 e3 = record { most = omega arith; below = λ k l. at k 0 false (omega arith) e0; here = λ _. e1 }
    by_bits false false true b3 e0 e1 e2 e3 = record { most = omega arith; below = λ k l. row_two a x i k l e0 e1; here = λ _. e2 }
    by_bits false false false true e0 e1 e2 e3 = record { most = omega arith; below = λ k l. row_three a x i k l e0 e1 e2; here = λ _. e3 }
    by_bits false false false false e0 e1 e2 e3 = record { most = omega arith; below = λ k l. row_four a x i k l e0 e1 e2 e3; here = λ l. absurd (omega arith) }
