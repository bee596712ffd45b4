-- Whole passes, bit-planes and blocks.
use Rattle.std.proofs.Common.{◌≡◌, ℕ, zero, suc, ◌+◌, ◌-◌, ◌*◌, ◌/◌, ◌%◌, ◌^◌, ◌<◌, ◌≤◌, Bool, true, false, cond, List, [], ◌∷◌, ◌++◌, Result, Ok, ℤ, unsigned_abs, refl, sym, ap, ◌∙◌, subst, inl, inr, arith}
use Rattle.std.specs.Prelude.{◌&&◌, ◌||◌, nat_eq, nat_lt, nat_le}
use Rattle.std.specs.Int.{is_negative}
use Rattle.std.proofs.lemmas.Bool.{cases_lt}
use Rattle.std.proofs.lemmas.Bool.Decides.{nat_tests}
use Rattle.std.proofs.lemmas.Nat.{pow_pos, div-mul-add}
use Rattle.std.proofs.lemmas.Grind.{pow_more}
use Rattle.std.proofs.Math.Nat.{div-div-eq-div-mul, div-eq_of_lt, lt-div-mul-add}
use Rattle.jk_math.specs.declared.fault.Fault.{Fault}
use Rattle.jk_math.specs.Answer.{◌>>=◌}
use Rattle.jk_math.specs.Steps.{bind_then, ok_is}
use Rattle.jk_model.specs.Decisions.{State, initial, state_after, SpellsFrom}
use Rattle.jk_model.specs.CodingPasses.{begun_by, state_after_passes, SpellsPassesFrom}
use Rattle.jk_model.proofs.Laws.{passes-split, state_after_passes-joined}
use Rattle.jk_scan.specs.declared.shape.BlockShape.{BlockShape}
use Rattle.jk_scan.specs.Neighbours.{Field, is_inside}
use Rattle.jk_scan.specs.Moments.{number, stripes, visits, spread, moment, is_coded}
use Rattle.jk_scan.specs.Passes.{joined, column_decisions, plane_decisions}
use Rattle.jk_scan.proofs.Laws.{significant_is, cases_of, number_below, empty_spread}
use Rattle.jk_block.specs.Symbols.{closing_decisions}
use Rattle.jk_block.specs.Meaning.{plane_of, kind_of, plane_at, whole_decisions, pass_decisions}
use Rattle.jk_block.specs.Reading.{Progress, blank, times, column_at, stripe_at, plane_pass_at, begun, with_coder, with_contexts, closing_at, pass_at}
use Rattle.jk_block.proofs.Spelling.{ToldPasses, told_more}
use Rattle.jk_block.proofs.Stages.{mags, Cut, Like, Stage, stage_then, stage_times, stage_at}
use Rattle.jk_block.proofs.Changes.{mags_inside, mags_outside}
use Rattle.jk_block.proofs.Coding.{with_visited}
use Rattle.jk_block.proofs.Rows.{start}
use Rattle.jk_block.proofs.Columns.{stage_column}
use Rattle.jk_block.proofs.Closing.{stage_closing}

-- a pass over a bit-plane
pub stage_plane : (bytes : List ℕ) (s : BlockShape) (b pass : ℕ) → pass < 3 → Stage bytes s b (pass * visits s) (pass * visits s + visits s) (plane_pass_at bytes s b pass) (λ p. plane_decisions s p pass)
unfolding plane_pass_at stripe_at plane_decisions start visits
stage_plane bytes s b pass few =
    let t : ℕ → ℕ = λ i. start s pass 0 i in
    stage_at bytes s b (t 0) (t (stripes s)) (pass * visits s) (pass * visits s + visits s) (plane_pass_at bytes s b pass) (λ p. plane_decisions s p pass)
    (omega arith) (omega arith)
    (stage_times bytes s b t (λ i. stripe_at bytes s b pass i) (λ i p. joined s.width (λ x. column_decisions s p pass x i)) (stripes s)
    (λ i h.
    let u : ℕ → ℕ = λ x. start s pass x i in
    stage_at bytes s b (u 0) (u s.width) (t i) (t (suc i)) (stripe_at bytes s b pass i) (λ p. joined s.width (λ x. column_decisions s p pass x i)) refl
    (let e : pass * (4 * (s.width * stripes s)) + 4 * (s.width * i + s.width) ≡ pass * (4 * (s.width * stripes s)) + 4 * (s.width * suc i + 0) = omega arith in e)
    (stage_times bytes s b u (λ x. column_at bytes s b pass x i) (λ x p. column_decisions s p pass x i) s.width
    (λ x l.
    stage_at bytes s b (u x) (u x + 4) (u x) (u (suc x)) (column_at bytes s b pass x i) (λ p. column_decisions s p pass x i) refl
    (let e : pass * (4 * (s.width * stripes s)) + 4 * (s.width * i + x) + 4 ≡ pass * (4 * (s.width * stripes s)) + 4 * (s.width * i + suc x) = omega arith in e)
    (stage_column bytes s b pass x i l h few)))))

-- a pass with what ends it
pub stage_pass : (bytes : List ℕ) (s : BlockShape) (b pass : ℕ) → pass < 3
    → Stage bytes s b (pass * visits s) (pass * visits s + visits s) (λ z. plane_pass_at bytes s b pass z >>= closing_at bytes s.style pass) (λ p. whole_decisions s p pass)
stage_pass bytes s b pass few =
    let t = pass * visits s in
    stage_then bytes s b t (t + visits s) (t + visits s) (plane_pass_at bytes s b pass) (closing_at bytes s.style pass) (λ p. plane_decisions s p pass) (λ p. closing_decisions s.style pass)
    (stage_plane bytes s b pass few) (stage_closing bytes s b (t + visits s) pass)

inside_or : {R : Type 0} (b : Bool) → (b ≡ true → R) → (b ≡ false → R) → R
inside_or true f g = f refl
inside_or false f g = g refl

-- a plane further down
half_power : (m b : ℕ) → m / 2 ^ (b + 1) ≡ m / 2 ^ b / 2
half_power m b = ap (λ p. m / p) (pow_more 2 b) ∙ sym (div-div-eq-div-mul m (2 ^ b) 2)

lower_mags : (s : BlockShape) (b : ℕ) (z : Progress) (x y : ℕ) → mags s (b + 1) z x y ≡ mags s b z x y / 2
lower_mags s b z x y = inside_or (is_inside s x y)
    (λ i. mags_inside s (b + 1) z x y i ∙ half_power (z.magnitude x y) b ∙ ap (λ m. m / 2) (sym (mags_inside s b z x y i)))
    (λ i. mags_outside s (b + 1) z x y i ∙ (let e : 0 ≡ 0 / 2 = omega arith in e) ∙ ap (λ m. m / 2) (sym (mags_outside s b z x y i)))

pub lower_plane : (s : BlockShape) (b : ℕ) (q : Field ℤ) (x y : ℕ) → (plane_at s (b + 1) q).magnitude x y ≡ (plane_at s b q).magnitude x y / 2
unfolding plane_at
lower_plane s b q x y = by (is_inside s x y)
  where
    by : (i : Bool) → cond i (unsigned_abs (q x y) / 2 ^ (b + 1)) 0 ≡ cond i (unsigned_abs (q x y) / 2 ^ b) 0 / 2
    by true = half_power (unsigned_abs (q x y)) b
    by false = let e : 0 ≡ 0 / 2 = omega arith in e

pub plane_outside : (s : BlockShape) (b : ℕ) (q : Field ℤ) (x y : ℕ) → is_inside s x y ≡ false → (plane_at s b q).magnitude x y ≡ 0
unfolding plane_at
plane_outside s b q x y h = ap (λ i. cond i (unsigned_abs (q x y) / 2 ^ b) 0) h

pub plane_inside : (s : BlockShape) (b : ℕ) (q : Field ℤ) (x y : ℕ) → is_inside s x y ≡ true → (plane_at s b q).magnitude x y ≡ unsigned_abs (q x y) / 2 ^ b
unfolding plane_at
plane_inside s b q x y h = ap (λ i. cond i (unsigned_abs (q x y) / 2 ^ b) 0) h

pub plane_negative : (s : BlockShape) (b : ℕ) (q : Field ℤ) (x y : ℕ) → (plane_at s b q).negative x y ≡ is_negative (q x y)
unfolding plane_at
plane_negative s b q x y = refl

-- twice as many units of half the size
doubled_mags : (s : BlockShape) (b t : ℕ) (z : Progress) → Cut s (b + 1) t z → (x y : ℕ) → is_inside s x y ≡ true → mags s b z x y ≡ 2 * mags s (b + 1) z x y
doubled_mags s b t z c x y i =
    mags_inside s b z x y i ∙ ap (λ m. m / 2 ^ b) (c.whole x y i ∙ twice (mags s (b + 1) z x y)) ∙ over_power (2 * mags s (b + 1) z x y) (2 ^ b) (pow_pos b)
  where
    twice : (a : ℕ) → a * 2 ^ (b + 1) ≡ 2 * a * 2 ^ b
    twice a = let e = pow_more 2 b in ap (λ p. a * p) e ∙ (let g : a * (2 ^ b * 2) ≡ 2 * a * 2 ^ b = omega arith in g)

    over_power : (n p : ℕ) → 0 < p → n * p / p ≡ n
    over_power n p h = ap (λ m. m / p) (let e : n * p ≡ n * p + 0 = omega arith in e) ∙ div-mul-add n p 0 h

pub lower_cut : (s : BlockShape) (b t : ℕ) (z : Progress) → Cut s (b + 1) t z → Cut s b 0 (begun 0 z)
lower_cut s b t z c = record {
  whole = λ x y i. c.whole x y i ∙ parts (mags s (b + 1) z x y) (mags s b z x y) (doubled_mags s b t z c x y i);
  even = λ x y i e. let d = doubled_mags s b t z c x y i in ap (λ m. m % 2) d ∙ (let g : 2 * mags s (b + 1) z x y % 2 ≡ 0 = omega arith in g);
  visited = λ x y i. none (number s.width x y) (spread s (mags s b z) x y);
}
  where
    parts : (a d : ℕ) → d ≡ 2 * a → a * 2 ^ (b + 1) ≡ d * 2 ^ b
    parts a d e = ap (λ p. a * p) (pow_more 2 b) ∙ (let g : a * (2 ^ b * 2) ≡ 2 * a * 2 ^ b = omega arith in g) ∙ ap (λ d. d * 2 ^ b) (sym e)

    none : (n : ℕ) (p : Bool) → false ≡ (p && nat_lt n 0)
    none n p = grind (arith, nat_tests)

-- at the end of a plane all is coded
all_coded : (s : BlockShape) (a : Field ℕ) (x y : ℕ) → is_inside s x y ≡ true → is_coded s a (2 * visits s + visits s) x y ≡ true
all_coded s a x y i =
    let n = number_below s x y i in
    cases_of s a x y (λ w. at (moment s a x y) 1 (omega arith) w.moment_is n) (λ w. at (moment s a x y) 0 (omega arith) w.moment_is n) (λ w. at (moment s a x y) 2 (omega arith) w.moment_is n)
  where
    at : (m p : ℕ) → p < 3 → m ≡ p * visits s + number s.width x y → number s.width x y < visits s → nat_lt m (2 * visits s + visits s) ≡ true
    at m zero l e h = grind (arith, nat_tests)
    at m (suc zero) l e h = grind (arith, nat_tests)
    at m (suc (suc zero)) l e h = grind (arith, nat_tests)
    at m (suc (suc (suc p))) l e h = absurd (omega arith)

-- at its start nothing is
none_coded : (s : BlockShape) (a : Field ℕ) (x y : ℕ) → is_coded s a 0 x y ≡ true → ⊥
none_coded s a x y e = by (moment s a x y) e
  where
    by : (m : ℕ) → nat_lt m 0 ≡ true → ⊥
    by m e = grind (arith, nat_tests)

lower_back : (s : BlockShape) (b : ℕ) (z : Progress) (q : Field ℤ) → Like s b 0 (begun 0 z) (plane_at s b q) → Like s (b + 1) (2 * visits s + visits s) z (plane_at s (b + 1) q)
lower_back s b z q l =
    let same : (x y : ℕ) → mags s (b + 1) z x y ≡ (plane_at s (b + 1) q).magnitude x y = λ x y. lower_mags s b z x y ∙ l.agree.halves x y ∙ sym (lower_plane s b q x y) in
    record {
      agree = record { halves = λ x y. ap (λ m. m / 2) (same x y); coded = λ x y e. same x y };
      outside = plane_outside s (b + 1) q;
      signs = λ x y e. l.signs x y (significant_is s (mags s b z) 0 x y ∙ old_now (mags s (b + 1) z x y) (mags s b z x y) (is_coded s (mags s (b + 1) z) (2 * visits s + visits s) x y) (is_coded s (mags s b z) 0 x y) (lower_mags s b z x y) (sym (significant_is s (mags s (b + 1) z) (2 * visits s + visits s) x y) ∙ e))
          ∙ plane_negative s b q x y ∙ sym (plane_negative s (b + 1) q x y);
    }
  where
    old_now : (a d : ℕ) (c c' : Bool) → a ≡ d / 2 → (nat_le 2 a || (nat_eq a 1 && c)) ≡ true → (nat_le 2 d || (nat_eq d 1 && c')) ≡ true
    old_now a d c c' e h = grind (arith, nat_tests)

lower_only : (s : BlockShape) (b : ℕ) (z : Progress) (q : Field ℤ) → Cut s (b + 1) (2 * visits s + visits s) z → Like s (b + 1) (2 * visits s + visits s) z (plane_at s (b + 1) q) → Like s b 0 (begun 0 z) (plane_at s b q)
lower_only s b z q c l =
    let t = 2 * visits s + visits s in
    let same : (x y : ℕ) → mags s (b + 1) z x y ≡ (plane_at s (b + 1) q).magnitude x y = λ x y. inside_or (is_inside s x y)
    (λ i. l.agree.coded x y (all_coded s (mags s (b + 1) z) x y i))
    (λ i. mags_outside s (b + 1) z x y i ∙ sym (plane_outside s (b + 1) q x y i)) in
    record {
      agree = record {
        halves = λ x y. sym (lower_mags s b z x y) ∙ same x y ∙ lower_plane s b q x y;
        coded = λ x y e. absurd (none_coded s (mags s b z) x y e);
      };
      outside = plane_outside s b q;
      signs = λ x y e. inside_or (is_inside s x y)
          (λ i. l.signs x y (significant_is s (mags s (b + 1) z) t x y ∙ still (mags s (b + 1) z x y) (mags s b z x y) (is_coded s (mags s (b + 1) z) t x y) (is_coded s (mags s b z) 0 x y) (lower_mags s b z x y) (all_coded s (mags s (b + 1) z) x y i)
          (none_coded s (mags s b z) x y) (sym (significant_is s (mags s b z) 0 x y) ∙ e)) ∙ plane_negative s (b + 1) q x y ∙ sym (plane_negative s b q x y))
          (λ i. absurd (unlit (mags s b z x y) (is_coded s (mags s b z) 0 x y) (mags_outside s b z x y i) (sym (significant_is s (mags s b z) 0 x y) ∙ e)));
    }
  where
    unlit : (m : ℕ) (d : Bool) → m ≡ 0 → (nat_le 2 m || (nat_eq m 1 && d)) ≡ true → ⊥
    unlit m d e h = grind (arith, nat_tests)

    still : (a d : ℕ) (c c' : Bool) → a ≡ d / 2 → c ≡ true → (c' ≡ true → ⊥) → (nat_le 2 d || (nat_eq d 1 && c')) ≡ true → (nat_le 2 a || (nat_eq a 1 && c)) ≡ true
    still a d c true e k n h = absurd (n refl)
    still a d c false e k n h = grind (arith, nat_tests)

-- the start
blank_mags : (s : BlockShape) (b x y : ℕ) → mags s b blank x y ≡ 0
blank_mags s b x y = by (is_inside s x y)
  where
    by : (i : Bool) → cond i (0 / 2 ^ b) 0 ≡ 0
    by true = omega arith
    by false = refl

blank_cut : (s : BlockShape) (b t : ℕ) → Cut s b t blank
blank_cut s b t = record {
  whole = λ x y i. (let e : 0 ≡ 0 * 2 ^ b = omega arith in e) ∙ ap (λ m. m * 2 ^ b) (sym (blank_mags s b x y));
  even = λ x y i e. ap (λ m. m % 2) (blank_mags s b x y);
  visited = λ x y i. ap (λ p. p && nat_lt (number s.width x y) t) (sym (empty_spread s (mags s b blank) x y (blank_mags s b)));
}

blank_like : (s : BlockShape) (b : ℕ) (q : Field ℤ) → ((x y : ℕ) → is_inside s x y ≡ true → unsigned_abs (q x y) < 2 ^ (b + 1)) → Like s b (2 * visits s) blank (plane_at s b q)
blank_like s b q small = record {
  agree = record {
    halves = λ x y. ap (λ m. m / 2) (blank_mags s b x y) ∙ inside_or (is_inside s x y)
        (λ i. ap (λ m. m / 2) (let e : 0 ≡ 0 = refl in e) ∙ sym (sym (lower_plane s b q x y) ∙ plane_inside s (b + 1) q x y i ∙ none (unsigned_abs (q x y)) (small x y i)))
        (λ i. ap (λ m. m / 2) (sym (plane_outside s b q x y i)));
    coded = λ x y e. absurd (uncoded x y e);
  };
  outside = plane_outside s b q;
  signs = λ x y e. absurd (unlit (mags s b blank x y) (is_coded s (mags s b blank) (2 * visits s) x y) (blank_mags s b x y) (sym (significant_is s (mags s b blank) (2 * visits s) x y) ∙ e));
}
  where
    none : (m : ℕ) → m < 2 ^ (b + 1) → m / 2 ^ (b + 1) ≡ 0
    none m h = div-eq_of_lt h

    unlit : (m : ℕ) (d : Bool) → m ≡ 0 → (nat_le 2 m || (nat_eq m 1 && d)) ≡ true → ⊥
    unlit m d e h = grind (arith, nat_tests)

    late : (m : ℕ) (n : ℕ) → m ≡ 2 * visits s + n → nat_lt m (2 * visits s) ≡ true → ⊥
    late m n e h = grind (arith, nat_tests)

    empty : (m : ℕ) → m ≡ 0 → nat_le 2 m ≡ true → ⊥
    empty m e h = grind (arith, nat_tests)

    uncoded : (x y : ℕ) → is_coded s (mags s b blank) (2 * visits s) x y ≡ true → ⊥
    uncoded x y e = cases_of s (mags s b blank) x y
        (λ w. empty (mags s b blank x y) (blank_mags s b x y) w.old_is)
        (λ w. let f = empty_spread s (mags s b blank) x y (blank_mags s b) in let c : true ≡ false = sym w.spread_is ∙ f in absurd cc)
        (λ w. late (moment s (mags s b blank) x y) (number s.width x y) w.moment_is e)

blank_back : (s : BlockShape) (b : ℕ) (q : Field ℤ) → Like s b (2 * visits s) blank (plane_at s b q) → (x y : ℕ) → is_inside s x y ≡ true → unsigned_abs (q x y) < 2 ^ (b + 1)
blank_back s b q l x y i =
    let e : unsigned_abs (q x y) / 2 ^ (b + 1) ≡ 0 =
    sym (plane_inside s (b + 1) q x y i) ∙ lower_plane s b q x y ∙ sym (l.agree.halves x y) ∙ ap (λ m. m / 2) (blank_mags s b x y) in
    by (unsigned_abs (q x y)) (2 ^ (b + 1)) (pow_pos (b + 1)) e
  where
    by : (m p : ℕ) → 0 < p → m / p ≡ 0 → m < p
    by m p h e = let l = lt-div-mul-add {a = m} {b = p} h in let z : m / p * p ≡ 0 * p = ap (λ d. d * p) e in omega (arith, l, z)

-- After some passes: what is held is cut there.
unfoldable pub Done : BlockShape → (planes passes : ℕ) → Progress → Type 0
Done s planes zero z = z ≡ blank
Done s planes (suc n) z = Cut s (plane_of planes n) (kind_of n * visits s + visits s) z

-- and is what is coded of a block
unfoldable pub DoneLike : BlockShape → (planes passes : ℕ) → Progress → Field ℤ → Type 0
DoneLike s planes zero z q = (x y : ℕ) → is_inside s x y ≡ true → unsigned_abs (q x y) < 2 ^ planes
DoneLike s planes (suc n) z q = Like s (plane_of planes n) (kind_of n * visits s + visits s) z (plane_at s (plane_of planes n) q)

kind_few : (n : ℕ) → kind_of n < 3
kind_few n = omega arith

-- the next pass is of the same plane, or begins the one below
by_kind : {R : Type 0} (planes n : ℕ) → suc n < 3 * planes - 2 → (kind_of (suc n) ≡ 0 → kind_of n ≡ 2 → plane_of planes n ≡ plane_of planes (suc n) + 1 → R)
    → ((k : ℕ) → kind_of (suc n) ≡ suc k → kind_of n ≡ k → plane_of planes n ≡ plane_of planes (suc n) → R) → R
by_kind {R} planes n h f g = elim (cases_lt (kind_of n) 2) [
  | inl less ↦ g (kind_of n) (omega arith) refl (ap (λ d. planes - 1 - d) (let e : (n + 2) / 3 ≡ (suc n + 2) / 3 = omega arith in e))
  | inr most ↦ f (omega arith) (omega arith) (let e : (suc n + 2) / 3 ≡ (n + 2) / 3 + 1 = omega arith in omega arith)
]

begun_later : (k : ℕ) (z : Progress) → begun (suc k) z ≡ z
unfolding with_visited
begun_later k z = ap (λ (v : Field Bool). with_visited z v) (ap (λ (q : Bool). cond q (λ _ _. false) z.visited) (let e : nat_eq (suc k) 0 ≡ false = grind (arith, nat_tests) in e))

pub ready : (s : BlockShape) (planes n : ℕ) (z : Progress) → n < 3 * planes - 2 → Done s planes n z → Cut s (plane_of planes n) (kind_of n * visits s) (begun (kind_of n) z)
unfolding Done with_visited
ready s planes zero z h d = subst (λ (z : Progress). Cut s (plane_of planes 0) (2 * visits s) z) (sym d) (blank_cut s (plane_of planes 0) (2 * visits s))
ready s planes (suc n) z h d =
    by_kind planes n h
    (λ here before plane.
    let c : Cut s (plane_of planes (suc n) + 1) (kind_of n * visits s + visits s) z = subst (λ (b : ℕ). Cut s b (kind_of n * visits s + visits s) z) plane d in
    subst (λ (k : ℕ). Cut s (plane_of planes (suc n)) (k * visits s) (begun k z)) (sym here)
    (subst (λ (t : ℕ). Cut s (plane_of planes (suc n)) t (begun 0 z)) (let e : 0 ≡ 0 * visits s = omega arith in e) (lower_cut s (plane_of planes (suc n)) (kind_of n * visits s + visits s) z c)))
    (λ k here before plane.
    subst (λ (k : ℕ). Cut s (plane_of planes (suc n)) (k * visits s) (begun k z)) (sym here)
    (subst (λ (w : Progress). Cut s (plane_of planes (suc n)) (suc k * visits s) w) (sym (begun_later k z))
    (subst (λ (b : ℕ). Cut s b (suc k * visits s) z) plane
    (subst (λ (t : ℕ). Cut s (plane_of planes n) t z) (moment_same k before) d))))
  where
    moment_same : (k : ℕ) → kind_of n ≡ k → kind_of n * visits s + visits s ≡ suc k * visits s
    moment_same k e = ap (λ k. k * visits s + visits s) e ∙ (let g : k * visits s + visits s ≡ suc k * visits s = omega arith in g)

pub ready_like : (s : BlockShape) (planes n : ℕ) (z : Progress) (q : Field ℤ) → n < 3 * planes - 2 → Done s planes n z → DoneLike s planes n z q
    → Like s (plane_of planes n) (kind_of n * visits s) (begun (kind_of n) z) (plane_at s (plane_of planes n) q)
unfolding Done DoneLike with_visited
ready_like s planes zero z q h d l =
    subst (λ (z : Progress). Like s (plane_of planes 0) (2 * visits s) z (plane_at s (plane_of planes 0) q)) (sym d)
    (blank_like s (plane_of planes 0) q (λ x y i. let p : planes ≡ plane_of planes 0 + 1 = omega arith in subst (λ (b : ℕ). unsigned_abs (q x y) < 2 ^ b) p (l x y i)))
ready_like s planes (suc n) z q h d l =
    by_kind planes n h
    (λ here before plane.
    let t : kind_of n * visits s + visits s ≡ 2 * visits s + visits s = ap (λ k. k * visits s + visits s) before in
    let c : Cut s (plane_of planes (suc n) + 1) (2 * visits s + visits s) z = subst (λ (b : ℕ). Cut s b (2 * visits s + visits s) z) plane (subst (λ (t : ℕ). Cut s (plane_of planes n) t z) t d) in
    let k : Like s (plane_of planes (suc n) + 1) (2 * visits s + visits s) z (plane_at s (plane_of planes (suc n) + 1) q) =
    subst (λ (b : ℕ). Like s b (2 * visits s + visits s) z (plane_at s b q)) plane (subst (λ (t : ℕ). Like s (plane_of planes n) t z (plane_at s (plane_of planes n) q)) t l) in
    subst (λ (k : ℕ). Like s (plane_of planes (suc n)) (k * visits s) (begun k z) (plane_at s (plane_of planes (suc n)) q)) (sym here)
    (subst (λ (t : ℕ). Like s (plane_of planes (suc n)) t (begun 0 z) (plane_at s (plane_of planes (suc n)) q)) (let e : 0 ≡ 0 * visits s = omega arith in e) (lower_only s (plane_of planes (suc n)) z q c k)))
    (λ k here before plane.
    subst (λ (k : ℕ). Like s (plane_of planes (suc n)) (k * visits s) (begun k z) (plane_at s (plane_of planes (suc n)) q)) (sym here)
    (subst (λ (w : Progress). Like s (plane_of planes (suc n)) (suc k * visits s) w (plane_at s (plane_of planes (suc n)) q)) (sym (begun_later k z))
    (subst (λ (b : ℕ). Like s b (suc k * visits s) z (plane_at s b q)) plane
    (subst (λ (t : ℕ). Like s (plane_of planes n) t z (plane_at s (plane_of planes n) q)) (moment_same k before) l))))
  where
    moment_same : (k : ℕ) → kind_of n ≡ k → kind_of n * visits s + visits s ≡ suc k * visits s
    moment_same k e = ap (λ k. k * visits s + visits s) e ∙ (let g : k * visits s + visits s ≡ suc k * visits s = omega arith in g)

pub ready_back : (s : BlockShape) (planes n : ℕ) (z : Progress) (q : Field ℤ) → n < 3 * planes - 2 → Done s planes n z
    → Like s (plane_of planes n) (kind_of n * visits s) (begun (kind_of n) z) (plane_at s (plane_of planes n) q) → DoneLike s planes n z q
unfolding Done DoneLike with_visited
ready_back s planes zero z q h d l = λ x y i.
    let p : plane_of planes 0 + 1 ≡ planes = omega arith in
    subst (λ (b : ℕ). unsigned_abs (q x y) < 2 ^ b) p
    (blank_back s (plane_of planes 0) q (subst (λ (z : Progress). Like s (plane_of planes 0) (2 * visits s) z (plane_at s (plane_of planes 0) q)) d l) x y i)
ready_back s planes (suc n) z q h d l =
    by_kind planes n h
    (λ here before plane.
    let t : kind_of n * visits s + visits s ≡ 2 * visits s + visits s = ap (λ k. k * visits s + visits s) before in
    let k : Like s (plane_of planes (suc n)) 0 (begun 0 z) (plane_at s (plane_of planes (suc n)) q) =
    subst (λ (t : ℕ). Like s (plane_of planes (suc n)) t (begun 0 z) (plane_at s (plane_of planes (suc n)) q)) (let e : 0 * visits s ≡ 0 = omega arith in e)
    (subst (λ (k : ℕ). Like s (plane_of planes (suc n)) (k * visits s) (begun k z) (plane_at s (plane_of planes (suc n)) q)) here l) in
    subst (λ (t : ℕ). Like s (plane_of planes n) t z (plane_at s (plane_of planes n) q)) (sym t)
    (subst (λ (b : ℕ). Like s b (2 * visits s + visits s) z (plane_at s b q)) (sym plane) (lower_back s (plane_of planes (suc n)) z q k)))
    (λ k here before plane.
    subst (λ (t : ℕ). Like s (plane_of planes n) t z (plane_at s (plane_of planes n) q)) (sym (moment_same k before))
    (subst (λ (b : ℕ). Like s b (suc k * visits s) z (plane_at s b q)) (sym plane)
    (subst (λ (w : Progress). Like s (plane_of planes (suc n)) (suc k * visits s) w (plane_at s (plane_of planes (suc n)) q)) (begun_later k z)
    (subst (λ (k : ℕ). Like s (plane_of planes (suc n)) (k * visits s) (begun k z) (plane_at s (plane_of planes (suc n)) q)) here l))))
  where
    moment_same : (k : ℕ) → kind_of n ≡ k → kind_of n * visits s + visits s ≡ suc k * visits s
    moment_same k e = ap (λ k. k * visits s + visits s) e ∙ (let g : k * visits s + visits s ≡ suc k * visits s = omega arith in g)

-- the passes, and one more
pub passes_more : (s : BlockShape) (planes n : ℕ) (q : Field ℤ) → pass_decisions s planes (suc n) q ≡ pass_decisions s planes n q ++ whole_decisions s (plane_at s (plane_of planes n) q) (kind_of n) ∷ []
unfolding pass_decisions
passes_more s planes n q = refl

-- what is held doesn't hang on the contexts
pub contexts_done : (s : BlockShape) (planes n : ℕ) (z : Progress) → Done s planes n z → Done s planes n (with_contexts s z)
unfolding Done
contexts_done s planes zero z d = ap (λ (w : Progress). with_contexts s w) d ∙ first s.style.reset
  where
    first : (r : Bool) → with_coder blank (begun_by r blank.coder) ≡ blank
    first true = refl
    first false = refl
contexts_done s planes (suc n) z d = record { whole = d.whole; even = d.even; visited = d.visited }

pub contexts_like : (s : BlockShape) (planes n : ℕ) (z : Progress) (q : Field ℤ) → DoneLike s planes n z q → DoneLike s planes n (with_contexts s z) q
unfolding DoneLike
contexts_like s planes zero z q l = l
contexts_like s planes (suc n) z q l = record { agree = l.agree; outside = l.outside; signs = l.signs }

like_contexts : (s : BlockShape) (planes n : ℕ) (z : Progress) (q : Field ℤ) → DoneLike s planes n (with_contexts s z) q → DoneLike s planes n z q
unfolding DoneLike
like_contexts s planes zero z q l = l
like_contexts s planes (suc n) z q l = record { agree = l.agree; outside = l.outside; signs = l.signs }

-- passes one after another
pub passes_onward : (bytes : List ℕ) (s : BlockShape) (planes n : ℕ) (z : Progress) → n ≤ 3 * planes - 2 → times n (pass_at bytes s planes) blank ≡ Ok z → Done s planes n z
unfolding times Done pass_at
passes_onward bytes s planes zero z h e = sym (ok_is blank z e)
passes_onward bytes s planes (suc n) z h e =
    bind_then (times n (pass_at bytes s planes) blank) (pass_at bytes s planes n) z e (λ m a r.
    (stage_pass bytes s (plane_of planes n) (kind_of n) (kind_few n)).onward (begun (kind_of n) (with_contexts s m)) z
    (ready s planes n (with_contexts s m) (omega arith) (contexts_done s planes n m (passes_onward bytes s planes n m (omega arith) a))) r)

pub record AllTold (bytes : List ℕ) (s : BlockShape) (planes n : ℕ) (z : Progress) (q : Field ℤ) : Type 0 where
  pub small : (x y : ℕ) → is_inside s x y ≡ true → unsigned_abs (q x y) < 2 ^ planes
  pub told : ToldPasses s.style.reset bytes initial (pass_decisions s planes n q) z.coder

pub passes_back : (bytes : List ℕ) (s : BlockShape) (planes n : ℕ) (z : Progress) (q : Field ℤ) → n ≤ 3 * planes - 2 → times n (pass_at bytes s planes) blank ≡ Ok z → DoneLike s planes n z q → AllTold bytes s planes n z q
unfolding times Done DoneLike pass_at pass_decisions
passes_back bytes s planes zero z q h e l = record { small = l; told = subst (λ (w : Progress). ToldPasses s.style.reset bytes initial [] w.coder) (ok_is blank z e) (record { spelled = tt; state = refl }) }
passes_back bytes s planes (suc n) z q h e l =
    bind_then (times n (pass_at bytes s planes) blank) (pass_at bytes s planes n) z e (λ m a r.
    let w = with_contexts s m in
    let before = contexts_done s planes n m (passes_onward bytes s planes n m (omega arith) a) in
    let p = plane_at s (plane_of planes n) q in
    let back = (stage_pass bytes s (plane_of planes n) (kind_of n) (kind_few n)).back (begun (kind_of n) w) z (ready s planes n w (omega arith) before) r p l in
    let earlier = passes_back bytes s planes n m q (omega arith) a (like_contexts s planes n m q (ready_back s planes n w q (omega arith) before back.0)) in
    record {
      small = earlier.small;
      told = told_more s.style.reset bytes initial m.coder z.coder (pass_decisions s planes n q) (whole_decisions s p (kind_of n)) earlier.told back.1;
    })

pub record AllGo (bytes : List ℕ) (s : BlockShape) (planes n : ℕ) (q : Field ℤ) : Type 0 where
  pub last : Progress
  pub is : times n (pass_at bytes s planes) blank ≡ Ok last
  pub like : DoneLike s planes n last q
  pub coder_is : last.coder ≡ state_after_passes s.style.reset bytes initial (pass_decisions s planes n q)

pub passes_only : (bytes : List ℕ) (s : BlockShape) (planes n : ℕ) (q : Field ℤ) → n ≤ 3 * planes - 2 → ((x y : ℕ) → is_inside s x y ≡ true → unsigned_abs (q x y) < 2 ^ planes)
    → SpellsPassesFrom s.style.reset bytes initial (pass_decisions s planes n q) → AllGo bytes s planes n q
unfolding times Done DoneLike pass_at pass_decisions
passes_only bytes s planes zero q h small spelled = record { last = blank; is = refl; like = small; coder_is = refl }
passes_only bytes s planes (suc n) q h small spelled =
    let reset = s.style.reset in
    let p = plane_at s (plane_of planes n) q in
    let ds = whole_decisions s p (kind_of n) in
    let lists = pass_decisions s planes n q in
    let parts = passes-split reset bytes initial lists (ds ∷ []) spelled in
    let before = passes_only bytes s planes n q (omega arith) small parts.0 in
    let w = with_contexts s before.last in
    let cut = contexts_done s planes n before.last (passes_onward bytes s planes n before.last (omega arith) before.is) in
    let g = (stage_pass bytes s (plane_of planes n) (kind_of n) (kind_few n)).only (begun (kind_of n) w) p (ready s planes n w (omega arith) cut)
    (ready_like s planes n w q (omega arith) cut (contexts_like s planes n before.last q before.like)) (subst (λ (t : State). SpellsFrom bytes (begun_by reset t) ds) (sym before.coder_is) parts.1.0) in
    record {
      last = g.next;
      is = ap (λ (r : Result Progress Fault). r >>= pass_at bytes s planes n) before.is ∙ g.is;
      like = g.like;
      coder_is = g.coder_is ∙ ap (λ (t : State). state_after bytes (begun_by reset t) ds) before.coder_is ∙ sym (state_after_passes-joined reset bytes initial lists (ds ∷ []));
    }
