-- One place is coded, or none is, at a moment.
use Rattle.std.proofs.Common.{◌≡◌, ℕ, zero, suc, ◌+◌, ◌*◌, ◌/◌, ◌%◌, ◌^◌, ◌<◌, ◌≤◌, Bool, true, false, cond, refl, sym, ap, ◌∙◌, subst, inl, inr, arith}
use Rattle.std.specs.Prelude.{◌&&◌, ◌||◌, nat_eq, nat_lt, nat_le}
use Rattle.std.proofs.lemmas.Bool.{cases_lt, and_parts}
use Rattle.std.proofs.lemmas.Bool.Decides.{nat_tests}
use Rattle.std.proofs.lemmas.Nat.{pow_pos, div-mul-add}
use Rattle.jk_scan.specs.declared.shape.BlockShape.{BlockShape}
use Rattle.jk_scan.specs.Neighbours.{Field, is_inside}
use Rattle.jk_scan.specs.Moments.{number, visits, old, spread, pass_of, moment, is_coded, significant}
use Rattle.jk_scan.specs.Passes.{BlockAtPlane, is_one}
use Rattle.jk_scan.proofs.Laws.{moment_is, significant_is, cases_of, Agree, agree_spread, agree_coded, agree_significant, agree_before, agree_joined, place_one, significant_later, number_first, moment_spread}
use Rattle.jk_block.specs.Reading.{Progress}
use Rattle.jk_block.proofs.Stages.{mags, Cut, Like}

-- what is held of a place
pub record Kept (z z' : Progress) (x y : ℕ) : Type 0 where
  pub magnitude : z'.magnitude x y ≡ z.magnitude x y
  pub negative : z'.negative x y ≡ z.negative x y
  pub visited : z'.visited x y ≡ z.visited x y

-- At the moment t a place is coded, in its pass.
pub record Due (s : BlockShape) (b t pass x y : ℕ) (z : Progress) : Type 0 where
  pub inside : is_inside s x y ≡ true
  pub pass_is : pass_of s (mags s b z) x y ≡ pass
  pub now : t ≡ pass * visits s + number s.width x y

-- a place takes a bit
pub record Change (s : BlockShape) (b pass x y : ℕ) (z z' : Progress) (bit : Bool) : Type 0 where
  pub here : z'.magnitude x y ≡ z.magnitude x y + cond bit (2 ^ b) 0
  pub away : (x' y' : ℕ) → (nat_eq x' x && nat_eq y' y) ≡ false → Kept z z' x' y'
  pub kept_sign : nat_lt 0 (z.magnitude x y) ≡ true → z'.negative x y ≡ z.negative x y
  pub visited : z'.visited x y ≡ (z.visited x y || nat_eq pass 0)

-- the place, or another
pub at_place : (P : ℕ → ℕ → Type 0) (x y x' y' : ℕ) → P x y → ((nat_eq x' x && nat_eq y' y) ≡ false → P x' y') → P x' y'
at_place P x y x' y' h a = by_test (nat_eq x' x && nat_eq y' y) refl
  where
    by_test : (b : Bool) → (nat_eq x' x && nat_eq y' y) ≡ b → P x' y'
    by_test false e = a e
    by_test true e =
        let p = and_parts (nat_eq x' x) (nat_eq y' y) e in
        let p0 = p.0 in let p1 = p.1 in
        let ex : x ≡ x' = grind (arith, nat_tests) in
        let ey : y ≡ y' = grind (arith, nat_tests) in
        subst (λ (u : ℕ). P u y') ex (subst (λ (u : ℕ). P x u) ey h)

inside_or : {R : Type 0} (b : Bool) → (b ≡ true → R) → (b ≡ false → R) → R
inside_or true f g = f refl
inside_or false f g = g refl

pub mags_outside : (s : BlockShape) (b : ℕ) (z : Progress) (x y : ℕ) → is_inside s x y ≡ false → mags s b z x y ≡ 0
mags_outside s b z x y h = ap (λ i. cond i (z.magnitude x y / 2 ^ b) 0) h

pub mags_inside : (s : BlockShape) (b : ℕ) (z : Progress) (x y : ℕ) → is_inside s x y ≡ true → mags s b z x y ≡ z.magnitude x y / 2 ^ b
mags_inside s b z x y h = ap (λ i. cond i (z.magnitude x y / 2 ^ b) 0) h

mags_away : (s : BlockShape) (b pass x y : ℕ) (z z' : Progress) (bit : Bool) → Change s b pass x y z z' bit → (x' y' : ℕ) → (nat_eq x' x && nat_eq y' y) ≡ false → mags s b z' x' y' ≡ mags s b z x' y'
mags_away s b pass x y z z' bit c x' y' a = ap (λ m. cond (is_inside s x' y') (m / 2 ^ b) 0) (c.away x' y' a).magnitude

bit_of : Bool → ℕ
bit_of bit = cond bit 1 0

whole_here : (a p m : ℕ) (bit : Bool) → m ≡ a * p → m + cond bit p 0 ≡ (a + bit_of bit) * p
unfolding bit_of
whole_here a p m true e = omega arith
whole_here a p m false e = omega arith

over_power : (n p : ℕ) → 0 < p → n * p / p ≡ n
over_power n p h = ap (λ m. m / p) (let e : n * p ≡ n * p + 0 = omega arith in e) ∙ div-mul-add n p 0 h

mags_here : (s : BlockShape) (b t pass x y : ℕ) (z z' : Progress) (bit : Bool) → Cut s b t z → Due s b t pass x y z → Change s b pass x y z z' bit → mags s b z' x y ≡ mags s b z x y + bit_of bit
mags_here s b t pass x y z z' bit cut due c =
    mags_inside s b z' x y due.inside
    ∙ ap (λ m. m / 2 ^ b) (c.here ∙ whole_here (mags s b z x y) (2 ^ b) (z.magnitude x y) bit (cut.whole x y due.inside))
    ∙ over_power (mags s b z x y + bit_of bit) (2 ^ b) (pow_pos b)

-- the place is coded at this moment
due_moment : (s : BlockShape) (b t pass x y : ℕ) (z : Progress) → Due s b t pass x y z → moment s (mags s b z) x y ≡ t
due_moment s b t pass x y z due = moment_is s (mags s b z) x y ∙ ap (λ p. p * visits s + number s.width x y) due.pass_is ∙ sym due.now

-- no other place is
others : (s : BlockShape) (b t pass x y : ℕ) (z : Progress) → Due s b t pass x y z → (a : Field ℕ) (x' y' : ℕ) → is_inside s x' y' ≡ true → (nat_eq x' x && nat_eq y' y) ≡ false → moment s a x' y' ≡ t → ⊥
others s b t pass x y z due a x' y' i apart e =
    let one = place_one s (pass_of s a x' y') pass x' y' x y i due.inside (sym (moment_is s a x' y') ∙ e ∙ due.now) in
    let o1 = one.1 in let o2 = one.2 in
    let same : (nat_eq x' x && nat_eq y' y) ≡ true = grind (arith, nat_tests) in
    let c : true ≡ false = sym same ∙ apart in absurd cc

others_coded : (s : BlockShape) (b t pass x y : ℕ) (z : Progress) → Due s b t pass x y z → (a : Field ℕ) (x' y' : ℕ) → is_inside s x' y' ≡ true → (nat_eq x' x && nat_eq y' y) ≡ false → is_coded s a (t + 1) x' y' ≡ is_coded s a t x' y'
others_coded s b t pass x y z due a x' y' i apart = gate (moment s a x' y') (others s b t pass x y z due a x' y' i apart)
  where
    gate : (m : ℕ) → (m ≡ t → ⊥) → nat_lt m (t + 1) ≡ nat_lt m t
    gate m h = grind (arith, nat_tests)

others_numbered : (s : BlockShape) (b t pass x y : ℕ) (z : Progress) → Due s b t pass x y z → (x' y' : ℕ) → is_inside s x' y' ≡ true → (nat_eq x' x && nat_eq y' y) ≡ false → nat_lt (number s.width x' y') (t + 1) ≡ nat_lt (number s.width x' y') t
others_numbered s b t pass x y z due x' y' i apart = gate (number s.width x' y') not_now
  where
    gate : (m : ℕ) → (m ≡ t → ⊥) → nat_lt m (t + 1) ≡ nat_lt m t
    gate m h = grind (arith, nat_tests)

    not_now : number s.width x' y' ≡ t → ⊥
    not_now e =
        let one = place_one s 0 pass x' y' x y i due.inside (let z : 0 * visits s + number s.width x' y' ≡ number s.width x' y' = omega arith in z ∙ e ∙ due.now) in
        let o1 = one.1 in let o2 = one.2 in
        let same : (nat_eq x' x && nat_eq y' y) ≡ true = grind (arith, nat_tests) in
        let c : true ≡ false = sym same ∙ apart in absurd cc

due_uncoded : (s : BlockShape) (b t pass x y : ℕ) (z : Progress) → Due s b t pass x y z → is_coded s (mags s b z) t x y ≡ false
due_uncoded s b t pass x y z due = let e = due_moment s b t pass x y z due in ap (λ m. nat_lt m t) e ∙ (let r : nat_lt t t ≡ false = grind (arith, nat_tests) in r)

due_coded : (s : BlockShape) (b t pass x y : ℕ) (z : Progress) → Due s b t pass x y z → is_coded s (mags s b z) (t + 1) x y ≡ true
due_coded s b t pass x y z due = let e = due_moment s b t pass x y z due in ap (λ m. nat_lt m (t + 1)) e ∙ (let r : nat_lt t (t + 1) ≡ true = grind (arith, nat_tests) in r)

pub due_even : (s : BlockShape) (b t pass x y : ℕ) (z : Progress) → Cut s b t z → Due s b t pass x y z → mags s b z x y % 2 ≡ 0
due_even s b t pass x y z cut due = cut.even x y due.inside (due_uncoded s b t pass x y z due)

half_same : (a : ℕ) (bit : Bool) → a % 2 ≡ 0 → a / 2 ≡ (a + bit_of bit) / 2
unfolding bit_of
half_same a true e = omega arith
half_same a false e = omega arith

taken : (a m : ℕ) (bit : Bool) → a % 2 ≡ 0 → a / 2 ≡ m / 2 → bit ≡ nat_eq (m % 2) 1 → a + bit_of bit ≡ m
unfolding bit_of
taken a m true e h g = grind (arith, nat_tests)
taken a m false e h g = grind (arith, nat_tests)

odd : (a : ℕ) (bit : Bool) → a % 2 ≡ 0 → nat_eq ((a + bit_of bit) % 2) 1 ≡ bit
unfolding bit_of
odd a true e = grind (arith, nat_tests)
odd a false e = grind (arith, nat_tests)

neither : (p p' : Bool) → (p && false) ≡ (p' && false)
neither true true = refl
neither true false = refl
neither false true = refl
neither false false = refl

-- what is coded before stays
pub change_agree : (s : BlockShape) (b t pass x y : ℕ) (z z' : Progress) (bit : Bool) → Cut s b t z → Due s b t pass x y z → Change s b pass x y z z' bit → Agree s (mags s b z) (mags s b z') t
change_agree s b t pass x y z z' bit cut due c = record {
  halves = λ x' y'. at_place (λ u v. mags s b z u v / 2 ≡ mags s b z' u v / 2) x y x' y'
      (half_same (mags s b z x y) bit (due_even s b t pass x y z cut due) ∙ ap (λ m. m / 2) (sym (mags_here s b t pass x y z z' bit cut due c)))
      (λ a. ap (λ m. m / 2) (sym (mags_away s b pass x y z z' bit c x' y' a)));
  coded = λ x' y'. at_place (λ u v. is_coded s (mags s b z) t u v ≡ true → mags s b z u v ≡ mags s b z' u v) x y x' y'
      (λ e. absurd (let d = due_uncoded s b t pass x y z due in let f : true ≡ false = sym e ∙ d in cc))
      (λ a e. sym (mags_away s b pass x y z z' bit c x' y' a));
}

pub change_cut : (s : BlockShape) (b t pass x y : ℕ) (z z' : Progress) (bit : Bool) → Cut s b t z → Due s b t pass x y z → Change s b pass x y z z' bit → Cut s b (t + 1) z'
change_cut s b t pass x y z z' bit cut due c =
    let agree = change_agree s b t pass x y z z' bit cut due c in
    record {
      whole = λ x' y'. at_place (λ u v. is_inside s u v ≡ true → z'.magnitude u v ≡ mags s b z' u v * 2 ^ b) x y x' y'
          (λ i. c.here ∙ whole_here (mags s b z x y) (2 ^ b) (z.magnitude x y) bit (cut.whole x y i) ∙ ap (λ m. m * 2 ^ b) (sym (mags_here s b t pass x y z z' bit cut due c)))
          (λ a i. (c.away x' y' a).magnitude ∙ cut.whole x' y' i ∙ ap (λ m. m * 2 ^ b) (sym (mags_away s b pass x y z z' bit c x' y' a)));
      even = λ x' y'. at_place (λ u v. is_inside s u v ≡ true → is_coded s (mags s b z') (t + 1) u v ≡ false → mags s b z' u v % 2 ≡ 0) x y x' y'
          (λ i e. absurd (let d = due_coded s b t pass x y z due in let f : true ≡ false = sym d ∙ agree_coded s (mags s b z) (mags s b z') t (t + 1) x y agree (omega arith) ∙ e in cc))
          (λ a i e. ap (λ m. m % 2) (mags_away s b pass x y z z' bit c x' y' a)
          ∙ cut.even x' y' i (sym (others_coded s b t pass x y z due (mags s b z) x' y' i a) ∙ agree_coded s (mags s b z) (mags s b z') t (t + 1) x' y' agree (omega arith) ∙ e));
      visited = λ x' y'. at_place (λ u v. is_inside s u v ≡ true → z'.visited u v ≡ (spread s (mags s b z') u v && nat_lt (number s.width u v) (t + 1))) x y x' y'
          (λ i. visited_here i agree)
          (λ a i. visited_away (number s.width x' y') (z'.visited x' y') (z.visited x' y') (spread s (mags s b z) x' y') (spread s (mags s b z') x' y')
          (c.away x' y' a).visited (cut.visited x' y' i) (others_numbered s b t pass x y z due x' y' i a) (agree_spread s (mags s b z) (mags s b z') t x' y' agree));
    }
  where
    visited_away : (n : ℕ) (v' v p p' : Bool) → v' ≡ v → v ≡ (p && nat_lt n t) → nat_lt n (t + 1) ≡ nat_lt n t → (n ≤ t → p ≡ p') → v' ≡ (p' && nat_lt n (t + 1))
    visited_away n v' v p p' e f g h = elim (cases_lt t n) [
      | inl late ↦
          let a : nat_lt n t ≡ false = grind (arith, nat_tests) in
          let b : nat_lt n (t + 1) ≡ false = grind (arith, nat_tests) in
          e ∙ f ∙ ap (λ a. p && a) a ∙ neither p p' ∙ sym (ap (λ b. p' && b) b)
      | inr early ↦ e ∙ f ∙ ap (λ p. p && nat_lt n t) (h early) ∙ ap (λ a. p' && a) (sym g)
    ]

    by_pass : (n q : ℕ) (v' v p p' : Bool) → v' ≡ (v || nat_eq q 0) → v ≡ (p && nat_lt n t) → t ≡ q * visits s + n → p ≡ p' → (q ≡ 0 → p ≡ true) → (nat_eq q 0 ≡ false → p ≡ false) → v' ≡ (p' && nat_lt n (t + 1))
    by_pass n zero v' v p p' e f g h k l = let k0 = k refl in grind (arith, nat_tests)
    by_pass n (suc q) v' v p p' e f g h k l = let l0 = l (let r : nat_eq (suc q) 0 ≡ false = grind (arith, nat_tests) in r) in grind (arith, nat_tests)

    visited_here : is_inside s x y ≡ true → Agree s (mags s b z) (mags s b z') t → z'.visited x y ≡ (spread s (mags s b z') x y && nat_lt (number s.width x y) (t + 1))
    visited_here i agree =
        let n = number_first s (mags s b z) x y in
        let m = due_moment s b t pass x y z due in
        let p = due.pass_is in
        by_pass (number s.width x y) pass (z'.visited x y) (z.visited x y) (spread s (mags s b z) x y) (spread s (mags s b z') x y)
        c.visited (cut.visited x y i) due.now (agree_spread s (mags s b z) (mags s b z') t x y agree (omega arith))
        (λ e. cases_of s (mags s b z) x y (λ w. absurd (let q = w.pass_is in omega arith)) (λ w. w.spread_is) (λ w. absurd (let q = w.pass_is in omega arith)))
        (λ e. cases_of s (mags s b z) x y (λ w. w.spread_is) (λ w. absurd (let q = w.pass_is in grind (arith, nat_tests))) (λ w. w.spread_is))

pub like_before : (s : BlockShape) (b t u : ℕ) (z : Progress) (p : BlockAtPlane) → t ≤ u → Like s b u z p → Like s b t z p
like_before s b t u z p h l = record {
  agree = agree_before s (mags s b z) p.magnitude u t l.agree h;
  outside = l.outside;
  signs = λ x y e. l.signs x y (significant_later s (mags s b z) t u x y h e);
}

some_magnitude : (s : BlockShape) (b : ℕ) (z : Progress) (x y : ℕ) → old (mags s b z) x y ≡ true → nat_lt 0 (z.magnitude x y) ≡ true
some_magnitude s b z x y h = inside_or (is_inside s x y)
    (λ i. let e = mags_inside s b z x y i in by_size (z.magnitude x y) (mags s b z x y) e h)
    (λ i. absurd (let e = mags_outside s b z x y i in grind (arith, nat_tests)))
  where
    by_size : (m a : ℕ) → a ≡ m / 2 ^ b → nat_le 2 a ≡ true → nat_lt 0 m ≡ true
    by_size zero a e h = absurd (let f : 0 / 2 ^ b ≡ 0 = omega arith in grind (arith, nat_tests))
    by_size (suc m) a e h = grind (arith, nat_tests)

pub change_back : (s : BlockShape) (b t pass x y : ℕ) (z z' : Progress) (bit : Bool) (p : BlockAtPlane) → Cut s b t z → Due s b t pass x y z → Change s b pass x y z z' bit → Like s b (t + 1) z' p → Like s b t z p
change_back s b t pass x y z z' bit p cut due c l =
    let agree = change_agree s b t pass x y z z' bit cut due c in
    let sig = λ (x y : ℕ). significant s (mags s b z) t x y in
    let later : (x y : ℕ) → sig x y ≡ true → z'.negative x y ≡ p.negative x y = λ x y e.
    l.signs x y (significant_later s (mags s b z') t (t + 1) x y (omega arith) (sym (agree_significant s (mags s b z) (mags s b z') t x y agree) ∙ e)) in
    record {
      agree = agree_joined s (mags s b z) (mags s b z') p.magnitude t agree (agree_before s (mags s b z') p.magnitude (t + 1) t l.agree (omega arith));
      outside = l.outside;
      signs = λ x' y'. at_place (λ u v. significant s (mags s b z) t u v ≡ true → z.negative u v ≡ p.negative u v) x y x' y'
          (λ e. sym (c.kept_sign (some_magnitude s b z x y (was_old (mags s b z x y) (is_coded s (mags s b z) t x y) (due_uncoded s b t pass x y z due) (sym (significant_is s (mags s b z) t x y) ∙ e)))) ∙ later x y e)
          (λ a e. sym (c.away x' y' a).negative ∙ later x' y' e);
    }
  where
    was_old : (m : ℕ) (d : Bool) → d ≡ false → (nat_le 2 m || (nat_eq m 1 && d)) ≡ true → nat_le 2 m ≡ true
    was_old m d e h = grind (arith, nat_tests)

change_coded : (s : BlockShape) (b t pass x y : ℕ) (z z' : Progress) (bit : Bool) → Cut s b t z → Due s b t pass x y z → Change s b pass x y z z' bit → is_coded s (mags s b z') (t + 1) x y ≡ true
change_coded s b t pass x y z z' bit cut due c =
    sym (agree_coded s (mags s b z) (mags s b z') t (t + 1) x y (change_agree s b t pass x y z z' bit cut due c) (omega arith)) ∙ due_coded s b t pass x y z due

pub change_only : (s : BlockShape) (b t pass x y : ℕ) (z z' : Progress) (bit : Bool) (p : BlockAtPlane) → Cut s b t z → Due s b t pass x y z → Change s b pass x y z z' bit → Like s b t z p → bit ≡ is_one (p.magnitude x y)
    → (significant s (mags s b z') (t + 1) x y ≡ true → z'.negative x y ≡ p.negative x y) → Like s b (t + 1) z' p
change_only s b t pass x y z z' bit p cut due c l bit_is sign =
    let agree = change_agree s b t pass x y z z' bit cut due c in
    record {
      agree = record {
        halves = λ x' y'. sym (agree.halves x' y') ∙ l.agree.halves x' y';
        coded = λ x' y'. at_place (λ u v. is_coded s (mags s b z') (t + 1) u v ≡ true → mags s b z' u v ≡ p.magnitude u v) x y x' y'
            (λ e. mags_here s b t pass x y z z' bit cut due c ∙ taken (mags s b z x y) (p.magnitude x y) bit (due_even s b t pass x y z cut due) (l.agree.halves x y) bit_is)
            (λ a e. inside_or (is_inside s x' y')
            (λ i. mags_away s b pass x y z z' bit c x' y' a ∙ l.agree.coded x' y' (was_coded agree x' y' a i e))
            (λ i. mags_outside s b z' x' y' i ∙ sym (l.outside x' y' i)));
      };
      outside = l.outside;
      signs = λ x' y'. at_place (λ u v. significant s (mags s b z') (t + 1) u v ≡ true → z'.negative u v ≡ p.negative u v) x y x' y'
          sign
          (λ a e. (c.away x' y' a).negative ∙ l.signs x' y' (was_significant agree x' y' a e));
    }
  where
    was_coded : Agree s (mags s b z) (mags s b z') t → (x' y' : ℕ) → (nat_eq x' x && nat_eq y' y) ≡ false → is_inside s x' y' ≡ true → is_coded s (mags s b z') (t + 1) x' y' ≡ true → is_coded s (mags s b z) t x' y' ≡ true
    was_coded agree x' y' a i e = sym (others_coded s b t pass x y z due (mags s b z) x' y' i a) ∙ agree_coded s (mags s b z) (mags s b z') t (t + 1) x' y' agree (omega arith) ∙ e

    significant_gate : (m m' : ℕ) (d d' : Bool) → m' ≡ m → (d' ≡ true → d ≡ true) → (nat_le 2 m' || (nat_eq m' 1 && d')) ≡ true → (nat_le 2 m || (nat_eq m 1 && d)) ≡ true
    significant_gate m m' d true e h g = let h0 = h refl in grind (arith, nat_tests)
    significant_gate m m' d false e h g = grind (arith, nat_tests)

    none_significant : (m : ℕ) (d : Bool) → m ≡ 0 → (nat_le 2 m || (nat_eq m 1 && d)) ≡ true → ⊥
    none_significant m d e h = grind (arith, nat_tests)

    was_significant : Agree s (mags s b z) (mags s b z') t → (x' y' : ℕ) → (nat_eq x' x && nat_eq y' y) ≡ false → significant s (mags s b z') (t + 1) x' y' ≡ true → significant s (mags s b z) t x' y' ≡ true
    was_significant agree x' y' a e = inside_or (is_inside s x' y')
        (λ i. significant_is s (mags s b z) t x' y'
        ∙ significant_gate (mags s b z x' y') (mags s b z' x' y') (is_coded s (mags s b z) t x' y') (is_coded s (mags s b z') (t + 1) x' y') (mags_away s b pass x y z z' bit c x' y' a) (was_coded agree x' y' a i)
        (sym (significant_is s (mags s b z') (t + 1) x' y') ∙ e))
        (λ i. absurd (none_significant (mags s b z' x' y') (is_coded s (mags s b z') (t + 1) x' y') (mags_outside s b z' x' y' i) (sym (significant_is s (mags s b z') (t + 1) x' y') ∙ e)))

-- the bit that was taken is the block's
pub change_bit : (s : BlockShape) (b t pass x y : ℕ) (z z' : Progress) (bit : Bool) (p : BlockAtPlane) → Cut s b t z → Due s b t pass x y z → Change s b pass x y z z' bit → Like s b (t + 1) z' p → is_one (p.magnitude x y) ≡ bit
change_bit s b t pass x y z z' bit p cut due c l =
    ap (λ m. nat_eq (m % 2) 1) (sym (l.agree.coded x y (change_coded s b t pass x y z z' bit cut due c)) ∙ mags_here s b t pass x y z z' bit cut due c)
    ∙ odd (mags s b z x y) bit (due_even s b t pass x y z cut due)

-- and so is its sign
pub change_sign : (s : BlockShape) (b t pass x y : ℕ) (z z' : Progress) (p : BlockAtPlane) → Cut s b t z → Due s b t pass x y z → Change s b pass x y z z' true → Like s b (t + 1) z' p → z'.negative x y ≡ p.negative x y
unfolding bit_of
change_sign s b t pass x y z z' p cut due c l =
    l.signs x y (significant_is s (mags s b z') (t + 1) x y
    ∙ significant_now (mags s b z' x y) (is_coded s (mags s b z') (t + 1) x y) (mags s b z x y) (mags_here s b t pass x y z z' true cut due c) (change_coded s b t pass x y z z' true cut due c))
  where
    significant_now : (m : ℕ) (d : Bool) (a : ℕ) → m ≡ a + 1 → d ≡ true → (nat_le 2 m || (nat_eq m 1 && d)) ≡ true
    significant_now m d a e h = grind (arith, nat_tests)

-- no place is coded at a moment
unfoldable pub Idle : BlockShape → (b t : ℕ) → Progress → Type 0
Idle s b t z = (x y : ℕ) → is_inside s x y ≡ true → moment s (mags s b z) x y ≡ t → ⊥

pub idle_cut : (s : BlockShape) (b t : ℕ) (z : Progress) → Idle s b t z → Cut s b t z → Cut s b (t + 1) z
unfolding Idle
idle_cut s b t z idle cut = record {
  whole = cut.whole;
  even = λ x y i e. cut.even x y i (earlier (moment s (mags s b z) x y) e);
  visited = λ x y i. cut.visited x y i ∙ gate (number s.width x y) (spread s (mags s b z) x y) (λ p e. idle x y i (moment_spread s (mags s b z) x y p ∙ e));
}
  where
    earlier : (m : ℕ) → nat_lt m (t + 1) ≡ false → nat_lt m t ≡ false
    earlier m e = grind (arith, nat_tests)

    gate : (n : ℕ) (p : Bool) → (p ≡ true → n ≡ t → ⊥) → (p && nat_lt n t) ≡ (p && nat_lt n (t + 1))
    gate n true h = let h0 = h refl in grind (arith, nat_tests)
    gate n false h = refl

pub idle_only : (s : BlockShape) (b t : ℕ) (z : Progress) (p : BlockAtPlane) → Idle s b t z → Like s b t z p → Like s b (t + 1) z p
unfolding Idle
idle_only s b t z p idle l = record {
  agree = record {
    halves = l.agree.halves;
    coded = λ x y e. inside_or (is_inside s x y)
        (λ i. l.agree.coded x y (earlier (moment s (mags s b z) x y) (idle x y i) e))
        (λ i. mags_outside s b z x y i ∙ sym (l.outside x y i));
  };
  outside = l.outside;
  signs = λ x y e. inside_or (is_inside s x y)
      (λ i. l.signs x y (significant_is s (mags s b z) t x y ∙ significant_gate (mags s b z x y) (moment s (mags s b z) x y) (idle x y i) (sym (significant_is s (mags s b z) (t + 1) x y) ∙ e)))
      (λ i. absurd (none_significant (mags s b z x y) (is_coded s (mags s b z) (t + 1) x y) (mags_outside s b z x y i) (sym (significant_is s (mags s b z) (t + 1) x y) ∙ e)));
}
  where
    earlier : (m : ℕ) → (m ≡ t → ⊥) → nat_lt m (t + 1) ≡ true → nat_lt m t ≡ true
    earlier m h e = grind (arith, nat_tests)

    significant_gate : (m q : ℕ) → (q ≡ t → ⊥) → (nat_le 2 m || (nat_eq m 1 && nat_lt q (t + 1))) ≡ true → (nat_le 2 m || (nat_eq m 1 && nat_lt q t)) ≡ true
    significant_gate m q h e = grind (arith, nat_tests)

    none_significant : (m : ℕ) (d : Bool) → m ≡ 0 → (nat_le 2 m || (nat_eq m 1 && d)) ≡ true → ⊥
    none_significant m d e h = grind (arith, nat_tests)
