-- What is held of a block and what is due, as the definitions say it.
use Rattle.std.proofs.Common.{◌≡◌, ℕ, zero, suc, ◌+◌, ◌*◌, ◌%◌, ◌^◌, ◌<◌, ◌≤◌, Bool, true, false, not, refl, sym, ap, ◌∙◌, arith}
use Rattle.std.specs.Prelude.{◌&&◌, ◌||◌, nat_eq, nat_lt, nat_le}
use Rattle.std.proofs.lemmas.Bool.Decides.{nat_tests}
use Rattle.std.proofs.lemmas.Nat.{pow_pos}
use Rattle.jk_scan.specs.declared.shape.BlockShape.{BlockShape}
use Rattle.jk_scan.specs.Neighbours.{Field, is_inside, touched_in, zero_in, sign_in}
use Rattle.jk_scan.specs.Moments.{number, visits, old, spread, pass_of, moment, is_coded, significant}
use Rattle.jk_scan.specs.Passes.{BlockAtPlane}
use Rattle.jk_scan.proofs.Laws.{same_field, touched_same, so_far, spread_is, significant_early, significant_is, Case, cases_of, agree_significant, number_first, number_below, sign_alike}
use Rattle.jk_block.specs.Reading.{Progress, known_significant}
use Rattle.jk_block.proofs.Stages.{mags, Cut, Like}
use Rattle.jk_block.proofs.Changes.{mags_outside}

pub inside_or : {R : Type 0} (b : Bool) → (b ≡ true → R) → (b ≡ false → R) → R
inside_or true f g = f refl
inside_or false f g = g refl

-- what is held is what is significant
pub significant_then : (s : BlockShape) (b t : ℕ) (z : Progress) → Cut s b t z → (x y : ℕ) → known_significant s z x y ≡ significant s (mags s b z) t x y
significant_then s b t z cut x y = inside_or (is_inside s x y)
    (λ i. ap (λ q. q && nat_lt 0 (z.magnitude x y)) i
    ∙ by_size (z.magnitude x y) (mags s b z x y) (2 ^ b) (is_coded s (mags s b z) t x y) (pow_pos b) (cut.whole x y i) (cut.even x y i)
    ∙ sym (significant_is s (mags s b z) t x y))
    (λ i. ap (λ q. q && nat_lt 0 (z.magnitude x y)) i ∙ sym (significant_is s (mags s b z) t x y ∙ none (mags s b z x y) (is_coded s (mags s b z) t x y) (mags_outside s b z x y i)))
  where
    product : (m a p : ℕ) → 0 < p → m ≡ a * p → nat_lt 0 m ≡ nat_lt 0 a
    product m zero p h e = ap (nat_lt 0) (let f : m ≡ 0 = omega (arith, e) in f)
    product m (suc a) p h e = let f : 0 < m = omega (arith, e) in grind (arith, nat_tests)

    by_bits : (a : ℕ) (c : Bool) → (c ≡ false → a % 2 ≡ 0) → nat_lt 0 a ≡ (nat_le 2 a || (nat_eq a 1 && c))
    by_bits a true h = grind (arith, nat_tests)
    by_bits a false h = let h0 = h refl in grind (arith, nat_tests)

    by_size : (m a p : ℕ) (c : Bool) → 0 < p → m ≡ a * p → (c ≡ false → a % 2 ≡ 0) → (true && nat_lt 0 m) ≡ (nat_le 2 a || (nat_eq a 1 && c))
    by_size m a p c h e g = product m a p h e ∙ by_bits a c g

    none : (a : ℕ) (c : Bool) → a ≡ 0 → (nat_le 2 a || (nat_eq a 1 && c)) ≡ false
    none a c e = grind (arith, nat_tests)

pub significant_like : (s : BlockShape) (b t : ℕ) (z : Progress) (p : BlockAtPlane) → Cut s b t z → Like s b t z p → (x y : ℕ) → known_significant s z x y ≡ significant s p.magnitude t x y
significant_like s b t z p cut l x y = significant_then s b t z cut x y ∙ agree_significant s (mags s b z) p.magnitude t x y l.agree

pub zero_like : (s : BlockShape) (b t : ℕ) (z : Progress) (p : BlockAtPlane) → Cut s b t z → Like s b t z p → (x y : ℕ) → zero_in s (known_significant s z) x y ≡ zero_in s (significant s p.magnitude t) x y
zero_like s b t z p cut l x y = ap (λ (f : Field Bool). zero_in s f x y) (same_field (known_significant s z) (significant s p.magnitude t) (significant_like s b t z p cut l))

pub sign_like : (s : BlockShape) (b t : ℕ) (z : Progress) (p : BlockAtPlane) → Cut s b t z → Like s b t z p → (x y : ℕ) → sign_in s (known_significant s z) z.negative x y ≡ sign_in s (significant s p.magnitude t) p.negative x y
sign_like s b t z p cut l x y =
    sign_alike s (known_significant s z) (significant s p.magnitude t) z.negative p.negative x y (significant_like s b t z p cut l) (λ u v e. l.signs u v (sym (significant_then s b t z cut u v) ∙ e))

pub touched_like : (s : BlockShape) (b t : ℕ) (z : Progress) (p : BlockAtPlane) → Cut s b t z → Like s b t z p → (x y : ℕ) → touched_in s (known_significant s z) x y ≡ touched_in s (significant s p.magnitude t) x y
touched_like s b t z p cut l x y = touched_same s (known_significant s z) (significant s p.magnitude t) x y (significant_like s b t z p cut l)

-- the place is coded in this pass
unfoldable pub is_due : BlockShape → Field ℕ → (pass x y : ℕ) → Bool
is_due s a pass x y = is_inside s x y && nat_eq (pass_of s a x y) pass

-- the three tests
pub tests_propagation : (s : BlockShape) (b t : ℕ) (z : Progress) (x y : ℕ) → Cut s b t z → t ≡ 0 * visits s + number s.width x y
    → (is_inside s x y && (not (known_significant s z x y) && touched_in s (known_significant s z) x y)) ≡ is_due s (mags s b z) 0 x y
unfolding is_due
tests_propagation s b t z x y cut now = inside_or (is_inside s x y)
    (λ i. ap (λ q. q && (not (known_significant s z x y) && touched_in s (known_significant s z) x y)) i ∙ at i ∙ sym (ap (λ q. q && nat_eq (pass_of s (mags s b z) x y) 0) i))
    (λ i. ap (λ q. q && (not (known_significant s z x y) && touched_in s (known_significant s z) x y)) i ∙ sym (ap (λ q. q && nat_eq (pass_of s (mags s b z) x y) 0) i))
  where
    own : (a m : ℕ) (l : Bool) → l ≡ (nat_le 2 a || (nat_eq a 1 && nat_lt m t)) → t ≤ m → l ≡ nat_le 2 a
    own a m l e h = grind (arith, nat_tests)

    by_case : (o u p : Bool) (n : ℕ) → p ≡ (not o && u) → (o ≡ true → n ≡ 1) → (p ≡ true → n ≡ 0) → (o ≡ false → p ≡ false → n ≡ 2) → (true && (not o && u)) ≡ (true && nat_eq n 0)
    by_case true u p n e f g h = let f0 = f refl in grind (arith, nat_tests)
    by_case false true p n e f g h = let g0 = g e in grind (arith, nat_tests)
    by_case false false p n e f g h = let h0 = h refl e in grind (arith, nat_tests)

    at : is_inside s x y ≡ true → (true && (not (known_significant s z x y) && touched_in s (known_significant s z) x y)) ≡ (true && nat_eq (pass_of s (mags s b z) x y) 0)
    at i =
        let a = mags s b z in
        let below = number_below s x y i in
        let k : t ≡ number s.width x y = omega arith in
        let seen : touched_in s (known_significant s z) x y ≡ touched_in s (so_far s a (number s.width x y)) x y =
        touched_same s (known_significant s z) (so_far s a (number s.width x y)) x y (λ u v. significant_then s b t z cut u v ∙ significant_early s a t u v (omega arith) ∙ ap (λ k. so_far s a k u v) k) in
        let o : known_significant s z x y ≡ old a x y =
        own (a x y) (moment s a x y) (known_significant s z x y) (significant_then s b t z cut x y ∙ significant_is s a t x y) (let f = number_first s a x y in omega arith) in
        ap (λ l. true && (not l && touched_in s (known_significant s z) x y)) o ∙ ap (λ u. true && (not (old a x y) && u)) seen
        ∙ by_case (old a x y) (touched_in s (so_far s a (number s.width x y)) x y) (spread s a x y) (pass_of s a x y) (spread_is s a x y)
        (λ e. cases_of s a x y (λ w. w.pass_is) (λ w. absurd (let f = w.old_is in let c : true ≡ false = sym e ∙ f in cc)) (λ w. absurd (let f = w.old_is in let c : true ≡ false = sym e ∙ f in cc)))
        (λ e. cases_of s a x y (λ w. absurd (let f = w.spread_is in let c : true ≡ false = sym e ∙ f in cc)) (λ w. w.pass_is) (λ w. absurd (let f = w.spread_is in let c : true ≡ false = sym e ∙ f in cc)))
        (λ e g. cases_of s a x y (λ w. absurd (let f = w.old_is in let c : true ≡ false = sym f ∙ e in cc)) (λ w. absurd (let f = w.spread_is in let c : true ≡ false = sym f ∙ g in cc)) (λ w. w.pass_is))

-- in the two later passes, a place is significant where it was before, or was found
pub tests_later : (s : BlockShape) (b t pass : ℕ) (z : Progress) (x y : ℕ) → Cut s b t z → is_inside s x y ≡ true → t ≡ suc pass * visits s + number s.width x y → pass ≤ 1
    → (z.visited x y ≡ spread s (mags s b z) x y) × ((spread s (mags s b z) x y ≡ false) → known_significant s z x y ≡ old (mags s b z) x y)
tests_later s b t pass z x y cut i now l =
    let a = mags s b z in
    let below = number_below s x y i in
    let more : number s.width x y < t = late pass now l below in (
      cut.visited x y i ∙ (let n : nat_lt (number s.width x y) t ≡ true = grind (arith, nat_tests) in ap (λ n. spread s a x y && n) n ∙ and_true (spread s a x y)),
      λ e. significant_then s b t z cut x y ∙ significant_is s a t x y
          ∙ cases_of s a x y
          (λ w. let o = w.old_is in ap (λ o. o || (nat_eq (a x y) 1 && is_coded s a t x y)) o ∙ sym o)
          (λ w. absurd (let f = w.spread_is in let c : true ≡ false = sym f ∙ e in cc))
          (λ w. let o = w.old_is in let m = w.moment_is in not_yet (a x y) (moment s a x y) (old a x y) o m),
    )
  where
    late : (pass : ℕ) → t ≡ suc pass * visits s + number s.width x y → pass ≤ 1 → number s.width x y < visits s → number s.width x y < t
    late zero e h below = omega arith
    late (suc zero) e h below = omega arith
    late (suc (suc p)) e h below = absurd (omega arith)

    and_true : (p : Bool) → (p && true) ≡ p
    and_true true = refl
    and_true false = refl

    early : (pass m : ℕ) → t ≡ suc pass * visits s + number s.width x y → pass ≤ 1 → m ≡ 2 * visits s + number s.width x y → nat_lt m t ≡ false
    early zero m e h g = grind (arith, nat_tests)
    early (suc zero) m e h g = grind (arith, nat_tests)
    early (suc (suc p)) m e h g = absurd (omega arith)

    or_none : (o e : Bool) (d : Bool) → d ≡ false → (o || (e && d)) ≡ o
    or_none o e d h = grind (arith, nat_tests)

    not_yet : (m q : ℕ) (o : Bool) → o ≡ false → q ≡ 2 * visits s + number s.width x y → (o || (nat_eq m 1 && nat_lt q t)) ≡ o
    not_yet m q o e g = or_none o (nat_eq m 1) (nat_lt q t) (early pass q now l g)

pub record IsCase (o p : Bool) (n : ℕ) : Type 0 where
  pub first : o ≡ true → n ≡ 1
  pub second : p ≡ true → n ≡ 0
  pub third : o ≡ false → p ≡ false → n ≡ 2

pub is_case : (s : BlockShape) (b : ℕ) (z : Progress) (x y : ℕ) (o p : Bool) (n : ℕ) → Case s (mags s b z) x y o p n → (o ≡ true → n ≡ 1) → (p ≡ true → n ≡ 0) → (o ≡ false → p ≡ false → n ≡ 2)
    → IsCase (old (mags s b z) x y) (spread s (mags s b z) x y) (pass_of s (mags s b z) x y)
is_case s b z x y o p n w f g h = record {
  first = λ e. w.pass_is ∙ f (sym w.old_is ∙ e);
  second = λ e. w.pass_is ∙ g (sym w.spread_is ∙ e);
  third = λ e k. w.pass_is ∙ h (sym w.old_is ∙ e) (sym w.spread_is ∙ k);
}

pub case_of : (s : BlockShape) (b : ℕ) (z : Progress) (x y : ℕ) → IsCase (old (mags s b z) x y) (spread s (mags s b z) x y) (pass_of s (mags s b z) x y)
case_of s b z x y = cases_of s (mags s b z) x y
    (λ w. is_case s b z x y true false 1 w (λ _. refl) (λ e. absurd cc) (λ e _. absurd cc))
    (λ w. is_case s b z x y false true 0 w (λ e. absurd cc) (λ _. refl) (λ _ e. absurd cc))
    (λ w. is_case s b z x y false false 2 w (λ e. absurd cc) (λ e. absurd cc) (λ _ _. refl))

pub tests_refinement : (s : BlockShape) (b t : ℕ) (z : Progress) (x y : ℕ) → Cut s b t z → t ≡ 1 * visits s + number s.width x y
    → (known_significant s z x y && not (z.visited x y)) ≡ is_due s (mags s b z) 1 x y
unfolding is_due
tests_refinement s b t z x y cut now = inside_or (is_inside s x y)
    (λ i. let l = tests_later s b t 0 z x y cut i now (omega arith) in
    gate (known_significant s z x y) (z.visited x y) (spread s (mags s b z) x y) (old (mags s b z) x y) (pass_of s (mags s b z) x y) (is_inside s x y) i l.0 l.1
    (case_of s b z x y))
    (λ i. ap (λ q. (q && nat_lt 0 (z.magnitude x y)) && not (z.visited x y)) i ∙ sym (ap (λ q. q && nat_eq (pass_of s (mags s b z) x y) 1) i))
  where
    gate : (l v p o : Bool) (n : ℕ) (i : Bool) → i ≡ true → v ≡ p → (p ≡ false → l ≡ o) → IsCase o p n → (l && not v) ≡ (i && nat_eq n 1)
    gate l v true o n i h e f w = let w1 = w.second refl in grind (arith, nat_tests)
    gate l v false o n i h e f w = let f0 = f refl in let w0 = w.first in let w2 = w.third in grind (arith, nat_tests)

pub tests_cleanup : (s : BlockShape) (b t : ℕ) (z : Progress) (x y : ℕ) → Cut s b t z → t ≡ 2 * visits s + number s.width x y
    → (is_inside s x y && (not (known_significant s z x y) && not (z.visited x y))) ≡ is_due s (mags s b z) 2 x y
unfolding is_due
tests_cleanup s b t z x y cut now = inside_or (is_inside s x y)
    (λ i. let l = tests_later s b t 1 z x y cut i now (omega arith) in
    gate (known_significant s z x y) (z.visited x y) (spread s (mags s b z) x y) (old (mags s b z) x y) (pass_of s (mags s b z) x y) (is_inside s x y) i l.0 l.1
    (case_of s b z x y))
    (λ i. ap (λ q. q && (not (known_significant s z x y) && not (z.visited x y))) i ∙ sym (ap (λ q. q && nat_eq (pass_of s (mags s b z) x y) 2) i))
  where
    gate : (l v p o : Bool) (n : ℕ) (i : Bool) → i ≡ true → v ≡ p → (p ≡ false → l ≡ o) → IsCase o p n → (i && (not l && not v)) ≡ (i && nat_eq n 2)
    gate l v true o n i h e f w = let w1 = w.second refl in grind (arith, nat_tests)
    gate l v false o n i h e f w = let f0 = f refl in let w0 = w.first in let w2 = w.third in grind (arith, nat_tests)
