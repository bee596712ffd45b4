-- When places are coded, and which are significant then.
use Rattle.std.proofs.Common.{◌≡◌, ℕ, zero, suc, ◌+◌, ◌*◌, ◌/◌, ◌<◌, ◌≤◌, Bool, true, false, not, refl, sym, ap, ◌∙◌, inl, inr, arith}
use Rattle.std.specs.Prelude.{◌&&◌, ◌||◌, nat_eq, nat_lt, nat_le, cond}
use Rattle.std.proofs.Math.Path.{fun_ext}
use Rattle.std.proofs.lemmas.Nat.{same_from_place}
use Rattle.std.proofs.lemmas.Bool.{cases_lt}
use Rattle.std.proofs.lemmas.Bool.Decides.{nat_tests}
use Rattle.jk_scan.specs.declared.shape.BlockShape.{BlockShape}
use Rattle.jk_scan.specs.Neighbours.{Field, is_inside, touched_in}
use Rattle.jk_scan.specs.Moments.{number, visits, old, found, spread, pass_of, moment, is_coded, significant}
use Rattle.jk_scan.proofs.Numbers.{inside_parts, number_same, number_below}

-- a field by its values
pub same_field : {X : Type 0} (f g : Field X) → ((x y : ℕ) → f x y ≡ g x y) → f ≡ g
same_field f g h = fun_ext (λ x. fun_ext (λ y. h x y))

pub touched_same : (s : BlockShape) (f g : Field Bool) (x y : ℕ) → ((x y : ℕ) → f x y ≡ g x y) → touched_in s f x y ≡ touched_in s g x y
touched_same s f g x y h = ap (λ f. touched_in s f x y) (same_field f g h)

-- What is significant while the significance propagation pass stands at the number k.
abbrev pub so_far : BlockShape → Field ℕ → ℕ → Field Bool
so_far s a k x y = old a x y || found s a k x y

pub spread_is : (s : BlockShape) (a : Field ℕ) (x y : ℕ) → spread s a x y ≡ (not (old a x y) && touched_in s (so_far s a (number s.width x y)) x y)
unfolding spread
spread_is s a x y = refl

pub found_is : (s : BlockShape) (a : Field ℕ) (k x y : ℕ) → found s a k x y ≡ (nat_eq (a x y) 1 && (spread s a x y && nat_lt (number s.width x y) k))
unfolding found
found_is s a zero x y = let e : false ≡ (nat_eq (a x y) 1 && (spread s a x y && nat_lt (number s.width x y) 0)) = grind (arith, nat_tests) in e
found_is s a (suc k) x y =
    one_more (a x y) (number s.width x y) (found s a k x y) (spread s a x y) (touched_in s (so_far s a k) x y) (touched_in s (so_far s a (number s.width x y)) x y) (found_is s a k x y) (spread_is s a x y)
    (λ e. ap (λ k. touched_in s (so_far s a k) x y) (sym e))
  where
    one_more : (m n : ℕ) (f s t u : Bool) → f ≡ (nat_eq m 1 && (s && nat_lt n k)) → s ≡ (not (nat_le 2 m) && u) → (n ≡ k → t ≡ u)
        → (f || (nat_eq n k && (nat_eq m 1 && t))) ≡ (nat_eq m 1 && (s && nat_lt n (suc k)))
    one_more m n f s t u e g h = grind (arith, nat_tests)

-- the pass of a place, by cases
pub pass_is : (s : BlockShape) (a : Field ℕ) (x y : ℕ) → pass_of s a x y ≡ cond (old a x y) 1 (cond (spread s a x y) 0 2)
unfolding pass_of
pass_is s a x y = refl

pub not_old : (s : BlockShape) (a : Field ℕ) (x y : ℕ) → spread s a x y ≡ true → old a x y ≡ false
not_old s a x y h = let e = spread_is s a x y in gate (old a x y) (spread s a x y) (touched_in s (so_far s a (number s.width x y)) x y) e h
  where
    gate : (o s t : Bool) → s ≡ (not o && t) → s ≡ true → o ≡ false
    gate true s t e h = let c : false ≡ true = sym e ∙ h in absurd cc
    gate false s t e h = refl

pub moment_old : (s : BlockShape) (a : Field ℕ) (x y : ℕ) → old a x y ≡ true → moment s a x y ≡ visits s + number s.width x y
unfolding moment
moment_old s a x y h = ap (λ p. p * visits s + number s.width x y) (pass_is s a x y ∙ ap (λ o. cond o 1 (cond (spread s a x y) 0 2)) h) ∙ (let e : 1 * visits s + number s.width x y ≡ visits s + number s.width x y = omega arith in e)

pub moment_spread : (s : BlockShape) (a : Field ℕ) (x y : ℕ) → spread s a x y ≡ true → moment s a x y ≡ number s.width x y
unfolding moment
moment_spread s a x y h =
    ap (λ p. p * visits s + number s.width x y)
    (pass_is s a x y ∙ ap (λ o. cond o 1 (cond (spread s a x y) 0 2)) (not_old s a x y h) ∙ ap (λ b. cond b 0 2) h)
    ∙ (let e : 0 * visits s + number s.width x y ≡ number s.width x y = omega arith in e)

pub moment_left : (s : BlockShape) (a : Field ℕ) (x y : ℕ) → old a x y ≡ false → spread s a x y ≡ false → moment s a x y ≡ 2 * visits s + number s.width x y
unfolding moment
moment_left s a x y o h =
    ap (λ p. p * visits s + number s.width x y) (pass_is s a x y ∙ ap (λ o. cond o 1 (cond (spread s a x y) 0 2)) o ∙ ap (λ b. cond b 0 2) h)

pub moment_is : (s : BlockShape) (a : Field ℕ) (x y : ℕ) → moment s a x y ≡ pass_of s a x y * visits s + number s.width x y
unfolding moment
moment_is s a x y = refl

pub significant_is : (s : BlockShape) (a : Field ℕ) (t x y : ℕ) → significant s a t x y ≡ (old a x y || (nat_eq (a x y) 1 && is_coded s a t x y))
unfolding significant
significant_is s a t x y = refl

-- the three cases of a place
pub record Case (s : BlockShape) (a : Field ℕ) (x y : ℕ) (o p : Bool) (m : ℕ) : Type 0 where
  pub old_is : old a x y ≡ o
  pub spread_is : spread s a x y ≡ p
  pub pass_is : pass_of s a x y ≡ m
  pub moment_is : moment s a x y ≡ m * visits s + number s.width x y

pub cases_of : {R : Type 0} (s : BlockShape) (a : Field ℕ) (x y : ℕ) → (Case s a x y true false 1 → R) → (Case s a x y false true 0 → R) → (Case s a x y false false 2 → R) → R
unfolding moment
cases_of {R} s a x y f g h = by_old (old a x y) (spread s a x y) refl refl
  where
    pass : (o p : Bool) → old a x y ≡ o → spread s a x y ≡ p → pass_of s a x y ≡ cond o 1 (cond p 0 2)
    pass o p e k = pass_is s a x y ∙ ap (λ o. cond o 1 (cond (spread s a x y) 0 2)) e ∙ ap (λ p. cond o 1 (cond p 0 2)) k

    made : (o p : Bool) (m : ℕ) → old a x y ≡ o → spread s a x y ≡ p → cond o 1 (cond p 0 2) ≡ m → Case s a x y o p m
    made o p m e k c = let q : pass_of s a x y ≡ m = pass o p e k ∙ c in record { old_is = e; spread_is = k; pass_is = q; moment_is = ap (λ p. p * visits s + number s.width x y) q }

    by_old : (o p : Bool) → old a x y ≡ o → spread s a x y ≡ p → R
    by_old true true e k = absurd (let n = not_old s a x y k in let c : true ≡ false = sym e ∙ n in cc)
    by_old true false e k = f (made true false 1 e k refl)
    by_old false true e k = g (made false true 0 e k refl)
    by_old false false e k = h (made false false 2 e k refl)

-- significant in the significance propagation pass
pub significant_early : (s : BlockShape) (a : Field ℕ) (t x y : ℕ) → t ≤ visits s → significant s a t x y ≡ so_far s a t x y
unfolding significant
significant_early s a t x y h =
    let f = found_is s a t x y in
    ap (λ b. old a x y || b)
    (cases_of s a x y
    (λ c. at_old (a x y) (moment s a x y) (found s a t x y) (spread s a x y) c.old_is f)
    (λ c. at_spread (a x y) (moment s a x y) (found s a t x y) (spread s a x y) c.moment_is c.spread_is f)
    (λ c. at_left (a x y) (moment s a x y) (found s a t x y) (spread s a x y) c.moment_is c.spread_is f))
  where
    at_old : (m p : ℕ) (f q : Bool) → nat_le 2 m ≡ true → f ≡ (nat_eq m 1 && (q && nat_lt (number s.width x y) t)) → (nat_eq m 1 && nat_lt p t) ≡ f
    at_old m p f q o e = grind (arith, nat_tests)

    at_spread : (m p : ℕ) (f q : Bool) → p ≡ 0 * visits s + number s.width x y → q ≡ true → f ≡ (nat_eq m 1 && (q && nat_lt (number s.width x y) t)) → (nat_eq m 1 && nat_lt p t) ≡ f
    at_spread m p f q o g e = grind (arith, nat_tests)

    at_left : (m p : ℕ) (f q : Bool) → p ≡ 2 * visits s + number s.width x y → q ≡ false → f ≡ (nat_eq m 1 && (q && nat_lt (number s.width x y) t)) → (nat_eq m 1 && nat_lt p t) ≡ f
    at_left m p f q o g e = grind (arith, nat_tests)

-- Two blocks at a plane that don't differ in what is coded before a moment: the bits above are the
-- same everywhere, and all bits where the place is coded. (It is said of the places coded in the
-- first of them.)
pub record Agree (s : BlockShape) (a a' : Field ℕ) (t : ℕ) : Type 0 where
  pub halves : (x y : ℕ) → a x y / 2 ≡ a' x y / 2
  pub coded : (x y : ℕ) → is_coded s a t x y ≡ true → a x y ≡ a' x y

pub agree_old : (s : BlockShape) (a a' : Field ℕ) (t x y : ℕ) → Agree s a a' t → old a x y ≡ old a' x y
agree_old s a a' t x y h = let e = h.halves x y in by_half (a x y) (a' x y) e
  where
    by_half : (m n : ℕ) → m / 2 ≡ n / 2 → nat_le 2 m ≡ nat_le 2 n
    by_half m n e = grind (arith, nat_tests)

found_step : (n k : ℕ) (f f' : Bool) (m m' : ℕ) (u u' : Bool) → f ≡ f' → u ≡ u' → nat_le 2 m ≡ nat_le 2 m' → (n ≡ k → u ≡ true → nat_le 2 m ≡ false → m ≡ m')
    → (f || (nat_eq n k && (nat_eq m 1 && u))) ≡ (f' || (nat_eq n k && (nat_eq m' 1 && u')))
found_step n k f f' m m' u u' e g o q = grind (arith, nat_tests)

found_more : (s : BlockShape) (a a' : Field ℕ) (t k x y : ℕ) → Agree s a a' t → suc k ≤ t → ((x y : ℕ) → found s a k x y ≡ found s a' k x y)
    → (found s a k x y || (nat_eq (number s.width x y) k && (nat_eq (a x y) 1 && touched_in s (so_far s a k) x y)))
    ≡ (found s a' k x y || (nat_eq (number s.width x y) k && (nat_eq (a' x y) 1 && touched_in s (so_far s a' k) x y)))
found_more s a a' t k x y h l earlier =
    found_step (number s.width x y) k (found s a k x y) (found s a' k x y) (a x y) (a' x y) (touched_in s (so_far s a k) x y) (touched_in s (so_far s a' k) x y)
    (earlier x y) same_touched (agree_old s a a' t x y h) here
  where
    same_touched : touched_in s (so_far s a k) x y ≡ touched_in s (so_far s a' k) x y
    same_touched = touched_same s (so_far s a k) (so_far s a' k) x y (λ x y. let o = agree_old s a a' t x y h in let f = earlier x y in cc)

    here : number s.width x y ≡ k → touched_in s (so_far s a k) x y ≡ true → old a x y ≡ false → a x y ≡ a' x y
    here e u o =
        let q : spread s a x y ≡ true = spread_is s a x y ∙ ap (λ k. not (old a x y) && touched_in s (so_far s a k) x y) e ∙ ap (λ b. not (old a x y) && b) u ∙ ap (λ b. not b && true) o in
        h.coded x y (let m = moment_spread s a x y q in grind (arith, nat_tests))

pub agree_found : (s : BlockShape) (a a' : Field ℕ) (t k x y : ℕ) → Agree s a a' t → k ≤ t → found s a k x y ≡ found s a' k x y
unfolding found
agree_found s a a' t zero x y h l = refl
agree_found s a a' t (suc k) x y h l = found_more s a a' t k x y h l (λ x y. agree_found s a a' t k x y h (omega arith))

-- what is coded in the significance propagation pass, up to the moment
pub agree_spread : (s : BlockShape) (a a' : Field ℕ) (t x y : ℕ) → Agree s a a' t → number s.width x y ≤ t → spread s a x y ≡ spread s a' x y
agree_spread s a a' t x y h l =
    let k = number s.width x y in
    let o = agree_old s a a' t x y h in
    let u = touched_same s (so_far s a k) (so_far s a' k) x y (λ x y. let o = agree_old s a a' t x y h in let f = agree_found s a a' t k x y h l in cc) in
    spread_is s a x y ∙ (let e : (not (old a x y) && touched_in s (so_far s a k) x y) ≡ (not (old a' x y) && touched_in s (so_far s a' k) x y) = cc in e) ∙ sym (spread_is s a' x y)

pub agree_pass : (s : BlockShape) (a a' : Field ℕ) (t x y : ℕ) → Agree s a a' t → number s.width x y ≤ t → pass_of s a x y ≡ pass_of s a' x y
agree_pass s a a' t x y h l =
    let o = agree_old s a a' t x y h in
    let p = agree_spread s a a' t x y h l in
    pass_is s a x y ∙ (let e : cond (old a x y) 1 (cond (spread s a x y) 0 2) ≡ cond (old a' x y) 1 (cond (spread s a' x y) 0 2) = cc in e) ∙ sym (pass_is s a' x y)

pub agree_moment : (s : BlockShape) (a a' : Field ℕ) (t x y : ℕ) → Agree s a a' t → number s.width x y ≤ t → moment s a x y ≡ moment s a' x y
unfolding moment
agree_moment s a a' t x y h l = ap (λ p. p * visits s + number s.width x y) (agree_pass s a a' t x y h l)

pub number_first : (s : BlockShape) (a : Field ℕ) (x y : ℕ) → number s.width x y ≤ moment s a x y
unfolding moment
number_first s a x y = omega arith

-- what is coded before a moment, and at it
pub agree_coded : (s : BlockShape) (a a' : Field ℕ) (t u x y : ℕ) → Agree s a a' t → u ≤ t + 1 → is_coded s a u x y ≡ is_coded s a' u x y
agree_coded s a a' t u x y h l = elim (cases_lt t (number s.width x y)) [
  | inl after ↦ let p = number_first s a x y in let q = number_first s a' x y in late (moment s a x y) (moment s a' x y) p q after
  | inr before ↦ ap (λ m. nat_lt m u) (agree_moment s a a' t x y h before)
]
  where
    late : (m n : ℕ) → number s.width x y ≤ m → number s.width x y ≤ n → t < number s.width x y → nat_lt m u ≡ nat_lt n u
    late m n p q r = grind (arith, nat_tests)

-- and the other way round
pub agree_turned : (s : BlockShape) (a a' : Field ℕ) (t : ℕ) → Agree s a a' t → Agree s a' a t
agree_turned s a a' t h = record {
  halves = λ x y. sym (h.halves x y);
  coded = λ x y c. sym (h.coded x y (agree_coded s a a' t t x y h (omega arith) ∙ c));
}

-- what is significant
pub agree_significant : (s : BlockShape) (a a' : Field ℕ) (t x y : ℕ) → Agree s a a' t → significant s a t x y ≡ significant s a' t x y
unfolding significant
agree_significant s a a' t x y h =
    gate (a x y) (a' x y) (is_coded s a t x y) (is_coded s a' t x y) (agree_old s a a' t x y h) (agree_coded s a a' t t x y h (omega arith)) (h.coded x y)
  where
    gate : (m n : ℕ) (c d : Bool) → nat_le 2 m ≡ nat_le 2 n → c ≡ d → (c ≡ true → m ≡ n) → (nat_le 2 m || (nat_eq m 1 && c)) ≡ (nat_le 2 n || (nat_eq n 1 && d))
    gate m n c d e g q = grind (arith, nat_tests)

-- at an earlier moment
pub agree_before : (s : BlockShape) (a a' : Field ℕ) (t u : ℕ) → Agree s a a' t → u ≤ t → Agree s a a' u
agree_before s a a' t u h l = record {
  halves = h.halves;
  coded = λ x y c. h.coded x y (grind (arith, nat_tests));
}

pub agree_joined : (s : BlockShape) (a b c : Field ℕ) (t : ℕ) → Agree s a b t → Agree s b c t → Agree s a c t
agree_joined s a b c t h g = record {
  halves = λ x y. h.halves x y ∙ g.halves x y;
  coded = λ x y e. h.coded x y e ∙ g.coded x y (sym (agree_coded s a b t t x y h (omega arith)) ∙ e);
}

-- two places inside with one number are one
pub number_one : (s : BlockShape) (x y x' y' : ℕ) → is_inside s x y ≡ true → is_inside s x' y' ≡ true → number s.width x y ≡ number s.width x' y' → (x ≡ x') × (y ≡ y')
number_one s x y x' y' i i' e = number_same s.width x y x' y' (inside_parts s x y i).0 (inside_parts s x' y' i').0 e

-- one moment is of one place
pub place_one : (s : BlockShape) (p q x y x' y' : ℕ) → is_inside s x y ≡ true → is_inside s x' y' ≡ true → p * visits s + number s.width x y ≡ q * visits s + number s.width x' y'
    → (p ≡ q) × (x ≡ x') × (y ≡ y')
place_one s p q x y x' y' i i' e =
    let d = same_from_place p (number s.width x y) q (number s.width x' y') (visits s) (number_below s x y i) (number_below s x' y' i') e in
    let n = number_one s x y x' y' i i' d.1 in
    (d.0, n.0, n.1)

-- what is significant stays so
pub significant_later : (s : BlockShape) (a : Field ℕ) (t u x y : ℕ) → t ≤ u → significant s a t x y ≡ true → significant s a u x y ≡ true
unfolding significant
significant_later s a t u x y l h = gate (a x y) (moment s a x y) h
  where
    gate : (m p : ℕ) → (nat_le 2 m || (nat_eq m 1 && nat_lt p t)) ≡ true → (nat_le 2 m || (nat_eq m 1 && nat_lt p u)) ≡ true
    gate m p h = grind (arith, nat_tests)

-- the same of a place that may lie below the block, in its last stripe
pub place_any : (s : BlockShape) (p q x y x' y' : ℕ) → is_inside s x y ≡ true → x' < s.width → number s.width x' y' < visits s → p * visits s + number s.width x y ≡ q * visits s + number s.width x' y'
    → (p ≡ q) × (x ≡ x') × (y ≡ y')
place_any s p q x y x' y' i h l e =
    let d = same_from_place p (number s.width x y) q (number s.width x' y') (visits s) (number_below s x y i) l e in
    let n = number_same s.width x y x' y' (inside_parts s x y i).0 h d.1 in
    (d.0, n.0, n.1)
