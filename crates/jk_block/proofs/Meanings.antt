-- What is read is what the segment means, and what it means is read.
use Rattle.std.proofs.Common.{◌≡◌, ℕ, zero, suc, ◌+◌, ◌-◌, ◌*◌, ◌/◌, ◌%◌, ◌^◌, ◌<◌, ◌≤◌, Bool, true, false, cond, List, map, Result, Ok, Err, ℤ, pos, negsuc, unsigned_abs, refl, sym, ap, ◌∙◌, subst, inl, inr, get_or, length, arith}
use Rattle.std.specs.Prelude.{◌&&◌, nat_lt, nat_le}
use Rattle.std.specs.Int.{is_negative}
use Rattle.std.specs.List.{range_with_len}
use Rattle.std.proofs.lemmas.Bool.{and_parts, cases_lt}
use Rattle.std.proofs.lemmas.Bool.Decides.{nat_tests}
use Rattle.std.proofs.lemmas.Nat.{pow_pos, div-mul-add, mod-mul-add, mul-add-lt, div_below}
use Rattle.std.proofs.lemmas.Grind.{pow_more}
use Rattle.std.proofs.Math.Nat.{mul_comm, mod-lt, div-div-eq-div-mul, mul-le-mul_right}
use Rattle.std.proofs.lemmas.List.FromFn.{get_or-map-range_with_len, length-map-range_with_len}
use Rattle.jk_math.specs.declared.fault.Fault.{Fault}
use Rattle.jk_math.specs.declared.fault.Fault.TheVariants.{TooManyPasses}
use Rattle.jk_math.specs.Answer.{◌>>=◌}
use Rattle.jk_math.specs.Steps.{bind_then, refuse_then, done, ok_is}
use Rattle.jk_model.specs.Decisions.{initial}
use Rattle.jk_model.specs.CodingPasses.{SpellsPassesFrom}
use Rattle.jk_scan.specs.declared.shape.BlockShape.{BlockShape}
use Rattle.jk_scan.specs.Neighbours.{Field, is_inside}
use Rattle.jk_scan.specs.Moments.{number, visits, pass_of, moment, is_coded}
use Rattle.jk_scan.proofs.Laws.{same_field, inside_parts, cases_of, agree_coded, number_below}
use Rattle.jk_block.specs.Meaning.{plane_of, kind_of, plane_at, pass_decisions, with_sign, above, truncated, IsBlockMeaning, values_of, value_in}
use Rattle.jk_block.specs.Reading.{Progress, blank, times, pass_at, coefficients, block_at}
use Rattle.jk_block.proofs.Stages.{mags, Cut, Like}
use Rattle.jk_block.proofs.Changes.{mags_inside, mags_outside}
use Rattle.jk_block.proofs.Seeing.{significant_then}
use Rattle.jk_block.proofs.Drawing.{listed_at}
use Rattle.jk_block.proofs.Whole.{plane_inside, plane_outside, plane_negative, Done, DoneLike, passes_onward, passes_back, passes_only}

-- signs and magnitudes
pub abs_with_sign : (n : Bool) (m : ℕ) → unsigned_abs (with_sign n m) ≡ m
abs_with_sign true zero = refl
abs_with_sign true (suc m) = refl
abs_with_sign false m = refl

pub negative_with_sign : (n : Bool) (m : ℕ) → 0 < m → is_negative (with_sign n m) ≡ n
negative_with_sign true zero h = absurd (omega arith)
negative_with_sign true (suc m) h = refl
negative_with_sign false m h = by m
  where
    by : (m : ℕ) → is_negative (pos m) ≡ false
    by m = grind (arith, nat_tests)

pub with_sign_self : (z : ℤ) → with_sign (is_negative z) (unsigned_abs z) ≡ z
with_sign_self (pos m) = ap (λ (n : Bool). with_sign n m) (by m)
  where
    by : (m : ℕ) → is_negative (pos m) ≡ false
    by m = grind (arith, nat_tests)
with_sign_self (negsuc m) = refl

-- the values of a field are its values
pub value_at : (s : BlockShape) (q : Field ℤ) (x y : ℕ) → is_inside s x y ≡ true → value_in s (values_of s q) x y ≡ q x y
unfolding values_of
value_at s q x y i =
    let p = inside_parts s x y i in
    let at = mul-add-lt y s.width x s.height p.1 p.0 in
    let c = mul_comm s.width s.height in
    let row = div-mul-add y s.width x p.0 in
    let column : (y * s.width + x) % s.width ≡ x = mod-mul-add y s.width x p.0 in
    get_or-map-range_with_len (λ i. q (i % s.width) (i / s.width)) 0 (s.width * s.height) (y * s.width + x) (y * s.width + x) (pos 0) (omega (arith, at, c)) (omega arith)
    ∙ ap (λ c. q c ((y * s.width + x) / s.width)) column ∙ ap (q x) row

range_same : {X : Type 0} (f g : ℕ → X) (a n : ℕ) → ((i : ℕ) → i < a + n → f i ≡ g i) → map f (range_with_len a n) ≡ map g (range_with_len a n)
range_same f g a zero h = refl
range_same f g a (suc n) h = let e = h a (omega arith) in let r = range_same f g (a + 1) n (λ i l. h i (omega arith)) in cc

pub values_same : (s : BlockShape) (q r : Field ℤ) → ((x y : ℕ) → is_inside s x y ≡ true → q x y ≡ r x y) → values_of s q ≡ values_of s r
unfolding values_of
values_same s q r h = range_same (λ i. q (i % s.width) (i / s.width)) (λ i. r (i % s.width) (i / s.width)) 0 (s.width * s.height) (λ i l. at i (omega arith))
  where
    both : (p q : Bool) → p ≡ true → q ≡ true → (p && q) ≡ true
    both p q e g = cc

    some : (i w k : ℕ) → i < w * k → 0 < w
    some i zero k l = absurd (omega arith)
    some i (suc w) k l = omega arith

    at : (i : ℕ) → i < s.width * s.height → q (i % s.width) (i / s.width) ≡ r (i % s.width) (i / s.width)
    at i l =
        let wide = some i s.width s.height l in
        let column : i % s.width < s.width = mod-lt i wide in
        let c = mul_comm s.width s.height in
        let row : i / s.width < s.height = div_below i s.width s.height wide (omega (arith, l, c)) in
        h (i % s.width) (i / s.width) (both (nat_lt (i % s.width) s.width) (nat_lt (i / s.width) s.height) (grind (arith, nat_tests)) (grind (arith, nat_tests)))

inside_or : {R : Type 0} (b : Bool) → (b ≡ true → R) → (b ≡ false → R) → R
inside_or true f g = f refl
inside_or false f g = g refl

-- a pass up to the last one is one whose places are all coded by then
pub coded_by : (s : BlockShape) (a : Field ℕ) (k x y : ℕ) → is_inside s x y ≡ true → is_coded s a (k * visits s + visits s) x y ≡ nat_le (pass_of s a x y) k
coded_by s a k x y i =
    let n = number_below s x y i in
    cases_of s a x y (λ w. at 1 w.moment_is w.pass_is n) (λ w. at 0 w.moment_is w.pass_is n) (λ w. at 2 w.moment_is w.pass_is n)
  where
    by : (m p : ℕ) → m ≡ p * visits s + number s.width x y → number s.width x y < visits s → nat_lt m (k * visits s + visits s) ≡ nat_le p k
    by m p e h = elim (cases_lt k p) [
      | inl more ↦
          let g : (k + 1) * visits s ≤ p * visits s = mul-le-mul_right (visits s) (omega arith) in
          let f : k * visits s + visits s ≤ m = omega (arith, g) in
          let a : nat_lt m (k * visits s + visits s) ≡ false = grind (arith, nat_tests) in
          let b : nat_le p k ≡ false = grind (arith, nat_tests) in a ∙ sym b
      | inr less ↦
          let g : p * visits s ≤ k * visits s = mul-le-mul_right (visits s) less in
          let f : m < k * visits s + visits s = omega (arith, g) in
          let a : nat_lt m (k * visits s + visits s) ≡ true = grind (arith, nat_tests) in
          let b : nat_le p k ≡ true = grind (arith, nat_tests) in a ∙ sym b
    ]

    at : (p : ℕ) → moment s a x y ≡ p * visits s + number s.width x y → pass_of s a x y ≡ p → number s.width x y < visits s → nat_lt (moment s a x y) (k * visits s + visits s) ≡ nat_le (pass_of s a x y) k
    at p e g h = by (moment s a x y) p e h ∙ ap (λ p. nat_le p k) (sym g)

-- What is held at the end is what the passes code of a magnitude.
pub held_is : (s : BlockShape) (b k : ℕ) (z : Progress) (x y : ℕ) → is_inside s x y ≡ true → Cut s b (k * visits s + visits s) z
    → z.magnitude x y ≡ cond (nat_le (pass_of s (mags s b z) x y) k) (above b (z.magnitude x y)) (above (b + 1) (z.magnitude x y))
held_is s b k z x y i c =
    by (nat_le (pass_of s (mags s b z) x y) k) (coded_by s (mags s b z) k x y i)
  where
    whole : z.magnitude x y ≡ above b (z.magnitude x y)
    whole = c.whole x y i ∙ ap (λ a. a * 2 ^ b) (mags_inside s b z x y i)

    in_twos : (a p : ℕ) → a % 2 ≡ 0 → a * p ≡ a / 2 * (p * 2)
    in_twos a p h = let e : a ≡ a / 2 * 2 = omega arith in ap (λ a. a * p) e ∙ (let g : a / 2 * 2 * p ≡ a / 2 * (p * 2) = omega arith in g)

    even_part : (m p : ℕ) → m ≡ m / p * p → m / p % 2 ≡ 0 → m ≡ m / p / 2 * (p * 2)
    even_part m p e h = e ∙ in_twos (m / p) p h

    by : (d : Bool) → is_coded s (mags s b z) (k * visits s + visits s) x y ≡ d → z.magnitude x y ≡ cond d (above b (z.magnitude x y)) (above (b + 1) (z.magnitude x y))
    by true e = whole
    by false e =
        even_part (z.magnitude x y) (2 ^ b) whole (ap (λ a. a % 2) (sym (mags_inside s b z x y i)) ∙ c.even x y i e)
        ∙ ap (λ a. a * (2 ^ b * 2)) (div-div-eq-div-mul (z.magnitude x y) (2 ^ b) 2)
        ∙ ap (λ p. z.magnitude x y / p * p) (sym (pow_more 2 b))

-- a field that has the values held
pub record Holds (s : BlockShape) (z : Progress) (q : Field ℤ) : Type 0 where
  pub magnitude : (x y : ℕ) → is_inside s x y ≡ true → unsigned_abs (q x y) ≡ z.magnitude x y
  pub negative : (x y : ℕ) → is_inside s x y ≡ true → 0 < z.magnitude x y → z.negative x y ≡ is_negative (q x y)

holds_mags : (s : BlockShape) (b : ℕ) (z : Progress) (q : Field ℤ) → Holds s z q → (x y : ℕ) → mags s b z x y ≡ (plane_at s b q).magnitude x y
holds_mags s b z q h x y = inside_or (is_inside s x y)
    (λ i. mags_inside s b z x y i ∙ ap (λ m. m / 2 ^ b) (sym (h.magnitude x y i)) ∙ sym (plane_inside s b q x y i))
    (λ i. mags_outside s b z x y i ∙ sym (plane_outside s b q x y i))

holds_like : (s : BlockShape) (b t : ℕ) (z : Progress) (q : Field ℤ) → Cut s b t z → Holds s z q → Like s b t z (plane_at s b q)
holds_like s b t z q c h = record {
  agree = record { halves = λ x y. ap (λ m. m / 2) (holds_mags s b z q h x y); coded = λ x y e. holds_mags s b z q h x y };
  outside = plane_outside s b q;
  signs = λ x y e. significant_parts (is_inside s x y) (z.magnitude x y) (significant_then s b t z c x y ∙ e) (λ i l. h.negative x y i l ∙ sym (plane_negative s b q x y));
}
  where
    significant_parts : {R : Type 0} (i : Bool) (m : ℕ) → (i && nat_lt 0 m) ≡ true → (i ≡ true → 0 < m → R) → R
    significant_parts i m e f = let p = and_parts i (nat_lt 0 m) e in let p1 = p.1 in f p.0 (grind (arith, nat_tests))

values_hold : (s : BlockShape) (z : Progress) → Holds s z (value_in s (values_of s (coefficients z)))
values_hold s z = record {
  magnitude = λ x y i. ap unsigned_abs (value_at s (coefficients z) x y i) ∙ abs_with_sign (z.negative x y) (z.magnitude x y);
  negative = λ x y i h. sym (ap is_negative (value_at s (coefficients z) x y i) ∙ negative_with_sign (z.negative x y) (z.magnitude x y) h);
}

-- what the passes code of a block that is held is the block
pub cut_held : (s : BlockShape) (planes n : ℕ) (z : Progress) (q : Field ℤ) → Done s planes n z → Holds s z q → (x y : ℕ) → is_inside s x y ≡ true → truncated s planes n q x y ≡ q x y
unfolding Done truncated
cut_held s planes zero z q d h x y i = sym (no_magnitude (q x y) (h.magnitude x y i ∙ ap (λ (z : Progress). z.magnitude x y) d))
  where
    no_magnitude : (v : ℤ) → unsigned_abs v ≡ 0 → v ≡ pos 0
    no_magnitude (pos m) e = ap pos e
    no_magnitude (negsuc m) e = absurd (omega arith)
cut_held s planes (suc n) z q d h x y i =
    let b = plane_of planes n in
    let same = same_field (mags s b z) (plane_at s b q).magnitude (holds_mags s b z q h) in
    let m = h.magnitude x y i in
    ap (λ (a : Field ℕ). with_sign (is_negative (q x y)) (cond (nat_le (pass_of s a x y) (kind_of n)) (above b (unsigned_abs (q x y))) (above (b + 1) (unsigned_abs (q x y))))) (sym same)
    ∙ ap (λ (m : ℕ). with_sign (is_negative (q x y)) (cond (nat_le (pass_of s (mags s b z) x y) (kind_of n)) (above b m) (above (b + 1) m))) m
    ∙ ap (with_sign (is_negative (q x y))) (sym (held_is s b (kind_of n) z x y i d) ∙ sym m)
    ∙ with_sign_self (q x y)

pub done_like : (s : BlockShape) (planes n : ℕ) (z : Progress) (q : Field ℤ) → Done s planes n z → Holds s z q → DoneLike s planes n z q
unfolding Done DoneLike
done_like s planes zero z q d h = λ x y i. subst (λ m. m < 2 ^ planes) (sym (h.magnitude x y i ∙ ap (λ (z : Progress). z.magnitude x y) d)) (pow_pos planes)
done_like s planes (suc n) z q d h = holds_like s (plane_of planes n) (kind_of n * visits s + visits s) z q d h

-- What is read is what the segment means.
pub block_found : (s : BlockShape) (planes passes : ℕ) (bytes : List ℕ) (vs : List ℤ) → block_at s planes passes bytes ≡ Ok vs → IsBlockMeaning s planes passes bytes (value_in s vs)
unfolding block_at
block_found s planes passes bytes vs e =
    refuse_then (nat_lt (3 * planes - 2) passes) TooManyPasses (λ _. times passes (pass_at bytes s planes) blank >>= λ z. Ok (values_of s (coefficients z))) vs e (λ few r.
    bind_then (times passes (pass_at bytes s planes) blank) (λ z. Ok (values_of s (coefficients z))) vs r (λ z is same.
    let fits : passes ≤ 3 * planes - 2 = grind (arith, nat_tests) in
    subst (λ (vs : List ℤ). IsBlockMeaning s planes passes bytes (value_in s vs)) (ok_is (values_of s (coefficients z)) vs same) (read s planes passes bytes z fits is)))
  where
    read : (s : BlockShape) (planes passes : ℕ) (bytes : List ℕ) (z : Progress) → passes ≤ 3 * planes - 2 → times passes (pass_at bytes s planes) blank ≡ Ok z → IsBlockMeaning s planes passes bytes (value_in s (values_of s (coefficients z)))
    read s planes passes bytes z fits is =
        let q = value_in s (values_of s (coefficients z)) in
        let d = passes_onward bytes s planes passes z fits is in
        let h = values_hold s z in
        let all = passes_back bytes s planes passes z q fits is (done_like s planes passes z q d h) in
        record { few = fits; small = all.small; coded = cut_held s planes passes z q d h; spelled = λ _. all.told.spelled }

-- the two sizes of what is coded
pub by_code : (s : BlockShape) (b t : ℕ) (z : Progress) (q : Field ℤ) (x y : ℕ) → is_inside s x y ≡ true → Like s b t z (plane_at s b q) → (c : Bool) → is_coded s (mags s b z) t x y ≡ c
    → cond c (above b (z.magnitude x y)) (above (b + 1) (z.magnitude x y)) ≡ cond c (above b (unsigned_abs (q x y))) (above (b + 1) (unsigned_abs (q x y)))
by_code s b t z q x y i l true e = ap (λ a. a * 2 ^ b) (sym (mags_inside s b z x y i) ∙ l.agree.coded x y e ∙ plane_inside s b q x y i)
by_code s b t z q x y i l false e =
    ap (λ a. a * 2 ^ (b + 1)) (half (z.magnitude x y) ∙ ap (λ a. a / 2) (sym (mags_inside s b z x y i)) ∙ l.agree.halves x y ∙ ap (λ a. a / 2) (plane_inside s b q x y i) ∙ sym (half (unsigned_abs (q x y))))
  where
    half : (m : ℕ) → m / 2 ^ (b + 1) ≡ m / 2 ^ b / 2
    half m = ap (λ p. m / p) (pow_more 2 b) ∙ sym (div-div-eq-div-mul m (2 ^ b) 2)

-- a block that is its own cut is what is held
held_like : (s : BlockShape) (planes n : ℕ) (z : Progress) (q : Field ℤ) → ((x y : ℕ) → is_inside s x y ≡ true → truncated s planes n q x y ≡ q x y) → Done s planes n z → DoneLike s planes n z q
    → (x y : ℕ) → is_inside s x y ≡ true → coefficients z x y ≡ q x y
unfolding Done DoneLike truncated
held_like s planes zero z q h d l x y i = ap (λ (z : Progress). coefficients z x y) d ∙ h x y i
held_like s planes (suc n) z q h d l x y i =
    let b = plane_of planes n in
    let k = kind_of n in
    let t = k * visits s + visits s in
    let code : is_coded s (mags s b z) t x y ≡ nat_le (pass_of s (mags s b z) x y) k = coded_by s (mags s b z) k x y i in
    let pass : is_coded s (mags s b z) t x y ≡ nat_le (pass_of s (plane_at s b q).magnitude x y) k = agree_coded s (mags s b z) (plane_at s b q).magnitude t t x y l.agree (omega arith) ∙ coded_by s (plane_at s b q).magnitude k x y i in
    let size : z.magnitude x y ≡ cond (nat_le (pass_of s (plane_at s b q).magnitude x y) k) (above b (unsigned_abs (q x y))) (above (b + 1) (unsigned_abs (q x y))) =
    held_is s b k z x y i d ∙ ap (λ c. cond c (above b (z.magnitude x y)) (above (b + 1) (z.magnitude x y))) (sym code)
    ∙ by_code s b t z q x y i l (is_coded s (mags s b z) t x y) refl
    ∙ ap (λ c. cond c (above b (unsigned_abs (q x y))) (above (b + 1) (unsigned_abs (q x y)))) pass in
    let own : unsigned_abs (q x y) ≡ cond (nat_le (pass_of s (plane_at s b q).magnitude x y) k) (above b (unsigned_abs (q x y))) (above (b + 1) (unsigned_abs (q x y))) =
    ap unsigned_abs (sym (h x y i)) ∙ abs_with_sign (is_negative (q x y)) (cond (nat_le (pass_of s (plane_at s b q).magnitude x y) k) (above b (unsigned_abs (q x y))) (above (b + 1) (unsigned_abs (q x y)))) in
    let same : z.magnitude x y ≡ unsigned_abs (q x y) = size ∙ sym own in
    ap (with_sign (z.negative x y)) same ∙ signed (unsigned_abs (q x y)) (z.negative x y) (is_negative (q x y)) (λ m. l.signs x y (sym (significant_then s b t z d x y) ∙ shown (is_inside s x y) (z.magnitude x y) i (subst (λ n. 0 < n) (sym same) m)) ∙ plane_negative s b q x y)
    ∙ with_sign_self (q x y)
  where
    signed : (m : ℕ) (n n' : Bool) → (0 < m → n ≡ n') → with_sign n m ≡ with_sign n' m
    signed zero true true e = refl
    signed zero true false e = refl
    signed zero false true e = refl
    signed zero false false e = refl
    signed (suc m) n n' e = ap (λ n. with_sign n (suc m)) (e (omega arith))

    shown : (i : Bool) (m : ℕ) → i ≡ true → 0 < m → (i && nat_lt 0 m) ≡ true
    shown i m e h = grind (arith, nat_tests)

spelled_all : (s : BlockShape) (planes passes : ℕ) (bytes : List ℕ) (q : Field ℤ) → IsBlockMeaning s planes passes bytes q → SpellsPassesFrom s.style.reset bytes initial (pass_decisions s planes passes q)
unfolding pass_decisions
spelled_all s planes zero bytes q m = tt
spelled_all s planes (suc n) bytes q m = m.spelled (omega arith)

-- What the segment means is read.
pub block_only : (s : BlockShape) (planes passes : ℕ) (bytes : List ℕ) (q : Field ℤ) → IsBlockMeaning s planes passes bytes q → block_at s planes passes bytes ≡ Ok (values_of s q)
unfolding block_at
block_only s planes passes bytes q m =
    let few = m.few in
    let fits : nat_lt (3 * planes - 2) passes ≡ false = grind (arith, nat_tests) in
    let all = passes_only bytes s planes passes q m.few m.small (spelled_all s planes passes bytes q m) in
    let d = passes_onward bytes s planes passes all.last m.few all.is in
    ap (λ b. cond b (Err TooManyPasses) (done tt) >>= λ _. times passes (pass_at bytes s planes) blank >>= λ z. done (values_of s (coefficients z))) fits
    ∙ ap (λ (r : Result Progress Fault). r >>= λ z. done (values_of s (coefficients z))) all.is
    ∙ ap (λ (vs : List ℤ). done vs) (values_same s (coefficients all.last) q (held_like s planes passes all.last q m.coded d all.like))

-- A segment means at most one block.
pub block_one : (s : BlockShape) (planes passes : ℕ) (bytes : List ℕ) (q r : Field ℤ) → IsBlockMeaning s planes passes bytes q → IsBlockMeaning s planes passes bytes r → (x y : ℕ) → is_inside s x y ≡ true → q x y ≡ r x y
block_one s planes passes bytes q r m n x y i =
    let same : values_of s q ≡ values_of s r = ok_is (values_of s q) (values_of s r) (sym (block_only s planes passes bytes q m) ∙ block_only s planes passes bytes r n) in
    sym (value_at s q x y i) ∙ ap (λ (vs : List ℤ). value_in s vs x y) same ∙ value_at s r x y i

-- what is held after some passes is small
pub passes_small : (bytes : List ℕ) (s : BlockShape) (planes n : ℕ) (z : Progress) → n ≤ 3 * planes - 2 → times n (pass_at bytes s planes) blank ≡ Ok z → (x y : ℕ) → is_inside s x y ≡ true → z.magnitude x y < 2 ^ planes
passes_small bytes s planes n z fits is x y i =
    let q = value_in s (values_of s (coefficients z)) in
    let h = values_hold s z in
    let all = passes_back bytes s planes n z q fits is (done_like s planes n z q (passes_onward bytes s planes n z fits is) h) in
    subst (λ m. m < 2 ^ planes) (h.magnitude x y i) (all.small x y i)

-- the answer, by the passes
pub block_is : (s : BlockShape) (planes passes : ℕ) (bytes : List ℕ) (z : Progress) → passes ≤ 3 * planes - 2 → times passes (pass_at bytes s planes) blank ≡ Ok z → block_at s planes passes bytes ≡ Ok (values_of s (coefficients z))
unfolding block_at
block_is s planes passes bytes z few e =
    let fits : nat_lt (3 * planes - 2) passes ≡ false = grind (arith, nat_tests) in
    ap (λ b. cond b (Err TooManyPasses) (done tt) >>= λ _. times passes (pass_at bytes s planes) blank >>= λ z. done (values_of s (coefficients z))) fits
    ∙ ap (λ (r : Result Progress Fault). r >>= λ z. done (values_of s (coefficients z))) e

pub block_faults : (s : BlockShape) (planes passes : ℕ) (bytes : List ℕ) (f : Fault) → passes ≤ 3 * planes - 2 → times passes (pass_at bytes s planes) blank ≡ Err f → block_at s planes passes bytes ≡ Err f
unfolding block_at
block_faults s planes passes bytes f few e =
    let fits : nat_lt (3 * planes - 2) passes ≡ false = grind (arith, nat_tests) in
    ap (λ b. cond b (Err TooManyPasses) (done tt) >>= λ _. times passes (pass_at bytes s planes) blank >>= λ z. done (values_of s (coefficients z))) fits
    ∙ ap (λ (r : Result Progress Fault). r >>= λ z. done (values_of s (coefficients z))) e

pub block_refused : (s : BlockShape) (planes passes : ℕ) (bytes : List ℕ) → 3 * planes - 2 < passes → block_at s planes passes bytes ≡ Err TooManyPasses
unfolding block_at
block_refused s planes passes bytes many =
    let over : nat_lt (3 * planes - 2) passes ≡ true = grind (arith, nat_tests) in
    ap (λ b. cond b (Err TooManyPasses) (done tt) >>= λ _. times passes (pass_at bytes s planes) blank >>= λ z. done (values_of s (coefficients z))) over

-- small coefficients are small values
pub values_small : (s : BlockShape) (z : Progress) (most k : ℕ) (d : ℤ) → ((x y : ℕ) → is_inside s x y ≡ true → z.magnitude x y < most) → k < length (values_of s (coefficients z)) → unsigned_abs (get_or (values_of s (coefficients z)) k d) < most
unfolding values_of
values_small s z most k d small l =
    let f : ℕ → ℤ = λ i. coefficients z (i % s.width) (i / s.width) in
    let n = length-map-range_with_len f 0 (s.width * s.height) in
    let below : k < s.width * s.height = omega (arith, l, n) in
    let at = listed_at s k below in
    subst (λ (v : ℤ). unsigned_abs v < most) (sym (get_or-map-range_with_len f 0 (s.width * s.height) k k d below (omega arith)))
    (subst (λ m. m < most) (sym (abs_with_sign (z.negative (k % s.width) (k / s.width)) (z.magnitude (k % s.width) (k / s.width)))) (small (k % s.width) (k / s.width) at))
