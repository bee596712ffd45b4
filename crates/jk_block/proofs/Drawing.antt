-- What words show as the fields of a draft.
use Rattle.std.proofs.Common.{◌≡◌, ℕ, zero, suc, ◌+◌, ◌*◌, ◌/◌, ◌%◌, ◌^◌, ◌<◌, ◌≤◌, Bool, true, false, cond, refl, sym, ap, ◌∙◌, subst, inl, inr, List, length, replicate, get_or, arith}
use Rattle.std.specs.Prelude.{◌&&◌, ◌||◌, nat_eq, nat_lt}
use Rattle.std.proofs.lemmas.Bool.{and_parts, cases_lt}
use Rattle.std.proofs.lemmas.Bool.Decides.{nat_tests}
use Rattle.std.proofs.lemmas.Nat.{pow_pos, div_below}
use Rattle.std.proofs.lemmas.List.{get_or-replicate, get_or_past, length-replicate}
use Rattle.std.proofs.Math.Nat.{mul_comm, mul-le-mul_right, mod-lt, lt-div-mul-add}
use Rattle.jk_model.specs.Decisions.{State}
use Rattle.jk_scan.specs.declared.shape.BlockShape.{BlockShape}
use Rattle.jk_scan.specs.Bits.{on}
use Rattle.jk_scan.specs.Neighbours.{Field, is_inside}
use Rattle.jk_scan.specs.WordPlaces.{also}
use Rattle.jk_scan.specs.Flags.{word_at}
use Rattle.jk_scan.proofs.Laws.{same_field, flag_none, on_zero}
use Rattle.jk_block.specs.Meaning.{above}
use Rattle.jk_block.specs.Reading.{Progress, put}
use Rattle.jk_block.specs.Fields.{significant_of, flagged, words_of, plane_bit, own_bit, magnitude_of, AreUnmarked}
use Rattle.jk_block.specs.decoding.BlockStates.{Draft}
use Rattle.jk_block.proofs.decoding.Numbers.{number_none}

drawn : Field ℕ → Field Bool → Field Bool → State → Progress
drawn m n v c = record { magnitude = m; negative = n; visited = v; coder = c }

pub progress_same : (m m' : Field ℕ) (n n' v v' : Field Bool) (c : State) → m ≡ m' → n ≡ n' → v ≡ v'
    → (let a : Progress = record { magnitude = m; negative = n; visited = v; coder = c } in a) ≡ (let b : Progress = record { magnitude = m'; negative = n'; visited = v'; coder = c } in b)
unfolding drawn
progress_same m m' n n' v v' c e f g = ap (λ (m : Field ℕ). drawn m n v c) e ∙ ap (λ (n : Field Bool). drawn m' n v c) f ∙ ap (λ (v : Field Bool). drawn m' n' v c) g

drafted : BlockShape → Field ℕ → Field Bool → Field Bool → Draft
drafted s m n v = record { shape = s; magnitude = m; negative = n; visited = v }

pub draft_same : (s s' : BlockShape) (m m' : Field ℕ) (n n' v v' : Field Bool) → s ≡ s' → m ≡ m' → n ≡ n' → v ≡ v'
    → (let a : Draft = record { shape = s; magnitude = m; negative = n; visited = v } in a) ≡ (let b : Draft = record { shape = s'; magnitude = m'; negative = n'; visited = v' } in b)
unfolding drafted
draft_same s s' m m' n n' v v' d e f g = ap (λ (s : BlockShape). drafted s m n v) d ∙ ap (λ (m : Field ℕ). drafted s' m n v) e ∙ ap (λ (n : Field Bool). drafted s' m' n v) f ∙ ap (λ (v : Field Bool). drafted s' m' n' v) g

-- a place by its number, row by row
pub listed_at : (s : BlockShape) (i : ℕ) → i < s.width * s.height → is_inside s (i % s.width) (i / s.width) ≡ true
listed_at s i l =
    let wide = some i s.width s.height l in
    let column : i % s.width < s.width = mod-lt i wide in
    let c = mul_comm s.width s.height in
    let row : i / s.width < s.height = div_below i s.width s.height wide (omega (arith, l, c)) in
    both (nat_lt (i % s.width) s.width) (nat_lt (i / s.width) s.height) (grind (arith, nat_tests)) (grind (arith, nat_tests))
  where
    both : (p q : Bool) → p ≡ true → q ≡ true → (p && q) ≡ true
    both p q e g = cc

    some : (i w k : ℕ) → i < w * k → 0 < w
    some i zero k l = absurd (omega arith)
    some i (suc w) k l = omega arith

-- words of an array in which nothing is marked
pub unmarked_words : (s : BlockShape) (n : ℕ) (words : List ℕ) → words_of s ≤ n → words ≡ replicate n 0 → AreUnmarked s words
unmarked_words s n words room e =
    let count : length words ≡ n = ap (λ (ws : List ℕ). length ws) e ∙ length-replicate n 0 in
    (omega (arith, count, room), e ∙ ap (λ (k : ℕ). replicate k 0) (sym count))

and_false : (b : Bool) → (b && false) ≡ false
and_false true = refl
and_false false = refl

pub flagged_none : (s : BlockShape) (n : ℕ) → flagged s (replicate n 0) ≡ (λ _ _. false)
flagged_none s n = same_field (flagged s (replicate n 0)) (λ _ _. false) (λ x y. ap (λ b. is_inside s x y && b) (flag_none s n x y) ∙ and_false (is_inside s x y))

none_at : (n i d : ℕ) → get_or (replicate n d) i d ≡ d
none_at n i d = elim (cases_lt i n) [ inl less ↦ get_or-replicate n i d d less | inr past ↦ get_or_past (replicate n d) i d (let l = length-replicate n d in omega (arith, l)) ]

pub magnitude_none : (s : BlockShape) (planes n : ℕ) → ◌≡◌ {A = Field ℕ} (magnitude_of s planes (replicate n 0)) (λ _ _. 0)
magnitude_none s planes n = same_field (magnitude_of s planes (replicate n 0)) (λ _ _. 0) (λ x y.
    ap (λ m. cond (is_inside s x y) m 0) (number_none (λ b. plane_bit s (replicate n 0) b x y) 0 planes (λ b. ap (λ w. on w (own_bit x y)) (none_at n (b * words_of s + word_at s (x / 8 + 1) (y / 4 + 1)) 0) ∙ on_zero (own_bit x y)))
    ∙ same (is_inside s x y))
  where
    same : (b : Bool) → ◌≡◌ {A = ℕ} (cond b 0 0) 0
    same true = refl
    same false = refl

pub dark : (s : BlockShape) (f : Field ℕ) (x y : ℕ) → f ≡ (λ _ _. 0) → significant_of s f x y ≡ false
dark s f x y e = ap (λ (f : Field ℕ). is_inside s x y && nat_lt 0 (f x y)) e ∙ none (is_inside s x y)
  where
    none : (b : Bool) → (b && nat_lt 0 0) ≡ false
    none b = grind (arith, nat_tests)

-- a magnitude that isn't below a bit's power stays so
pub stays_large : (m b : ℕ) (bit : Bool) → 2 ^ (b + 1) ≤ m → 2 ^ (b + 1) ≤ above (b + 1) m + cond bit (2 ^ b) 0
stays_large m b bit h = by (2 ^ (b + 1)) (pow_pos (b + 1)) (cond bit (2 ^ b) 0) h
  where
    by : (p : ℕ) → 0 < p → (r : ℕ) → p ≤ m → p ≤ m / p * p + r
    by p pos r l =
        let one : 1 ≤ m / p = some p pos l in
        let e = mul-le-mul_right p one in
        omega (arith, e)
      where
        some : (p : ℕ) → 0 < p → p ≤ m → 1 ≤ m / p
        some p pos l = let d = lt-div-mul-add {a = m} {b = p} pos in elim (cases_lt 0 (m / p)) [ inl more ↦ omega arith | inr none ↦ let z : m / p ≡ 0 = omega (arith, none) in let y : m / p * p ≡ 0 * p = ap (λ q. q * p) z in absurd (omega (arith, d, y)) ]

-- the place that a field was given another value at, or another place
pub put_or : {X : Type 0} (R : X → Type 0) (f : Field X) (x y : ℕ) (v : X) (x' y' : ℕ) → (x' ≡ x → y' ≡ y → R v) → ((nat_eq x' x && nat_eq y' y) ≡ false → R (f x' y')) → R (put f x y v x' y')
put_or {X} R f x y v x' y' g h = by (nat_eq x' x && nat_eq y' y) refl
  where
    by : (b : Bool) → (nat_eq x' x && nat_eq y' y) ≡ b → R (cond (nat_eq x' x && nat_eq y' y) v (f x' y'))
    by true e =
        let p = and_parts (nat_eq x' x) (nat_eq y' y) e in
        let p0 = p.0 in let p1 = p.1 in
        subst (λ b. R (cond b v (f x' y'))) (sym e) (g (grind (arith, nat_tests)) (grind (arith, nat_tests)))
    by false e = subst (λ b. R (cond b v (f x' y'))) (sym e) (h e)

pub put_here : {X : Type 0} (f : Field X) (x y : ℕ) (v : X) → put f x y v x y ≡ v
put_here f x y v = ap (λ b. cond b v (f x y)) (same x y)
  where
    same : (x y : ℕ) → (nat_eq x x && nat_eq y y) ≡ true
    same x y = grind (arith, nat_tests)

pub put_self : {X : Type 0} (f : Field X) (x y : ℕ) → f ≡ put f x y (f x y)
put_self {X} f x y = same_field f (put f x y (f x y)) (λ x' y'. by x' y' (nat_eq x' x && nat_eq y' y) refl)
  where
    by : (x' y' : ℕ) (b : Bool) → (nat_eq x' x && nat_eq y' y) ≡ b → f x' y' ≡ cond (nat_eq x' x && nat_eq y' y) (f x y) (f x' y')
    by x' y' true e =
        let p = and_parts (nat_eq x' x) (nat_eq y' y) e in
        let p0 = p.0 in let p1 = p.1 in
        let ex : x' ≡ x = grind (arith, nat_tests) in
        let ey : y' ≡ y = grind (arith, nat_tests) in
        ap (λ u. f u y') ex ∙ ap (λ u. f x u) ey ∙ sym (ap (λ b. cond b (f x y) (f x' y')) e)
    by x' y' false e = sym (ap (λ b. cond b (f x y) (f x' y')) e)

some_significant : (s : BlockShape) (x y m : ℕ) → is_inside s x y ≡ true → 0 < m → (is_inside s x y && nat_lt 0 m) ≡ true
some_significant s x y m i h = let p : nat_lt 0 m ≡ true = grind (arith, nat_tests) in ap (λ b. b && nat_lt 0 m) i ∙ p

-- another magnitude at a place
pub significant_put : (s : BlockShape) (f : Field ℕ) (x y m : ℕ) → is_inside s x y ≡ true → 0 < m → (x' y' : ℕ) → significant_of s (put f x y m) x' y' ≡ also (significant_of s f) x y x' y'
significant_put s f x y m i h x' y' = by (nat_eq x' x && nat_eq y' y) refl
  where
    or_true : (b : Bool) → (b || true) ≡ true
    or_true true = refl
    or_true false = refl

    or_false : (b : Bool) → (b || false) ≡ b
    or_false true = refl
    or_false false = refl

    by : (b : Bool) → (nat_eq x' x && nat_eq y' y) ≡ b → (is_inside s x' y' && nat_lt 0 (cond (nat_eq x' x && nat_eq y' y) m (f x' y'))) ≡ (significant_of s f x' y' || (nat_eq x' x && nat_eq y' y))
    by true e =
        let p = and_parts (nat_eq x' x) (nat_eq y' y) e in
        let p0 = p.0 in let p1 = p.1 in
        let ex : x' ≡ x = grind (arith, nat_tests) in
        let ey : y' ≡ y = grind (arith, nat_tests) in
        let inside : is_inside s x' y' ≡ true = ap (λ u. is_inside s u y') ex ∙ ap (λ u. is_inside s x u) ey ∙ i in
        ap (λ b. is_inside s x' y' && nat_lt 0 (cond b m (f x' y'))) e ∙ some_significant s x' y' m inside h ∙ sym (ap (λ b. significant_of s f x' y' || b) e ∙ or_true (significant_of s f x' y'))
    by false e = ap (λ b. is_inside s x' y' && nat_lt 0 (cond b m (f x' y'))) e ∙ sym (ap (λ b. significant_of s f x' y' || b) e ∙ or_false (significant_of s f x' y'))

-- a place that is significant has another magnitude
pub stays_significant : (s : BlockShape) (f : Field ℕ) (x y m : ℕ) → 0 < m → significant_of s f x y ≡ true → (x' y' : ℕ) → significant_of s (put f x y m) x' y' ≡ significant_of s f x' y'
stays_significant s f x y m h o x' y' =
    significant_put s f x y m (and_parts (is_inside s x y) (nat_lt 0 (f x y)) o).0 h x' y' ∙ by (nat_eq x' x && nat_eq y' y) refl
  where
    or_false : (b : Bool) → (b || false) ≡ b
    or_false true = refl
    or_false false = refl

    by : (b : Bool) → (nat_eq x' x && nat_eq y' y) ≡ b → (significant_of s f x' y' || (nat_eq x' x && nat_eq y' y)) ≡ significant_of s f x' y'
    by true e =
        let p = and_parts (nat_eq x' x) (nat_eq y' y) e in
        let p0 = p.0 in let p1 = p.1 in
        let ex : x' ≡ x = grind (arith, nat_tests) in
        let ey : y' ≡ y = grind (arith, nat_tests) in
        let known_significant : significant_of s f x' y' ≡ true = ap (λ u. significant_of s f u y') ex ∙ ap (λ u. significant_of s f x u) ey ∙ o in
        ap (λ b. b || (nat_eq x' x && nat_eq y' y)) known_significant ∙ sym known_significant
    by false e = ap (λ b. significant_of s f x' y' || b) e ∙ or_false (significant_of s f x' y')
