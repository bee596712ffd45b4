-- A place that is read in its moment.
use Rattle.std.proofs.Common.{◌≡◌, ℕ, zero, suc, ◌+◌, ◌*◌, ◌/◌, ◌^◌, Bool, true, false, cond, List, [], ◌∷◌, Result, Ok, refl, sym, ap, ◌∙◌, subst, arith}
use Rattle.std.specs.Prelude.{◌&&◌, ◌||◌, nat_eq, nat_lt, nat_le}
use Rattle.std.proofs.lemmas.Bool.Decides.{nat_tests}
use Rattle.jk_math.specs.declared.fault.Fault.{Fault}
use Rattle.jk_math.specs.Answer.{◌>>=◌}
use Rattle.jk_math.specs.Steps.{bind_then, done, ok_is}
use Rattle.jk_model.specs.Decisions.{State, Decision, after, state_after, SpellsFrom}
use Rattle.jk_scan.specs.declared.shape.BlockShape.{BlockShape}
use Rattle.jk_scan.specs.declared.contexts.SignContext.{SignContext}
use Rattle.jk_scan.specs.Neighbours.{Field, is_inside, zero_in, sign_in}
use Rattle.jk_scan.specs.Moments.{is_coded, significant}
use Rattle.jk_scan.specs.Passes.{BlockAtPlane, Decided, is_one, flipped, sign_decision, new_decisions}
use Rattle.jk_scan.proofs.Laws.{significant_is}
use Rattle.jk_block.specs.Meaning.{above}
use Rattle.jk_block.specs.Reading.{Progress, known_significant, put, decide, with_coder, coded_as, read_sign, read_new}
use Rattle.jk_block.proofs.Spelling.{Told, told_none, told_join, decide_told, told_decide, spells_parts}
use Rattle.jk_block.proofs.Stages.{mags, Cut, Like, Goes}
use Rattle.jk_block.proofs.Changes.{Due, Change, change_only, change_bit, change_sign}
use Rattle.jk_block.proofs.Seeing.{zero_like, sign_like}

-- A place is read at its moment.
pub record Codes (bytes : List ℕ) (s : BlockShape) (b t pass x y : ℕ) (z : Progress) (outcome : Result Progress Fault) (decisions : BlockAtPlane → Decided) : Type 0 where
  pub changes : (z' : Progress) → outcome ≡ Ok z' → (bit : Bool) × Change s b pass x y z z' bit
  pub told : (z' : Progress) → outcome ≡ Ok z' → (p : BlockAtPlane) → Like s b t z p → Like s b (t + 1) z' p → Told bytes z.coder (decisions p) z'.coder
  pub goes : (p : BlockAtPlane) → Like s b t z p → SpellsFrom bytes z.coder (decisions p) → Goes s b (t + 1) outcome p (state_after bytes z.coder (decisions p))

pub put_here : {X : Type 0} (f : Field X) (x y : ℕ) (v : X) → put f x y v x y ≡ v
put_here f x y v = ap (λ b. cond b v (f x y)) (let e : (nat_eq x x && nat_eq y y) ≡ true = grind (arith, nat_tests) in e)

pub put_away : {X : Type 0} (f : Field X) (x y : ℕ) (v : X) (x' y' : ℕ) → (nat_eq x' x && nat_eq y' y) ≡ false → put f x y v x' y' ≡ f x' y'
put_away f x y v x' y' a = ap (λ b. cond b v (f x' y')) a

-- what the visited places become
pub record Visits (pass x y : ℕ) (v v' : Field Bool) : Type 0 where
  pub here : v' x y ≡ (v x y || nat_eq pass 0)
  pub away : (x' y' : ℕ) → (nat_eq x' x && nat_eq y' y) ≡ false → v' x' y' ≡ v x' y'

unfoldable pub with_visited : Progress → Field Bool → Progress
with_visited z v = record z { visited = v }

pub put_change : (s : BlockShape) (b pass x y : ℕ) (bit negative : Bool) (z : Progress) (v : Field Bool) (c : State) → Visits pass x y z.visited v → (nat_lt 0 (z.magnitude x y) ≡ true → negative ≡ z.negative x y) → above (b + 1) (z.magnitude x y) ≡ z.magnitude x y
    → Change s b pass x y z (with_coder (coded_as b x y bit negative (with_visited z v)) c) bit
unfolding with_visited
put_change s b pass x y bit negative z v c h k high = record {
  here = put_here z.magnitude x y (above (b + 1) (z.magnitude x y) + cond bit (2 ^ b) 0) ∙ ap (λ m. m + cond bit (2 ^ b) 0) high;
  away = λ x' y' a. record {
    magnitude = put_away z.magnitude x y (above (b + 1) (z.magnitude x y) + cond bit (2 ^ b) 0) x' y' a;
    negative = put_away z.negative x y negative x' y' a;
    visited = h.away x' y' a;
  };
  kept_sign = λ e. put_here z.negative x y negative ∙ k e;
  visited = h.here;
}

pub above_dark : (b m : ℕ) → nat_lt 0 m ≡ false → above (b + 1) m ≡ m
above_dark b zero e = ap (λ d. d * 2 ^ (b + 1)) (let g : 0 / 2 ^ (b + 1) ≡ 0 = omega arith in g) ∙ (let h : 0 * 2 ^ (b + 1) ≡ 0 = omega arith in h)
above_dark b (suc m) e = absurd (let g : nat_lt 0 (suc m) ≡ true = grind (arith, nat_tests) in let c : true ≡ false = sym g ∙ e in cc)

pub zero_change : (s : BlockShape) (b pass x y : ℕ) (z : Progress) (v : Field Bool) (c : State) → Visits pass x y z.visited v → Change s b pass x y z (with_coder (with_visited z v) c) false
unfolding with_visited
zero_change s b pass x y z v c h = record {
  here = let e : z.magnitude x y ≡ z.magnitude x y + 0 = omega arith in e;
  away = λ x' y' a. record { magnitude = refl; negative = refl; visited = h.away x' y' a };
  kept_sign = λ _. refl;
  visited = h.here;
}

pub twice_flipped : (f b : Bool) → flipped f (flipped f b) ≡ b
unfolding flipped
twice_flipped true true = refl
twice_flipped true false = refl
twice_flipped false b = refl

-- the sign of a place that becomes significant
pub sign_context : BlockShape → Progress → (x y : ℕ) → SignContext
sign_context s z x y = sign_in s (known_significant s z) z.negative x y

pub record SignRead (bytes : List ℕ) (s : BlockShape) (b x y : ℕ) (z z' : Progress) : Type 0 where
  pub bit : Bool
  pub coder : State
  pub is : decide bytes (sign_in s (known_significant s z) z.negative x y).context z.coder ≡ Ok (bit, coder)
  pub then_is : with_coder (coded_as b x y true (flipped (sign_in s (known_significant s z) z.negative x y).flip bit) z) coder ≡ z'

pub sign_read : (bytes : List ℕ) (s : BlockShape) (b x y : ℕ) (z z' : Progress) → read_sign bytes s b x y z ≡ Ok z' → SignRead bytes s b x y z z'
unfolding read_sign
sign_read bytes s b x y z z' e =
    bind_then (decide bytes (sign_in s (known_significant s z) z.negative x y).context z.coder) (λ d. Ok (with_coder (coded_as b x y true (flipped (sign_in s (known_significant s z) z.negative x y).flip d.0) z) d.1)) z' e
    (λ d i r. record { bit = d.0; coder = d.1; is = i; then_is = ok_is (with_coder (coded_as b x y true (flipped (sign_in s (known_significant s z) z.negative x y).flip d.0) z) d.1) z' r })

-- A sign that is read is the block's, where the contexts are.
pub sign_told : (bytes : List ℕ) (s : BlockShape) (b t x y : ℕ) (z z' : Progress) (p : BlockAtPlane) → (r : SignRead bytes s b x y z z') → sign_in s (known_significant s z) z.negative x y ≡ sign_in s (significant s p.magnitude t) p.negative x y
    → z'.negative x y ≡ p.negative x y → Told bytes z.coder (sign_decision s p t x y ∷ []) z'.coder
sign_told bytes s b t x y z z' p r e n =
    let c = sign_in s (known_significant s z) z.negative x y in
    let own : p.negative x y ≡ flipped c.flip r.bit = sym n ∙ ap (λ (w : Progress). w.negative x y) (sym r.then_is) ∙ put_here z.negative x y (flipped c.flip r.bit) in
    let bit : r.bit ≡ flipped c.flip (p.negative x y) = sym (twice_flipped c.flip r.bit) ∙ ap (flipped c.flip) (sym own) in
    let d : (c.context, r.bit) ≡ sign_decision s p t x y =
    ap (λ (b : Bool). (c.context, b)) bit ∙ ap (λ (c : SignContext). (c.context, flipped c.flip (p.negative x y))) e in
    subst (λ (w : Progress). Told bytes z.coder (sign_decision s p t x y ∷ []) w.coder) r.then_is
    (subst (λ (d : Decision). Told bytes z.coder (d ∷ []) r.coder) d (decide_told bytes c.context z.coder r.coder r.bit r.is))

-- A sign that is spelled is read.
pub sign_goes : (bytes : List ℕ) (s : BlockShape) (b t x y : ℕ) (z : Progress) (p : BlockAtPlane) → sign_in s (known_significant s z) z.negative x y ≡ sign_in s (significant s p.magnitude t) p.negative x y
    → SpellsFrom bytes z.coder (sign_decision s p t x y ∷ []) → read_sign bytes s b x y z ≡ Ok (with_coder (coded_as b x y true (p.negative x y) z) (state_after bytes z.coder (sign_decision s p t x y ∷ [])))
unfolding read_sign
sign_goes bytes s b t x y z p e h =
    let c = sign_in s (known_significant s z) z.negative x y in
    let d : (c.context, flipped c.flip (p.negative x y)) ≡ sign_decision s p t x y = ap (λ (c : SignContext). (c.context, flipped c.flip (p.negative x y))) e in
    let i = told_decide bytes c.context z.coder (flipped c.flip (p.negative x y)) (subst (λ (d : Decision). SpellsFrom bytes z.coder (d ∷ [])) (sym d) h) in
    ap (λ (r : Result (Bool × State) Fault). r >>= λ d. done (with_coder (coded_as b x y true (flipped c.flip d.0) z) d.1)) i
    ∙ ap (λ (n : Bool). done (with_coder (coded_as b x y true n z) (after bytes z.coder c.context))) (twice_flipped c.flip (p.negative x y))
    ∙ ap (λ (d : Decision). done (with_coder (coded_as b x y true (p.negative x y) z) (state_after bytes z.coder (d ∷ [])))) d

-- the decisions of a place that isn't significant, in terms of what is held
pub new_list : (s : BlockShape) (t x y cx : ℕ) (bit : Bool) (p : BlockAtPlane) → cx ≡ zero_in s (significant s p.magnitude t) x y → bit ≡ is_one (p.magnitude x y)
    → ((cx, bit) ∷ cond bit (sign_decision s p t x y ∷ []) []) ≡ new_decisions s p t x y
unfolding new_decisions
new_list s t x y cx bit p e h =
    ap (λ (c : ℕ). (c, bit) ∷ cond bit (sign_decision s p t x y ∷ []) []) e ∙ ap (λ (b : Bool). (zero_in s (significant s p.magnitude t) x y, b) ∷ cond b (sign_decision s p t x y ∷ []) []) h

pub read_sign_if : List ℕ → BlockShape → (b x y : ℕ) → Progress → Bool × State → Result Progress Fault
read_sign_if bytes s b x y z d = cond d.0 (read_sign bytes s b x y (with_coder z d.1)) (done (with_coder z d.1))

-- what was read of a place that isn't significant
pub record NewRead (bytes : List ℕ) (s : BlockShape) (b x y : ℕ) (z z' : Progress) : Type 0 where
  pub bit : Bool
  pub coder : State
  pub is : decide bytes (zero_in s (known_significant s z) x y) z.coder ≡ Ok (bit, coder)
  pub then_is : read_sign_if bytes s b x y z (bit, coder) ≡ Ok z'

pub new_read : (bytes : List ℕ) (s : BlockShape) (b x y : ℕ) (z z' : Progress) → read_new bytes s b x y z ≡ Ok z' → NewRead bytes s b x y z z'
unfolding read_new read_sign_if
new_read bytes s b x y z z' e =
    bind_then (decide bytes (zero_in s (known_significant s z) x y) z.coder) (read_sign_if bytes s b x y z) z' e (λ d i r. record { bit = d.0; coder = d.1; is = i; then_is = r })

pub new_change : (bytes : List ℕ) (s : BlockShape) (b pass x y : ℕ) (z z' : Progress) (v : Field Bool) → Visits pass x y z.visited v → nat_lt 0 (z.magnitude x y) ≡ false
    → (bit : Bool) (coder : State) → read_sign_if bytes s b x y (with_visited z v) (bit, coder) ≡ Ok z' → Change s b pass x y z z' bit
unfolding read_sign_if with_visited
new_change bytes s b pass x y z z' v h dark true coder e =
    let r = sign_read bytes s b x y (with_coder (with_visited z v) coder) z' e in
    subst (λ (w : Progress). Change s b pass x y z w true) r.then_is
    (put_change s b pass x y true (flipped (sign_in s (known_significant s z) z.negative x y).flip r.bit) z v r.coder h (λ known_significant. absurd (let c : true ≡ false = sym known_significant ∙ dark in cc)) (above_dark b (z.magnitude x y) dark))
new_change bytes s b pass x y z z' v h dark false coder e =
    subst (λ (w : Progress). Change s b pass x y z w false) (ok_is (with_coder (with_visited z v) coder) z' e) (zero_change s b pass x y z v coder h)

pub new_told : (bytes : List ℕ) (s : BlockShape) (b t pass x y : ℕ) (z z' : Progress) (v : Field Bool) (p : BlockAtPlane) → Cut s b t z → Due s b t pass x y z → Like s b t z p → Like s b (t + 1) z' p
    → (bit : Bool) (coder : State) → read_sign_if bytes s b x y (with_visited z v) (bit, coder) ≡ Ok z' → Change s b pass x y z z' bit → Told bytes coder (cond bit (sign_decision s p t x y ∷ []) []) z'.coder
unfolding read_sign_if with_visited
new_told bytes s b t pass x y z z' v p cut due l l' true coder e c =
    let r = sign_read bytes s b x y (with_coder (with_visited z v) coder) z' e in
    sign_told bytes s b t x y (with_coder (with_visited z v) coder) z' p r (sign_like s b t z p cut l x y) (change_sign s b t pass x y z z' p cut due c l')
new_told bytes s b t pass x y z z' v p cut due l l' false coder e c =
    subst (λ (w : Progress). Told bytes coder [] w.coder) (ok_is (with_coder (with_visited z v) coder) z' e) (told_none bytes coder)

pub new_goes : (bytes : List ℕ) (s : BlockShape) (b t pass x y : ℕ) (z : Progress) (v : Field Bool) (p : BlockAtPlane) → Cut s b t z → Due s b t pass x y z → Visits pass x y z.visited v → nat_lt 0 (z.magnitude x y) ≡ false → Like s b t z p
    → (bit : Bool) (coder : State) → bit ≡ is_one (p.magnitude x y) → SpellsFrom bytes coder (cond bit (sign_decision s p t x y ∷ []) [])
    → Goes s b (t + 1) (read_sign_if bytes s b x y (with_visited z v) (bit, coder)) p (state_after bytes coder (cond bit (sign_decision s p t x y ∷ []) []))
unfolding read_sign_if with_visited
new_goes bytes s b t pass x y z v p cut due h dark l true coder e spelled =
    let c = put_change s b pass x y true (p.negative x y) z v (state_after bytes coder (sign_decision s p t x y ∷ [])) h (λ known_significant. absurd (let c : true ≡ false = sym known_significant ∙ dark in cc)) (above_dark b (z.magnitude x y) dark) in
    let next = with_coder (coded_as b x y true (p.negative x y) (with_visited z v)) (state_after bytes coder (sign_decision s p t x y ∷ [])) in
    record {
      next = next;
      is = sign_goes bytes s b t x y (with_coder (with_visited z v) coder) p (sign_like s b t z p cut l x y) spelled;
      like = change_only s b t pass x y z next true p cut due c l e (λ _. put_here z.negative x y (p.negative x y));
      coder_is = refl;
    }
new_goes bytes s b t pass x y z v p cut due h dark l false coder e spelled =
    let c = zero_change s b pass x y z v coder h in
    record {
      next = with_coder (with_visited z v) coder;
      is = refl;
      like = change_only s b t pass x y z (with_coder (with_visited z v) coder) false p cut due c l e
          (λ known_significant. absurd (none_significant (mags s b z x y) (is_coded s (mags s b z) (t + 1) x y) (mags_dark (is_inside s x y) (z.magnitude x y) dark) (sym (significant_is s (mags s b z) (t + 1) x y) ∙ known_significant)));
      coder_is = refl;
    }
  where
    mags_dark : (i : Bool) (m : ℕ) → nat_lt 0 m ≡ false → cond i (m / 2 ^ b) 0 ≡ 0
    mags_dark true zero e = let f : 0 / 2 ^ b ≡ 0 = omega arith in f
    mags_dark true (suc m) e = absurd (let g : nat_lt 0 (suc m) ≡ true = grind (arith, nat_tests) in let c : true ≡ false = sym g ∙ e in cc)
    mags_dark false m e = refl

    none_significant : (m : ℕ) (d : Bool) → m ≡ 0 → (nat_le 2 m || (nat_eq m 1 && d)) ≡ true → ⊥
    none_significant m d e h = grind (arith, nat_tests)

pub new_goes_by : (bytes : List ℕ) (s : BlockShape) (b t x y : ℕ) (z : Progress) (p : BlockAtPlane) (cx : ℕ) (bit : Bool) → decide bytes (zero_in s (known_significant s z) x y) z.coder ≡ Ok (bit, after bytes z.coder cx)
    → ((cx, bit) ∷ cond bit (sign_decision s p t x y ∷ []) []) ≡ new_decisions s p t x y
    → Goes s b (t + 1) (read_sign_if bytes s b x y z (bit, after bytes z.coder cx)) p (state_after bytes (after bytes z.coder cx) (cond bit (sign_decision s p t x y ∷ []) []))
    → Goes s b (t + 1) (read_new bytes s b x y z) p (state_after bytes z.coder (new_decisions s p t x y))
unfolding read_new read_sign_if
new_goes_by bytes s b t x y z p cx bit first list g = record {
  next = g.next;
  is = ap (λ (r : Result (Bool × State) Fault). r >>= read_sign_if bytes s b x y z) first ∙ g.is;
  like = g.like;
  coder_is = g.coder_is ∙ ap (λ (ds : Decided). state_after bytes z.coder ds) list;
}

pub new_codes : (bytes : List ℕ) (s : BlockShape) (b t pass x y : ℕ) (z : Progress) (v : Field Bool) → Cut s b t z → Due s b t pass x y z → Visits pass x y z.visited v → nat_lt 0 (z.magnitude x y) ≡ false
    → Codes bytes s b t pass x y z (read_new bytes s b x y (with_visited z v)) (λ p. new_decisions s p t x y)
unfolding with_visited
new_codes bytes s b t pass x y z v cut due h dark = record {
  changes = λ z' e. let r = new_read bytes s b x y (with_visited z v) z' e in (r.bit, new_change bytes s b pass x y z z' v h dark r.bit r.coder r.then_is);
  told = λ z' e p l l'.
      let r = new_read bytes s b x y (with_visited z v) z' e in
      let c = new_change bytes s b pass x y z z' v h dark r.bit r.coder r.then_is in
      let cx = zero_in s (known_significant s z) x y in
      subst (λ (ds : Decided). Told bytes z.coder ds z'.coder) (new_list s t x y cx r.bit p (zero_like s b t z p cut l x y) (sym (change_bit s b t pass x y z z' r.bit p cut due c l')))
      (told_join bytes z.coder r.coder z'.coder ((cx, r.bit) ∷ []) (cond r.bit (sign_decision s p t x y ∷ []) []) (decide_told bytes cx z.coder r.coder r.bit r.is)
      (new_told bytes s b t pass x y z z' v p cut due l l' r.bit r.coder r.then_is c));
  goes = λ p l spelled.
      let cx = zero_in s (known_significant s z) x y in
      let bit = is_one (p.magnitude x y) in
      let list = new_list s t x y cx bit p (zero_like s b t z p cut l x y) refl in
      let parts = spells_parts bytes z.coder ((cx, bit) ∷ []) (cond bit (sign_decision s p t x y ∷ []) []) (subst (λ (ds : Decided). SpellsFrom bytes z.coder ds) (sym list) spelled) in
      let first = told_decide bytes cx z.coder bit parts.0 in
      let g = new_goes bytes s b t pass x y z v p cut due h dark l bit (after bytes z.coder cx) refl parts.1 in
      new_goes_by bytes s b t x y (with_visited z v) p cx bit first list g;
}
