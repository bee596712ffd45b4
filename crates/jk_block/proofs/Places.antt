-- One place in a pass.
use Rattle.std.proofs.Common.{◌≡◌, ℕ, zero, suc, ◌+◌, ◌*◌, ◌/◌, ◌%◌, ◌^◌, ◌<◌, Bool, true, false, cond, List, [], ◌∷◌, Result, Ok, refl, sym, ap, ◌∙◌, subst, arith}
use Rattle.std.specs.Prelude.{◌&&◌, ◌||◌, nat_eq, nat_lt, nat_le}
use Rattle.std.proofs.lemmas.Bool.{and_parts}
use Rattle.std.proofs.lemmas.Bool.Decides.{nat_tests}
use Rattle.std.proofs.lemmas.Nat.{pow_pos, div-mul-add}
use Rattle.std.proofs.lemmas.Grind.{pow_more}
use Rattle.jk_math.specs.declared.fault.Fault.{Fault}
use Rattle.jk_math.specs.Answer.{◌>>=◌}
use Rattle.jk_math.specs.Steps.{bind_then, done, ok_is}
use Rattle.jk_model.specs.Decisions.{State, Decision, after, state_after, SpellsFrom}
use Rattle.jk_scan.specs.declared.shape.BlockShape.{BlockShape}
use Rattle.jk_scan.specs.Contexts.{refine_context_of}
use Rattle.jk_scan.specs.Neighbours.{Field, is_inside, touched_in}
use Rattle.jk_scan.specs.Moments.{number, visits, old, pass_of, moment, is_coded, significant}
use Rattle.jk_scan.specs.Passes.{BlockAtPlane, Decided, is_one, new_decisions, refining_decision, place_decisions}
use Rattle.jk_scan.proofs.Laws.{significant_is, cases_of, agree_pass, moment_is, place_any}
use Rattle.jk_block.specs.Meaning.{above}
use Rattle.jk_block.specs.Reading.{Progress, known_significant, put, decide, with_coder, coded_as, read_new, read_refined, visit, place_at}
use Rattle.jk_block.proofs.Spelling.{Told, told_none, decide_told, told_decide}
use Rattle.jk_block.proofs.Stages.{mags, Cut, Like, Stage}
use Rattle.jk_block.proofs.Changes.{Due, Change, mags_inside, like_before, due_even, change_cut, change_back, change_only, change_bit, Idle, idle_cut, idle_only}
use Rattle.jk_block.proofs.Seeing.{inside_or, significant_then, touched_like, is_due, tests_propagation, tests_refinement, tests_cleanup}
use Rattle.jk_block.proofs.Coding.{Codes, put_here, put_away, Visits, with_visited, put_change, new_codes}

-- the decision of a place that was significant, in terms of what is held
pub next_list : (s : BlockShape) (b t x y : ℕ) (bit : Bool) (z : Progress) (p : BlockAtPlane) → Cut s b t z → Like s b t z p → is_inside s x y ≡ true → bit ≡ is_one (p.magnitude x y)
    → (refine_context_of (nat_le 4 (z.magnitude x y / 2 ^ b)) (touched_in s (known_significant s z) x y), bit) ≡ refining_decision s p t x y
unfolding refining_decision
next_list s b t x y bit z p cut l i e =
    let four : nat_le 4 (z.magnitude x y / 2 ^ b) ≡ nat_le 4 (p.magnitude x y) =
    ap (nat_le 4) (sym (mags_inside s b z x y i)) ∙ by_half (mags s b z x y) (p.magnitude x y) (l.agree.halves x y) in
    ap (λ (r : Bool). (refine_context_of r (touched_in s (known_significant s z) x y), bit)) four
    ∙ ap (λ (u : Bool). (refine_context_of (nat_le 4 (p.magnitude x y)) u, bit)) (touched_like s b t z p cut l x y)
    ∙ ap (λ (d : Bool). (refine_context_of (nat_le 4 (p.magnitude x y)) (touched_in s (significant s p.magnitude t) x y), d)) e
  where
    by_half : (m n : ℕ) → m / 2 ≡ n / 2 → nat_le 4 m ≡ nat_le 4 n
    by_half m n e = grind (arith, nat_tests)

pub refined : (b x y : ℕ) → Progress → Bool × State → Progress
refined b x y z d = with_coder (coded_as b x y d.0 (z.negative x y) z) d.1

pub kept_visits : (x y : ℕ) (n : ℕ) (v : Field Bool) → Visits (suc n) x y v v
kept_visits x y n v = record { here = or_false (v x y); away = λ _ _ _. refl }
  where
    or_false : (b : Bool) → b ≡ (b || nat_eq (suc n) 0)
    or_false b = grind (arith, nat_tests)

pub next_codes : (bytes : List ℕ) (s : BlockShape) (b t x y : ℕ) (z : Progress) → Cut s b t z → Due s b t 1 x y z
    → Codes bytes s b t 1 x y z (read_refined bytes s b x y z) (λ p. refining_decision s p t x y ∷ [])
unfolding read_refined refined with_visited
next_codes bytes s b t x y z cut due =
    let cx = refine_context_of (nat_le 4 (z.magnitude x y / 2 ^ b)) (touched_in s (known_significant s z) x y) in
    record {
      changes = λ z' e. bind_then (decide bytes cx z.coder) (λ d. done (refined b x y z d)) z' e (λ d i r. (d.0, made d z' r));
      told = λ z' e p l l'. bind_then (decide bytes cx z.coder) (λ d. done (refined b x y z d)) z' e (λ d i r.
          let bit = sym (change_bit s b t 1 x y z z' d.0 p cut due (made d z' r) l') in
          subst (λ (w : Progress). Told bytes z.coder (refining_decision s p t x y ∷ []) w.coder) (ok_is (refined b x y z d) z' r)
          (subst (λ (q : Decision). Told bytes z.coder (q ∷ []) d.1) (next_list s b t x y d.0 z p cut l due.inside bit) (decide_told bytes cx z.coder d.1 d.0 i)));
      goes = λ p l spelled.
          let bit = is_one (p.magnitude x y) in
          let list = next_list s b t x y bit z p cut l due.inside refl in
          let i = told_decide bytes cx z.coder bit (subst (λ (q : Decision). SpellsFrom bytes z.coder (q ∷ [])) (sym list) spelled) in
          let c = put_change s b 1 x y bit (z.negative x y) z z.visited (after bytes z.coder cx) (kept_visits x y 0 z.visited) (λ _. refl) high in
          record {
            next = refined b x y z (bit, after bytes z.coder cx);
            is = ap (λ (r : Result (Bool × State) Fault). r >>= λ d. done (refined b x y z d)) i;
            like = change_only s b t 1 x y z (refined b x y z (bit, after bytes z.coder cx)) bit p cut due c l refl (λ known_significant. put_here z.negative x y (z.negative x y) ∙ l.signs x y (was_significant p l));
            coder_is = ap (λ (q : Decision). state_after bytes z.coder (q ∷ [])) list;
          };
    }
  where
    in_twos : (a p : ℕ) → a % 2 ≡ 0 → a * p ≡ a / 2 * (p * 2)
    in_twos a p h = let e : a ≡ a / 2 * 2 = omega arith in ap (λ a. a * p) e ∙ (let g : a / 2 * 2 * p ≡ a / 2 * (p * 2) = omega arith in g)

    over_power : (n p : ℕ) → 0 < p → n * p / p ≡ n
    over_power n p h = ap (λ m. m / p) (let e : n * p ≡ n * p + 0 = omega arith in e) ∙ div-mul-add n p 0 h

    in_units : (a m : ℕ) → m ≡ a * 2 ^ b → a % 2 ≡ 0 → above (b + 1) m ≡ m
    in_units a m e h =
        let two : m ≡ a / 2 * 2 ^ (b + 1) = e ∙ in_twos a (2 ^ b) h ∙ ap (λ p. a / 2 * p) (sym (pow_more 2 b)) in
        ap (λ m. m / 2 ^ (b + 1) * 2 ^ (b + 1)) two ∙ ap (λ d. d * 2 ^ (b + 1)) (over_power (a / 2) (2 ^ (b + 1)) (pow_pos (b + 1))) ∙ sym two

    high : above (b + 1) (z.magnitude x y) ≡ z.magnitude x y
    high = in_units (mags s b z x y) (z.magnitude x y) (cut.whole x y due.inside) (due_even s b t 1 x y z cut due)

    made : (d : Bool × State) (z' : Progress) → done (refined b x y z d) ≡ Ok z' → Change s b 1 x y z z' d.0
    made d z' r = subst (λ (w : Progress). Change s b 1 x y z w d.0) (ok_is (refined b x y z d) z' r) (put_change s b 1 x y d.0 (z.negative x y) z z.visited d.1 (kept_visits x y 0 z.visited) (λ _. refl) high)

    old_first : (o : Bool) (e : Bool) → o ≡ true → (o || e) ≡ true
    old_first true e h = refl
    old_first false e h = absurd cc

    was_significant : (p : BlockAtPlane) → Like s b t z p → significant s (mags s b z) t x y ≡ true
    was_significant p l =
        significant_is s (mags s b z) t x y ∙ old_first (old (mags s b z) x y) (nat_eq (mags s b z x y) 1 && is_coded s (mags s b z) t x y)
        (cases_of s (mags s b z) x y (λ w. w.old_is) (λ w. absurd (let q = w.pass_is in let r = due.pass_is in omega arith)) (λ w. absurd (let q = w.pass_is in let r = due.pass_is in omega arith)))

pub not_due : (s : BlockShape) (b t pass x y : ℕ) (z : Progress) → x < s.width → number s.width x y < visits s → t ≡ pass * visits s + number s.width x y → is_due s (mags s b z) pass x y ≡ false → Idle s b t z
unfolding Idle is_due
not_due s b t pass x y z narrow room now d x' y' i e =
    let one = place_any s (pass_of s (mags s b z) x' y') pass x' y' x y i narrow room (sym (moment_is s (mags s b z) x' y') ∙ e ∙ now) in
    let here : is_inside s x y ≡ true = ap (λ (u : ℕ). is_inside s u y) (sym one.1) ∙ ap (λ (u : ℕ). is_inside s x' u) (sym one.2) ∙ i in
    let pass_here : pass_of s (mags s b z) x y ≡ pass = ap (λ (u : ℕ). pass_of s (mags s b z) u y) (sym one.1) ∙ ap (λ (u : ℕ). pass_of s (mags s b z) x' u) (sym one.2) ∙ one.0 in
    both (is_inside s x y) (pass_of s (mags s b z) x y) here pass_here d
  where
    both : (i : Bool) (n : ℕ) → i ≡ true → n ≡ pass → (i && nat_eq n pass) ≡ false → ⊥
    both i n e g h = grind (arith, nat_tests)

-- A place in its pass is a part, where the test is whether it is due.
pub stage_by_test : (bytes : List ℕ) (s : BlockShape) (b t pass x y : ℕ) (part own : Progress → Result Progress Fault) (decisions own_ones : BlockAtPlane → Decided) → x < s.width → number s.width x y < visits s → t ≡ pass * visits s + number s.width x y
    → ((z : Progress) → Cut s b t z → part z ≡ cond (is_due s (mags s b z) pass x y) (own z) (done z))
    → ((p : BlockAtPlane) → decisions p ≡ cond (is_due s p.magnitude pass x y) (own_ones p) [])
    → ((z : Progress) → Cut s b t z → Due s b t pass x y z → Codes bytes s b t pass x y z (own z) own_ones)
    → Stage bytes s b t (t + 1) part decisions
unfolding is_due
stage_by_test bytes s b t pass x y part own decisions own_ones narrow room now part_is decisions_are codes = record {
  onward = λ z z' cut e. inside_or (is_due s (mags s b z) pass x y)
      (λ d. let due = due_is z d in let c = (codes z cut due).changes z' (sym (owns z cut d) ∙ e) in change_cut s b t pass x y z z' c.0 cut due c.1)
      (λ d. subst (λ (w : Progress). Cut s b (t + 1) w) (ok_is z z' (sym (passes z cut d) ∙ e)) (idle_cut s b t z (idle z d) cut));
  back = λ z z' cut e p l. inside_or (is_due s (mags s b z) pass x y)
      (λ d.
      let due = due_is z d in
      let code = codes z cut due in
      let e' = sym (owns z cut d) ∙ e in
      let c = code.changes z' e' in
      let before = change_back s b t pass x y z z' c.0 p cut due c.1 l in
      (before, subst (λ (ds : Decided). Told bytes z.coder ds z'.coder) (sym (owns_list z p before d)) (code.told z' e' p before l)))
      (λ d.
      let same = sym (ok_is z z' (sym (passes z cut d) ∙ e)) in
      let l' = subst (λ (w : Progress). Like s b (t + 1) w p) same l in
      let before = like_before s b t (t + 1) z p (omega arith) l' in
      (before, subst (λ (w : Progress). Told bytes z.coder (decisions p) w.coder) (sym same) (subst (λ (ds : Decided). Told bytes z.coder ds z.coder) (sym (no_list z p before d)) (told_none bytes z.coder))));
  only = λ z p cut l spelled. inside_or (is_due s (mags s b z) pass x y)
      (λ d.
      let g = (codes z cut (due_is z d)).goes p l (subst (λ (ds : Decided). SpellsFrom bytes z.coder ds) (owns_list z p l d) spelled) in
      record { next = g.next; is = owns z cut d ∙ g.is; like = g.like; coder_is = g.coder_is ∙ ap (λ (ds : Decided). state_after bytes z.coder ds) (sym (owns_list z p l d)) })
      (λ d. record { next = z; is = passes z cut d; like = idle_only s b t z p (idle z d) l; coder_is = ap (λ (ds : Decided). state_after bytes z.coder ds) (sym (no_list z p l d)) });
}
  where
    owns : (z : Progress) → Cut s b t z → is_due s (mags s b z) pass x y ≡ true → part z ≡ own z
    owns z cut d = part_is z cut ∙ ap (λ q. cond q (own z) (done z)) d

    passes : (z : Progress) → Cut s b t z → is_due s (mags s b z) pass x y ≡ false → part z ≡ done z
    passes z cut d = part_is z cut ∙ ap (λ q. cond q (own z) (done z)) d

    same_due : (z : Progress) (p : BlockAtPlane) → Like s b t z p → is_due s p.magnitude pass x y ≡ is_due s (mags s b z) pass x y
    same_due z p l = ap (λ n. is_inside s x y && nat_eq n pass) (sym (agree_pass s (mags s b z) p.magnitude t x y l.agree (omega arith)))

    owns_list : (z : Progress) (p : BlockAtPlane) → Like s b t z p → is_due s (mags s b z) pass x y ≡ true → decisions p ≡ own_ones p
    owns_list z p l d = decisions_are p ∙ ap (λ q. cond q (own_ones p) []) (same_due z p l ∙ d)

    no_list : (z : Progress) (p : BlockAtPlane) → Like s b t z p → is_due s (mags s b z) pass x y ≡ false → decisions p ≡ []
    no_list z p l d = decisions_are p ∙ ap (λ q. cond q (own_ones p) []) (same_due z p l ∙ d)

    due_is : (z : Progress) → is_due s (mags s b z) pass x y ≡ true → Due s b t pass x y z
    due_is z d =
        let both = and_parts (is_inside s x y) (nat_eq (pass_of s (mags s b z) x y) pass) d in
        let b1 = both.1 in
        record { inside = both.0; pass_is = grind (arith, nat_tests); now = now }

    idle : (z : Progress) → is_due s (mags s b z) pass x y ≡ false → Idle s b t z
    idle z d = not_due s b t pass x y z narrow room now d

pub dark_of : (s : BlockShape) (b t pass x y : ℕ) (z : Progress) → Cut s b t z → Due s b t pass x y z → nat_eq pass 1 ≡ false → nat_lt 0 (z.magnitude x y) ≡ false
dark_of s b t pass x y z cut due other =
    significant_out (is_inside s x y) (nat_lt 0 (z.magnitude x y)) due.inside
    (significant_then s b t z cut x y ∙ significant_is s (mags s b z) t x y
    ∙ gate (mags s b z x y) (moment s (mags s b z) x y)
    (cases_of s (mags s b z) x y (λ w. absurd (let q = w.pass_is in let r = due.pass_is in grind (arith, nat_tests))) (λ w. w.old_is) (λ w. w.old_is))
    (moment_is s (mags s b z) x y ∙ ap (λ n. n * visits s + number s.width x y) due.pass_is ∙ sym due.now))
  where
    gate : (m q : ℕ) → nat_le 2 m ≡ false → q ≡ t → (nat_le 2 m || (nat_eq m 1 && nat_lt q t)) ≡ false
    gate m q e g = grind (arith, nat_tests)

    significant_out : (i l : Bool) → i ≡ true → (i && l) ≡ false → l ≡ false
    significant_out i l e h = grind (arith, nat_tests)

pub visit_visits : (x y : ℕ) (v : Field Bool) → Visits 0 x y v (put v x y true)
visit_visits x y v = record { here = put_here v x y true ∙ by (v x y); away = λ x' y' a. put_away v x y true x' y' a }
  where
    by : (b : Bool) → true ≡ (b || nat_eq 0 0)
    by true = refl
    by false = refl

pub stage_place : (bytes : List ℕ) (s : BlockShape) (b t pass x y : ℕ) → x < s.width → number s.width x y < visits s → pass < 3 → t ≡ pass * visits s + number s.width x y
    → Stage bytes s b t (t + 1) (place_at bytes s b pass x y) (λ p. place_decisions s p pass x y)
unfolding place_at place_decisions is_due with_visited
stage_place bytes s b t zero x y narrow room few now =
    stage_by_test bytes s b t 0 x y (place_at bytes s b 0 x y) (λ z. read_new bytes s b x y (visit x y z)) (λ p. place_decisions s p 0 x y) (λ p. new_decisions s p t x y) narrow room now
    (λ z cut. ap (λ q. cond q (read_new bytes s b x y (visit x y z)) (done z)) (tests_propagation s b t z x y cut now))
    (λ p. ap (λ u. cond (is_due s p.magnitude 0 x y) (new_decisions s p u x y) []) (sym now))
    (λ z cut due. new_codes bytes s b t 0 x y z (put z.visited x y true) cut due (visit_visits x y z.visited) (dark_of s b t 0 x y z cut due refl))
stage_place bytes s b t (suc zero) x y narrow room few now =
    stage_by_test bytes s b t 1 x y (place_at bytes s b 1 x y) (λ z. read_refined bytes s b x y z) (λ p. place_decisions s p 1 x y) (λ p. refining_decision s p t x y ∷ []) narrow room now
    (λ z cut. ap (λ q. cond q (read_refined bytes s b x y z) (done z)) (tests_refinement s b t z x y cut now))
    (λ p. ap (λ u. cond (is_due s p.magnitude 1 x y) (refining_decision s p u x y ∷ []) []) (sym now))
    (λ z cut due. next_codes bytes s b t x y z cut due)
stage_place bytes s b t (suc (suc zero)) x y narrow room few now =
    stage_by_test bytes s b t 2 x y (place_at bytes s b 2 x y) (λ z. read_new bytes s b x y z) (λ p. place_decisions s p 2 x y) (λ p. new_decisions s p t x y) narrow room now
    (λ z cut. ap (λ q. cond q (read_new bytes s b x y z) (done z)) (tests_cleanup s b t z x y cut now))
    (λ p. ap (λ u. cond (is_due s p.magnitude 2 x y) (new_decisions s p u x y) []) (sym now))
    (λ z cut due. new_codes bytes s b t 2 x y z z.visited cut due (kept_visits x y 1 z.visited) (dark_of s b t 2 x y z cut due refl))
stage_place bytes s b t (suc (suc (suc n))) x y narrow room few now = absurd (omega arith)
