-- Decisions that are read, and decisions that are spelled.
use Rattle.std.proofs.Common.{◌≡◌, ℕ, Bool, true, false, List, [], ◌∷◌, ◌++◌, Result, Ok, Err, cond, refl, sym, ap, ◌∙◌, subst, arith}
use Rattle.std.specs.Prelude.{◌&&◌}
use Rattle.std.proofs.lemmas.Bool.Decides.{nat_tests}
use Rattle.jk_math.specs.declared.fault.Fault.{Fault}
use Rattle.jk_math.specs.declared.fault.Fault.TheVariants.{CodeOutOfInterval}
use Rattle.jk_math.specs.Answer.{◌>>=◌}
use Rattle.jk_math.specs.Steps.{done, ok_is}
use Rattle.jk_model.specs.Decisions.{State, Decision, IsInInterval, is_within, bit_at, after, state_after, SpellsFrom}
use Rattle.jk_model.specs.CodingPasses.{begun_by, state_after_passes, SpellsPassesFrom}
use Rattle.jk_model.proofs.Laws.{passes-join, state_after_passes-joined}
use Rattle.jk_mqdec.specs.Answers.{answer, next}
use Rattle.jk_block.specs.Reading.{decide}

-- From a state on the bytes spell decisions, which lead to another.
pub record Told (bytes : List ℕ) (s : State) (ds : List Decision) (s' : State) : Type 0 where
  pub spelled : SpellsFrom bytes s ds
  pub state : s' ≡ state_after bytes s ds

pub told_none : (bytes : List ℕ) (s : State) → Told bytes s [] s
told_none bytes s = record { spelled = tt; state = refl }

pub spells_join : (bytes : List ℕ) (s : State) (ds es : List Decision) → SpellsFrom bytes s ds → SpellsFrom bytes (state_after bytes s ds) es → SpellsFrom bytes s (ds ++ es)
spells_join bytes s [] es h g = g
spells_join bytes s (d ∷ ds) es h g = (h.0, h.1, h.2, spells_join bytes (after bytes s d.0) ds es h.3 g)

pub spells_parts : (bytes : List ℕ) (s : State) (ds es : List Decision) → SpellsFrom bytes s (ds ++ es) → SpellsFrom bytes s ds × SpellsFrom bytes (state_after bytes s ds) es
spells_parts bytes s [] es h = (tt, h)
spells_parts bytes s (d ∷ ds) es h = let p = spells_parts bytes (after bytes s d.0) ds es h.3 in ((h.0, h.1, h.2, p.0), p.1)

pub state_join : (bytes : List ℕ) (s : State) (ds es : List Decision) → state_after bytes s (ds ++ es) ≡ state_after bytes (state_after bytes s ds) es
state_join bytes s [] es = refl
state_join bytes s (d ∷ ds) es = state_join bytes (after bytes s d.0) ds es

pub told_join : (bytes : List ℕ) (s s' s'' : State) (ds es : List Decision) → Told bytes s ds s' → Told bytes s' es s'' → Told bytes s (ds ++ es) s''
told_join bytes s s' s'' ds es h g = record {
  spelled = spells_join bytes s ds es h.spelled (subst (λ (x : State). SpellsFrom bytes x es) h.state g.spelled);
  state = g.state ∙ ap (λ (x : State). state_after bytes x es) h.state ∙ sym (state_join bytes s ds es);
}

-- The same pass by pass.
pub record ToldPasses (reset : Bool) (bytes : List ℕ) (s : State) (dss : List (List Decision)) (s' : State) : Type 0 where
  pub spelled : SpellsPassesFrom reset bytes s dss
  pub state : s' ≡ state_after_passes reset bytes s dss

pub told_more : (r : Bool) (bytes : List ℕ) (s s' s'' : State) (dss : List (List Decision)) (ds : List Decision) → ToldPasses r bytes s dss s' → Told bytes (begun_by r s') ds s'' → ToldPasses r bytes s (dss ++ ds ∷ []) s''
told_more r bytes s s' s'' dss ds h g = record {
  spelled = passes-join r bytes s dss (ds ∷ []) h.spelled (subst (λ (x : State). SpellsFrom bytes (begun_by r x) ds) h.state g.spelled, tt);
  state = g.state ∙ ap (λ (x : State). state_after bytes (begun_by r x) ds) h.state ∙ sym (state_after_passes-joined r bytes s dss (ds ∷ []));
}

within : (bytes : List ℕ) (s : State) → is_within bytes s ≡ true → IsInInterval bytes s
within bytes s h = grind (arith, nat_tests)

within_true : (bytes : List ℕ) (s : State) → IsInInterval bytes s → is_within bytes s ≡ true
within_true bytes s h = grind (arith, nat_tests)

pair : Bool → State → Bool × State
pair b s = (b, s)

settled : (w v bit : Bool) (s1 s0 : State) → Result (Bool × State) Fault
settled w v bit s1 s0 = cond (w && v) (done bit) (Err CodeOutOfInterval) >>= λ x. done (x, cond w s1 s0)

gate : (w v bit b : Bool) (s1 s0 s' : State) → settled w v bit s1 s0 ≡ done (b, s') → (w ≡ true) × (v ≡ true) × (bit ≡ b) × (s' ≡ s1)
unfolding settled
gate true true bit b s1 s0 s' e =
    let p : (bit, s1) ≡ (b, s') = ok_is (bit, s1) (b, s') e in
    (refl, refl, ap (λ (x : Bool × State). x.0) p, sym (ap (λ (x : Bool × State). x.1) p))
gate true false bit b s1 s0 s' e = absurd cc
gate false v bit b s1 s0 s' e = absurd cc

-- a decision that is read is spelled
pub decide_told : (bytes : List ℕ) (cx : ℕ) (s s' : State) (bit : Bool) → decide bytes cx s ≡ Ok (bit, s') → Told bytes s ((cx, bit) ∷ []) s'
unfolding decide answer next settled
decide_told bytes cx s s' bit e =
    let g = gate (is_within bytes s) (is_within bytes (after bytes s cx)) (bit_at bytes s cx) bit (after bytes s cx) s s' e in
    record { spelled = (within bytes s g.0, g.2, within bytes (after bytes s cx) g.1, tt); state = g.3 }

-- a decision that is spelled is read
pub told_decide : (bytes : List ℕ) (cx : ℕ) (s : State) (bit : Bool) → SpellsFrom bytes s ((cx, bit) ∷ []) → decide bytes cx s ≡ Ok (bit, after bytes s cx)
unfolding decide answer next settled
told_decide bytes cx s bit h =
    let w = within_true bytes s h.0 in
    let v = within_true bytes (after bytes s cx) h.2 in
    ap (λ (w : Bool). settled w (is_within bytes (after bytes s cx)) (bit_at bytes s cx) (after bytes s cx) s) w
    ∙ ap (λ (v : Bool). settled true v (bit_at bytes s cx) (after bytes s cx) s) v
    ∙ ap (λ (b : Bool). done (b, after bytes s cx)) h.1
