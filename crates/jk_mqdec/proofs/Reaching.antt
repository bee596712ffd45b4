-- What was decoded so far, and one decision more.
use Rattle.std.proofs.Common.{◌≡◌, ◌∙◌, ap, sym, subst, ℕ, inl, inr, ◌+◌, ◌*◌, Bool, List, [], ◌∷◌, ◌++◌, Result, Ok, Err, IfOk}
use Rattle.std.proofs.lemmas.Bool.{cases_lt}
use Rattle.jk_math.specs.declared.fault.Fault.{Fault}
use Rattle.jk_math.specs.declared.fault.Fault.TheVariants.{CodeOutOfInterval}
use Rattle.jk_model.specs.Code.{code_value}
use Rattle.jk_model.specs.Decisions.{State, Decision, initial, IsInInterval, bit_at, after, state_after, SpellsFrom, Spells}
use Rattle.jk_model.proofs.Laws.{spells-join, spells-split, state_after-joined}
use Rattle.jk_mqdec.specs.Standing.{DecoderView, Stands, Reached}
use Rattle.jk_mqdec.specs.Answers.{answer}
use Rattle.jk_mqdec.proofs.Deciding.{Decides, answer-ok, answer-left, answer-failed, next-within}

-- the decision in a context has this bit at s
record Gives (b : List ℕ) (s : State) (cx : ℕ) (bit : Bool) : Type 0 where
  before : IsInInterval b s
  bit_is : bit_at b s cx ≡ bit
  behind : IsInInterval b (after b s cx)

spells-more : (b : List ℕ) (s : State) (ds : List Decision) (cx : ℕ) (bit : Bool) → SpellsFrom b s ds → Gives b (state_after b s ds) cx bit → SpellsFrom b s (ds ++ (cx, bit) ∷ [])
spells-more b s ds cx bit h g = spells-join b s ds ((cx, bit) ∷ []) h (g.before, g.bit_is, g.behind, tt)

spells-last : (b : List ℕ) (s : State) (ds : List Decision) (cx : ℕ) (bit : Bool) → SpellsFrom b s (ds ++ (cx, bit) ∷ []) → Gives b (state_after b s ds) cx bit
spells-last b s ds cx bit h =
    let last = (spells-split b s ds ((cx, bit) ∷ []) h).1 in
    record { before = last.0; bit_is = last.1; behind = last.2 }

same_bit : (x y : Bool) → (let z : Result Bool Fault = Ok x in z) ≡ Ok y → x ≡ y
same_bit x y h = cc

no_bit : (x : Bool) → (let z : Result Bool Fault = Err CodeOutOfInterval in z) ≡ Ok x → ⊥
no_bit x h = cc

gives-answer : (b : List ℕ) (s : State) (cx : ℕ) (bit : Bool) → answer b s cx ≡ Ok bit → Gives b s cx bit
gives-answer b s cx bit h =
    let t = after b s cx in
    elim (cases_lt (code_value b s.doublings) (128 * (s.low + s.width))) [
      | inl before ↦ elim (cases_lt (code_value b t.doublings) (128 * (t.low + t.width))) [
        | inl behind ↦ record { before = before; bit_is = same_bit _ _ (sym (answer-ok b s cx before behind) ∙ h); behind = behind }
        | inr outside ↦ absurd (no_bit bit (sym (answer-left b s cx before outside) ∙ h))
      ]
      | inr outside ↦ absurd (no_bit bit (sym (answer-failed b s cx outside) ∙ h))
    ]

reached-here : (old new : DecoderView) (done : List Decision) (cx : ℕ) (bit : Bool) → new.bytes ≡ old.bytes → Decides old new cx (Ok bit) → Reached old old.bytes done → Reached new old.bytes (done ++ (cx, bit) ∷ [])
reached-here old new done cx bit same h r =
    let b = old.bytes in
    let t = state_after b initial done in
    let g = gives-answer b t cx bit (sym (h.answers t r.stands)) in
    record {
      bytes_are = same;
      spelled = spells-more b initial done cx bit r.spelled g;
      stands = subst (λ u. Stands new u) (next-within b t cx g.before ∙ sym (state_after-joined b initial done ((cx, bit) ∷ []))) (h.goes_on t r.stands);
    }

pub reached-more : (old new : DecoderView) (cx : ℕ) (result : Result Bool Fault) → new.bytes ≡ old.bytes → Decides old new cx result → IfOk result (λ bit. (bytes : List ℕ) (done : List Decision) → Reached old bytes done → Reached new bytes (done ++ (cx, bit) ∷ []))
reached-more old new cx (Ok bit) same h = λ bytes done r.
    subst (λ b. Reached old b done → Reached new b (done ++ (cx, bit) ∷ [])) r.bytes_are (reached-here old new done cx bit same h) r
reached-more old new cx (Err e) same h = tt

only-here : (old new : DecoderView) (done : List Decision) (cx : ℕ) (bit : Bool) (result : Result Bool Fault) → Decides old new cx result → Reached old old.bytes done → Spells old.bytes (done ++ (cx, bit) ∷ []) → result ≡ Ok bit
only-here old new done cx bit result h r spelled =
    let b = old.bytes in
    let t = state_after b initial done in
    let g = spells-last b initial done cx bit spelled in
    h.answers t r.stands ∙ answer-ok b t cx g.before g.behind ∙ ap (λ (y : Bool). let z : Result Bool Fault = Ok y in z) g.bit_is

pub only-one : (old new : DecoderView) (cx : ℕ) (result : Result Bool Fault) → Decides old new cx result → (bytes : List ℕ) (done : List Decision) (bit : Bool) → Reached old bytes done → Spells bytes (done ++ (cx, bit) ∷ []) → result ≡ Ok bit
only-one old new cx result h bytes done bit r =
    subst (λ b. Reached old b done → Spells b (done ++ (cx, bit) ∷ []) → result ≡ Ok bit) r.bytes_are (only-here old new done cx bit result h) r
