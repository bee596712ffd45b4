-- A decision of the registers against a decision of the definition.
use Rattle.std.proofs.Common.{◌≡◌, ◌∙◌, ap, sym, subst, ℕ, zero, suc, ◌+◌, ◌-◌, ◌*◌, ◌^◌, ◌<◌, ◌≤◌, Bool, true, false, not, cond, ◌&&◌, List, get_or, set, ltb, Result, Ok, Err, MatchResult, IfOk, IfErr, OnOk, OnErr, inl, inr, refl, arith}
use Rattle.std.specs.Bool.{beq}
use Rattle.std.proofs.lemmas.Bool.{cases_lt, lt-ltb, le-ltb}
use Rattle.std.proofs.lemmas.List.{set-get_or}
use Rattle.jk_math.specs.declared.fault.Fault.{Fault}
use Rattle.jk_math.specs.declared.fault.Fault.TheVariants.{CodeOutOfInterval}
use Rattle.jk_model.specs.Code.{code_value}
use Rattle.jk_model.specs.Contexts.{Context, row_of, moved, begins}
use Rattle.jk_model.specs.Decisions.{State, IsInInterval, is_within, context_at, qe_at, is_lower, is_exchanged, bit_at, divided, renormalised, contexts_after, after, doubled}
use Rattle.jk_mqdec.specs.declared.wide.WideRegisters.{WideRegisters}
use Rattle.jk_mqdec.specs.Registers.{IsOutside}
use Rattle.jk_mqdec.specs.Wide.{IsHeld, HoldsWide, HasLeftWide, IsReadyWide}
use Rattle.jk_mqdec.specs.Standing.{DecoderView, HasFailed, StandsWithin, Stands}
use Rattle.jk_mqdec.specs.Answers.{answer, next}
use Rattle.jk_mqdec.proofs.Widening.{held-below, held-above}

-- ---- within and outside

pub within-holds : (b : List ℕ) (r : WideRegisters) (s : State) → r.code < r.width → HoldsWide b r s → IsInInterval b s
within-holds b r s k h = let w = h.width_is in held-below b r.code r.width r.count r.place s.width s h (omega (arith, k, w))

is_within-true : (b : List ℕ) (s : State) → IsInInterval b s → is_within b s ≡ true
is_within-true b s h = lt-ltb (code_value b s.doublings) (128 * (s.low + s.width)) h

is_within-false : (b : List ℕ) (s : State) → IsOutside b s → is_within b s ≡ false
is_within-false b s h = le-ltb (code_value b s.doublings) (128 * (s.low + s.width)) h

-- ---- what the definition answers, and where it goes on

answered : (b : List ℕ) (s : State) (cx : ℕ) (x y : Bool) → is_within b s ≡ x → is_within b (after b s cx) ≡ y → answer b s cx ≡ cond (x && y) (Ok (bit_at b s cx)) (Err CodeOutOfInterval)
unfolding answer
answered b s cx x y e f =
    ap (λ (t : Bool). cond (t && is_within b (after b s cx)) (Ok (bit_at b s cx)) (Err CodeOutOfInterval)) e ∙ ap (λ (t : Bool). cond (x && t) (Ok (bit_at b s cx)) (Err CodeOutOfInterval)) f

pub answer-ok : (b : List ℕ) (s : State) (cx : ℕ) → IsInInterval b s → IsInInterval b (after b s cx) → answer b s cx ≡ Ok (bit_at b s cx)
answer-ok b s cx h k = answered b s cx true true (is_within-true b s h) (is_within-true b (after b s cx) k)

pub answer-left : (b : List ℕ) (s : State) (cx : ℕ) → IsInInterval b s → IsOutside b (after b s cx) → answer b s cx ≡ Err CodeOutOfInterval
answer-left b s cx h k = answered b s cx true false (is_within-true b s h) (is_within-false b (after b s cx) k)

pub answer-failed : (b : List ℕ) (s : State) (cx : ℕ) → IsOutside b s → answer b s cx ≡ Err CodeOutOfInterval
answer-failed b s cx h = answered b s cx false (is_within b (after b s cx)) (is_within-false b s h) refl

pub next-within : (b : List ℕ) (s : State) (cx : ℕ) → IsInInterval b s → next b s cx ≡ after b s cx
unfolding next
next-within b s cx h = ap (λ (t : Bool). cond t (after b s cx) s) (is_within-true b s h)

pub next-failed : (b : List ℕ) (s : State) (cx : ℕ) → IsOutside b s → next b s cx ≡ s
unfolding next
next-failed b s cx h = ap (λ (t : Bool). cond t (after b s cx) s) (is_within-false b s h)

-- A decision of the decoder is that of the definition, from each state that the decoder may stand
-- at.
pub record Decides (old new : DecoderView) (cx : ℕ) (result : Result Bool Fault) : Type 0 where
  pub answers : (s : State) → Stands old s → result ≡ answer old.bytes s cx
  pub goes_on : (s : State) → Stands old s → Stands new (next old.bytes s cx)

-- the registers tell which of the two it is
pub is-outside : (d : DecoderView) (s : State) → HasFailed d → Stands d s → IsOutside d.bytes s
is-outside d s failed (inl st) = let k = st.code in absurd (omega (arith, k, failed))
is-outside d s failed (inr st) = st.outside

is-within : (d : DecoderView) (s : State) → d.registers.code < d.registers.width → Stands d s → StandsWithin d s
is-within d s k (inl st) = st
is-within d s k (inr st) = let failed = st.failed in absurd (omega (arith, k, failed))

-- ---- the code value has left the interval before

pub decides-failed : (d : DecoderView) (cx : ℕ) → HasFailed d → Decides d d cx (Err CodeOutOfInterval)
decides-failed d cx h = record {
  answers = λ s st. sym (answer-failed d.bytes s cx (is-outside d s h st));
  goes_on = λ s st. subst (λ t. Stands d t) (sym (next-failed d.bytes s cx (is-outside d s h st))) st;
}

-- ---- the state after a decision, by its subintervals

-- the state after the division and the move of the context, before the renormalisation
abbrev settling : List ℕ → State → ℕ → State
settling b s cx = record (divided b s cx) { contexts = contexts_after b s cx }

after-is : (b : List ℕ) (s : State) (cx : ℕ) → after b s cx ≡ renormalised 15 (settling b s cx)
unfolding after
after-is b s cx = refl

holds-contexts : (b : List ℕ) (r : WideRegisters) (s : State) (cs : List Context) → HoldsWide b r s → HoldsWide b r (record s { contexts = cs })
holds-contexts b r s cs h = record {
  code_is = h.code_is;
  width_is = h.width_is;
  near = h.near;
  last = h.last;
  fed_last = h.fed_last;
  due_next = h.due_next;
  place_is = h.place_is;
}

either : (t : Bool) (x s : State) → x.contexts ≡ s.contexts → (cond t x s).contexts ≡ s.contexts
either true x s h = h
either false x s h = refl

contexts-renormalised : (k : ℕ) (s : State) → (renormalised k s).contexts ≡ s.contexts
unfolding renormalised
contexts-renormalised zero s = refl
contexts-renormalised (suc k) s =
    either (ltb s.width (2 ^ 15)) (renormalised k (doubled s)) s (contexts-renormalised k (doubled s))

contexts-after : (b : List ℕ) (s : State) (cx : ℕ) → (after b s cx).contexts ≡ contexts_after b s cx
contexts-after b s cx =
    ap (λ (t : State). t.contexts) (after-is b s cx) ∙ contexts-renormalised 15 (settling b s cx)

contexts-moved : (b : List ℕ) (s : State) (cx : ℕ) → (divided b s cx).width < 2 ^ 15 → contexts_after b s cx ≡ set s.contexts cx (moved (context_at s cx) (bit_at b s cx))
unfolding contexts_after
contexts-moved b s cx h =
    ap (λ (t : Bool). cond t (set s.contexts cx (moved (context_at s cx) (bit_at b s cx))) s.contexts) (lt-ltb (divided b s cx).width (2 ^ 15) h)

contexts-kept : (b : List ℕ) (s : State) (cx : ℕ) → 2 ^ 15 ≤ (divided b s cx).width → contexts_after b s cx ≡ s.contexts
unfolding contexts_after
contexts-kept b s cx h =
    ap (λ (t : Bool). cond t (set s.contexts cx (moved (context_at s cx) (bit_at b s cx))) s.contexts) (le-ltb (divided b s cx).width (2 ^ 15) h)

-- ---- the subinterval that the code value lies in

divided-is : (b : List ℕ) (s : State) (cx : ℕ) (t : Bool) → is_lower b s cx ≡ t → divided b s cx ≡ cond t (record s { width = qe_at s cx }) (record s { low = s.low + qe_at s cx; width = s.width - qe_at s cx })
unfolding divided
divided-is b s cx t h =
    ap (λ (x : Bool). cond x (record s { width = qe_at s cx }) (record s { low = s.low + qe_at s cx; width = s.width - qe_at s cx })) h

lower-true : (b : List ℕ) (r : WideRegisters) (s : State) (cx : ℕ) → HoldsWide b r s → r.code < qe_at s cx * 2 ^ 48 → is_lower b s cx ≡ true
unfolding is_lower
lower-true b r s cx h k = lt-ltb (code_value b s.doublings) (128 * (s.low + qe_at s cx)) (held-below b r.code r.width r.count r.place (qe_at s cx) s h k)

lower-false : (b : List ℕ) (r : WideRegisters) (s : State) (cx : ℕ) → HoldsWide b r s → qe_at s cx * 2 ^ 48 ≤ r.code → is_lower b s cx ≡ false
unfolding is_lower
lower-false b r s cx h k = le-ltb (code_value b s.doublings) (128 * (s.low + qe_at s cx)) (held-above b r.code r.width r.count r.place (qe_at s cx) s h k)

holds-lower : (b : List ℕ) (now subinterval : WideRegisters) (s : State) (cx : ℕ) → HoldsWide b now s → now.code < qe_at s cx * 2 ^ 48 → subinterval.code ≡ now.code → subinterval.width ≡ qe_at s cx * 2 ^ 48 → subinterval.count ≡ now.count → subinterval.place ≡ now.place → HoldsWide b subinterval (divided b s cx)
holds-lower b now subinterval s cx h k code width count place =
    subst (λ t. HoldsWide b subinterval t) (sym (divided-is b s cx true (lower-true b now s cx h k)))
    (subst (λ x. IsHeld b x subinterval.width subinterval.count subinterval.place (record s { width = qe_at s cx })) (sym code)
    (subst (λ x. IsHeld b now.code subinterval.width x subinterval.place (record s { width = qe_at s cx })) (sym count)
    (subst (λ x. IsHeld b now.code subinterval.width now.count x (record s { width = qe_at s cx })) (sym place) (record {
      code_is = h.code_is;
      width_is = width;
      near = h.near;
      last = h.last;
      fed_last = h.fed_last;
      due_next = h.due_next;
      place_is = h.place_is;
    }))))

holds-upper : (b : List ℕ) (now subinterval : WideRegisters) (s : State) (cx : ℕ) → HoldsWide b now s → qe_at s cx * 2 ^ 48 ≤ now.code → subinterval.code + qe_at s cx * 2 ^ 48 ≡ now.code → subinterval.width ≡ now.width - qe_at s cx * 2 ^ 48 → subinterval.count ≡ now.count → subinterval.place ≡ now.place → HoldsWide b subinterval (divided b s cx)
holds-upper b now subinterval s cx h k code width count place =
    let e : now.code + 2 ^ 48 * s.low ≡ subinterval.code + 2 ^ 48 * (s.low + qe_at s cx) = omega (arith, code) in
    let width_was = h.width_is in
    subst (λ t. HoldsWide b subinterval t) (sym (divided-is b s cx false (lower-false b now s cx h k)))
    (subst (λ x. IsHeld b subinterval.code subinterval.width x subinterval.place (record s { low = s.low + qe_at s cx; width = s.width - qe_at s cx })) (sym count)
    (subst (λ x. IsHeld b subinterval.code subinterval.width now.count x (record s { low = s.low + qe_at s cx; width = s.width - qe_at s cx })) (sym place) (record {
      code_is = ap (λ x. x * 2 ^ now.count) (sym e) ∙ h.code_is;
      width_is = omega (arith, width, width_was);
      near = h.near;
      last = h.last;
      fed_last = h.fed_last;
      due_next = h.due_next;
      place_is = h.place_is;
    })))

-- ---- the bit

bit-is : (b : List ℕ) (s : State) (cx : ℕ) (x : Bool) → is_lower b s cx ≡ x → bit_at b s cx ≡ cond (beq x (is_exchanged s cx)) (context_at s cx).mps (not (context_at s cx).mps)
unfolding bit_at
bit-is b s cx x h =
    ap (λ (t : Bool). cond (beq t (is_exchanged s cx)) (context_at s cx).mps (not (context_at s cx).mps)) h

-- the less probable symbol, from the subinterval and from which subinterval is the smaller
bit_from : (lower exchanged mps : Bool) → not (beq mps (not (beq lower exchanged))) ≡ cond (beq lower exchanged) mps (not mps)
bit_from true true true = refl
bit_from true true false = refl
bit_from true false true = refl
bit_from true false false = refl
bit_from false true true = refl
bit_from false true false = refl
bit_from false false true = refl
bit_from false false false = refl

symbol : (less mps : Bool) → not (beq mps less) ≡ cond less (not mps) mps
symbol true true = refl
symbol true false = refl
symbol false true = refl
symbol false false = refl

exchanged-is : (s : State) (cx : ℕ) → is_exchanged s cx ≡ ltb (s.width - qe_at s cx) (qe_at s cx)
unfolding is_exchanged
exchanged-is s cx = refl

-- in the units of the registers
exchanged-scaled : (w q : ℕ) → ltb (w * 2 ^ 48 - q * 2 ^ 48) (q * 2 ^ 48) ≡ ltb (w - q) q
exchanged-scaled w q =
    elim (cases_lt (w - q) q) [
      | inl less ↦ lt-ltb (w * 2 ^ 48 - q * 2 ^ 48) (q * 2 ^ 48) (omega (arith, less)) ∙ sym (lt-ltb (w - q) q less)
      | inr more ↦ le-ltb (w * 2 ^ 48 - q * 2 ^ 48) (q * 2 ^ 48) (omega (arith, more)) ∙ sym (le-ltb (w - q) q more)
    ]

-- ---- the decoder after a decision

stands-within : (old new : DecoderView) (t : State) → new.bytes ≡ old.bytes → new.registers.code < new.registers.width → HoldsWide old.bytes new.registers t → new.contexts ≡ t.contexts → Stands new t
stands-within old new t same k h contexts = inl (record { code = k; holds = rw same h; contexts = contexts })

stands-outside : (old new : DecoderView) (t : State) → new.bytes ≡ old.bytes → HasFailed new → IsOutside old.bytes t → Stands new t
stands-outside old new t same k h = inr (record { failed = k; outside = rw same h })

-- The registers subinterval hold the subinterval of s that the code value lies in, and the decision
-- is still to be settled.
pub record Divides (old : DecoderView) (subinterval : WideRegisters) (s : State) (cx : ℕ) (context : Context) (bit : Bool) : Type 0 where
  pub within : IsInInterval old.bytes s
  pub holds : HoldsWide old.bytes subinterval (divided old.bytes s cx)
  pub context_is : context ≡ context_at s cx
  pub contexts_are : old.contexts ≡ s.contexts
  pub bit_is : bit ≡ bit_at old.bytes s cx

-- What the call does: the context moves where a renormalisation is due, and the subinterval is
-- renormalised.
pub record Settles (old new : DecoderView) (subinterval : WideRegisters) (cx : ℕ) (context : Context) (less : Bool) (result : Result Bool Fault) : Type 0 where
  pub bytes : new.bytes ≡ old.bytes
  pub contexts : new.contexts ≡ set old.contexts cx (cond (ltb subinterval.width (2 ^ 63)) (moved context (cond less (not context.mps) context.mps)) context)
  pub bit_is : IfOk result (λ b. b ≡ not (beq context.mps less))
  pub fault : IfErr result (λ e. e ≡ CodeOutOfInterval)
  pub ready : OnOk result (IsReadyWide old.bytes new.registers)
  pub left : OnErr result (HasLeftWide new.registers)
  pub holds : (s : State) → HoldsWide old.bytes subinterval s → MatchResult result (λ _. HoldsWide old.bytes new.registers (renormalised 15 s)) (λ _. IsOutside old.bytes (renormalised 15 s))

settles-contexts : (old new : DecoderView) (subinterval : WideRegisters) (s : State) (cx : ℕ) (context : Context) (less : Bool) (r : Result Bool Fault) → Settles old new subinterval cx context less r → Divides old subinterval s cx context (not (beq context.mps less)) → new.contexts ≡ (after old.bytes s cx).contexts
settles-contexts old new subinterval s cx context less r h d =
    let b = old.bytes in
    let bit = not (beq context.mps less) in
    let symbol_is : cond less (not context.mps) context.mps ≡ bit_at b s cx = sym (symbol less context.mps) ∙ d.bit_is in
    h.contexts ∙ elim (cases_lt subinterval.width (2 ^ 63)) [
      | inl narrow ↦
          ap (λ (t : Bool). set old.contexts cx (cond t (moved context (cond less (not context.mps) context.mps)) context)) (lt-ltb subinterval.width (2 ^ 63) narrow)
          ∙ ap (λ (cs : List Context). set cs cx (moved context (cond less (not context.mps) context.mps))) d.contexts_are
          ∙ ap (λ (x : Bool). set s.contexts cx (moved context x)) symbol_is
          ∙ ap (λ (x : Context). set s.contexts cx (moved x (bit_at b s cx))) d.context_is
          ∙ sym (contexts-moved b s cx (let w = d.holds.width_is in omega (arith, w, narrow)))
          ∙ sym (contexts-after b s cx)
      | inr wide ↦
          ap (λ (t : Bool). set old.contexts cx (cond t (moved context (cond less (not context.mps) context.mps)) context)) (le-ltb subinterval.width (2 ^ 63) wide)
          ∙ ap (λ (cs : List Context). set cs cx context) d.contexts_are
          ∙ ap (λ (x : Context). set s.contexts cx x) d.context_is
          ∙ set-get_or s.contexts cx (begins 0)
          ∙ sym (contexts-kept b s cx (let w = d.holds.width_is in omega (arith, w, wide)))
          ∙ sym (contexts-after b s cx)
    ]

settles-answers : (old new : DecoderView) (subinterval : WideRegisters) (s : State) (cx : ℕ) (context : Context) (less : Bool) (r : Result Bool Fault) → Settles old new subinterval cx context less r → Divides old subinterval s cx context (not (beq context.mps less)) → (r ≡ answer old.bytes s cx) × Stands new (next old.bytes s cx)
settles-answers old new subinterval s cx context less (Ok x) h d =
    let b = old.bytes in
    let t = settling b s cx in
    let there : HoldsWide b new.registers (after b s cx) = subst (λ u. HoldsWide b new.registers u) (sym (after-is b s cx)) (h.holds t (holds-contexts b subinterval (divided b s cx) (contexts_after b s cx) d.holds)) in
    (ap (λ (y : Bool). let z : Result Bool Fault = Ok y in z) (h.bit_is ∙ d.bit_is) ∙ sym (answer-ok b s cx d.within (within-holds b new.registers (after b s cx) h.ready.code there)), subst (λ u. Stands new u) (sym (next-within b s cx d.within)) (stands-within old new (after b s cx) h.bytes h.ready.code there (settles-contexts old new subinterval s cx context less (Ok x) h d)))
settles-answers old new subinterval s cx context less (Err e) h d =
    let b = old.bytes in
    let t = settling b s cx in
    let there : IsOutside b (after b s cx) = subst (λ u. IsOutside b u) (sym (after-is b s cx)) (h.holds t (holds-contexts b subinterval (divided b s cx) (contexts_after b s cx) d.holds)) in
    (ap (λ (y : Fault). let z : Result Bool Fault = Err y in z) h.fault ∙ sym (answer-left b s cx d.within there), subst (λ u. Stands new u) (sym (next-within b s cx d.within)) (stands-outside old new (after b s cx) h.bytes h.left there))

pub decides-settled : (old new : DecoderView) (subinterval : WideRegisters) (cx : ℕ) (context : Context) (less : Bool) (r : Result Bool Fault) → Settles old new subinterval cx context less r → ((s : State) → Stands old s → Divides old subinterval s cx context (not (beq context.mps less))) → Decides old new cx r
decides-settled old new subinterval cx context less r h divides = record {
  answers = λ s st. (settles-answers old new subinterval s cx context less r h (divides s st)).0;
  goes_on = λ s st. (settles-answers old new subinterval s cx context less r h (divides s st)).1;
}

-- ---- the subinterval that the code value lies in, as the call finds it

pub divides : (old : DecoderView) (subinterval : WideRegisters) (cx : ℕ) (context : Context) (q : ℕ) (less : Bool) → old.registers.code < old.registers.width → context ≡ get_or old.contexts cx (begins 0) → q ≡ (row_of context.state).qe * 2 ^ 48
    → (old.registers.code < q → subinterval ≡ record old.registers { width = q }) → (q ≤ old.registers.code → subinterval ≡ record old.registers { code = old.registers.code - q; width = old.registers.width - q })
    → less ≡ not (beq (ltb old.registers.code q) (ltb (old.registers.width - q) q)) → (s : State) → Stands old s → Divides old subinterval s cx context (not (beq context.mps less))
divides old subinterval cx context q less k context_is q_is low high less_is s st =
    let b = old.bytes in
    let r = old.registers in
    let at = is-within old s k st in
    let h = at.holds in
    let same : context ≡ context_at s cx = context_is ∙ ap (λ (cs : List Context). get_or cs cx (begins 0)) at.contexts in
    let size : q ≡ qe_at s cx * 2 ^ 48 = q_is ∙ ap (λ (x : Context). (row_of x.state).qe * 2 ^ 48) same in
    let exchanged : ltb (r.width - q) q ≡ is_exchanged s cx = ap (λ p. ltb (r.width - p) p) size ∙ ap (λ w. ltb (w - qe_at s cx * 2 ^ 48) (qe_at s cx * 2 ^ 48)) h.width_is ∙ exchanged-scaled s.width (qe_at s cx) ∙ sym (exchanged-is s cx) in
    let bit : (lower : Bool) → ltb r.code q ≡ lower → is_lower b s cx ≡ lower → not (beq context.mps less) ≡ bit_at b s cx = λ lower here there.
    ap (λ (l : Bool). not (beq context.mps l)) less_is
    ∙ ap (λ (t : Bool). not (beq context.mps (not (beq t (ltb (r.width - q) q))))) here
    ∙ ap (λ (t : Bool). not (beq context.mps (not (beq lower t)))) exchanged
    ∙ bit_from lower (is_exchanged s cx) context.mps
    ∙ ap (λ (x : Context). cond (beq lower (is_exchanged s cx)) x.mps (not x.mps)) same
    ∙ sym (bit-is b s cx lower there) in
    let made : (subinterval_held : HoldsWide b subinterval (divided b s cx)) (lower : Bool) → ltb r.code q ≡ lower → is_lower b s cx ≡ lower → Divides old subinterval s cx context (not (beq context.mps less)) = λ held lower here there. record {
      within = within-holds b r s k h;
      holds = held;
      context_is = same;
      contexts_are = at.contexts;
      bit_is = bit lower here there;
    } in
    elim (cases_lt r.code q) [
      | inl below ↦
          let is = low below in
          let here : r.code < qe_at s cx * 2 ^ 48 = omega (arith, below, size) in
          made (holds-lower b r subinterval s cx h here (ap (λ (x : WideRegisters). x.code) is) (ap (λ (x : WideRegisters). x.width) is ∙ size) (ap (λ (x : WideRegisters). x.count) is) (ap (λ (x : WideRegisters). x.place) is)) true (lt-ltb r.code q below) (lower-true b r s cx h here)
      | inr above ↦
          let is = high above in
          let here : qe_at s cx * 2 ^ 48 ≤ r.code = omega (arith, above, size) in
          let code = ap (λ (x : WideRegisters). x.code) is in
          let width = ap (λ (x : WideRegisters). x.width) is in
          made (holds-upper b r subinterval s cx h here (omega (arith, code, above, size)) (omega (arith, width, size)) (ap (λ (x : WideRegisters). x.count) is) (ap (λ (x : WideRegisters). x.place) is)) false (le-ltb r.code q above) (lower-false b r s cx h here)
    ]
