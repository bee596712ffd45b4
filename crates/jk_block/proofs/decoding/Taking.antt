-- Steps that code takes.
use Rattle.std.proofs.Common.{◌≡◌, ℕ, zero, suc, ◌+◌, ◌/◌, ◌^◌, ◌<◌, Bool, true, false, cond, List, Result, Ok, Err, refl, sym, ap, ◌∙◌, subst, inl, inr, arith}
use Rattle.std.specs.Prelude.{nat_le, OnOk}
use Rattle.std.proofs.lemmas.Bool.{cases_lt}
use Rattle.jk_math.specs.declared.fault.Fault.{Fault}
use Rattle.jk_math.specs.Answer.{◌>>=◌}
use Rattle.jk_math.specs.Steps.{done}
use Rattle.jk_model.specs.Decisions.{State}
use Rattle.jk_mqdec.specs.Answers.{answer, next}
use Rattle.jk_mqdec.specs.Standing.{DecoderView, Stands}
use Rattle.jk_scan.specs.declared.shape.BlockShape.{BlockShape}
use Rattle.jk_scan.specs.declared.contexts.SignContext.{SignContext}
use Rattle.jk_scan.specs.Contexts.{refine_context_of, run_length, uniform}
use Rattle.jk_scan.specs.Neighbours.{touched_in, zero_in, sign_in}
use Rattle.jk_scan.specs.Passes.{flipped}
use Rattle.jk_block.specs.Reading.{Progress, known_significant, times, decide, with_coder, coded_as, place_at, read_sign, read_new, read_refined, rows_at, row_named, read_from, read_run, pass_at, blank}
use Rattle.jk_block.specs.decoding.BlockStates.{Draft, progress, significant_in, coded_in, Advanced, TakesTo, TakesStep}
use Rattle.jk_block.specs.declared.word_place.WordPlace.{WordPlace}
use Rattle.jk_block.proofs.decoding.WordSteps.{next_due}

fault : Fault → Result (Bool × State) Fault
fault e = Err e

refused : Fault → Result Progress Fault
refused e = Err e

bit_ok : Bool → Result Bool Fault
bit_ok b = Ok b

bit_err : Fault → Result Bool Fault
bit_err e = Err e

pub decide_ok : (bytes : List ℕ) (cx : ℕ) (s : State) (bit : Bool) → (let r : Result Bool Fault = Ok bit in r) ≡ answer bytes s cx → decide bytes cx s ≡ Ok (bit, next bytes s cx)
unfolding decide bit_ok
decide_ok bytes cx s bit e = ap (λ (r : Result Bool Fault). r >>= λ bit. done (bit, next bytes s cx)) (sym e)

pub decide_err : (bytes : List ℕ) (cx : ℕ) (s : State) (e : Fault) → (let r : Result Bool Fault = Err e in r) ≡ answer bytes s cx → decide bytes cx s ≡ Err e
unfolding decide bit_err
decide_err bytes cx s e h = ap (λ (r : Result Bool Fault). r >>= λ bit. done (bit, next bytes s cx)) (sym h)

-- the steps of a place, where the decoder gave a bit or a fault
pub sign_takes : (bytes : List ℕ) (s : BlockShape) (b x y : ℕ) (z : Progress) (c : SignContext) (bit : Bool) (n : State) → c ≡ sign_in s (known_significant s z) z.negative x y → decide bytes c.context z.coder ≡ Ok (bit, n)
    → read_sign bytes s b x y z ≡ Ok (with_coder (coded_as b x y true (flipped c.flip bit) z) n)
unfolding read_sign
sign_takes bytes s b x y z c bit n e d =
    ap (λ (c : SignContext). decide bytes c.context z.coder >>= λ d. done (with_coder (coded_as b x y true (flipped c.flip d.0) z) d.1)) (sym e)
    ∙ ap (λ (r : Result (Bool × State) Fault). r >>= λ d. done (with_coder (coded_as b x y true (flipped c.flip d.0) z) d.1)) d

pub sign_faults : (bytes : List ℕ) (s : BlockShape) (b x y : ℕ) (z : Progress) (c : SignContext) (f : Fault) → c ≡ sign_in s (known_significant s z) z.negative x y → decide bytes c.context z.coder ≡ Err f → read_sign bytes s b x y z ≡ Err f
unfolding read_sign
sign_faults bytes s b x y z c f e d =
    ap (λ (c : SignContext). decide bytes c.context z.coder >>= λ d. done (with_coder (coded_as b x y true (flipped c.flip d.0) z) d.1)) (sym e)
    ∙ ap (λ (r : Result (Bool × State) Fault). r >>= λ d. done (with_coder (coded_as b x y true (flipped c.flip d.0) z) d.1)) d

pub new_takes : (bytes : List ℕ) (s : BlockShape) (b x y : ℕ) (z : Progress) (cx : ℕ) (bit : Bool) (n : State) (r : Result Progress Fault) → cx ≡ zero_in s (known_significant s z) x y → decide bytes cx z.coder ≡ Ok (bit, n)
    → cond bit (read_sign bytes s b x y (with_coder z n)) (Ok (with_coder z n)) ≡ r → read_new bytes s b x y z ≡ r
unfolding read_new
new_takes bytes s b x y z cx bit n r e d h =
    ap (λ (c : ℕ). decide bytes c z.coder >>= λ d. cond d.0 (read_sign bytes s b x y (with_coder z d.1)) (done (with_coder z d.1))) (sym e)
    ∙ ap (λ (r : Result (Bool × State) Fault). r >>= λ d. cond d.0 (read_sign bytes s b x y (with_coder z d.1)) (done (with_coder z d.1))) d ∙ h

pub new_faults : (bytes : List ℕ) (s : BlockShape) (b x y : ℕ) (z : Progress) (cx : ℕ) (f : Fault) → cx ≡ zero_in s (known_significant s z) x y → decide bytes cx z.coder ≡ Err f → read_new bytes s b x y z ≡ Err f
unfolding read_new
new_faults bytes s b x y z cx f e d =
    ap (λ (c : ℕ). decide bytes c z.coder >>= λ d. cond d.0 (read_sign bytes s b x y (with_coder z d.1)) (done (with_coder z d.1))) (sym e)
    ∙ ap (λ (r : Result (Bool × State) Fault). r >>= λ d. cond d.0 (read_sign bytes s b x y (with_coder z d.1)) (done (with_coder z d.1))) d

pub next_takes : (bytes : List ℕ) (s : BlockShape) (b x y : ℕ) (z : Progress) (cx : ℕ) (bit : Bool) (n : State) → cx ≡ refine_context_of (nat_le 4 (z.magnitude x y / 2 ^ b)) (touched_in s (known_significant s z) x y) → decide bytes cx z.coder ≡ Ok (bit, n)
    → read_refined bytes s b x y z ≡ Ok (with_coder (coded_as b x y bit (z.negative x y) z) n)
unfolding read_refined
next_takes bytes s b x y z cx bit n e d =
    ap (λ (c : ℕ). decide bytes c z.coder >>= λ d. done (with_coder (coded_as b x y d.0 (z.negative x y) z) d.1)) (sym e)
    ∙ ap (λ (r : Result (Bool × State) Fault). r >>= λ d. done (with_coder (coded_as b x y d.0 (z.negative x y) z) d.1)) d

pub next_faults : (bytes : List ℕ) (s : BlockShape) (b x y : ℕ) (z : Progress) (cx : ℕ) (f : Fault) → cx ≡ refine_context_of (nat_le 4 (z.magnitude x y / 2 ^ b)) (touched_in s (known_significant s z) x y) → decide bytes cx z.coder ≡ Err f
    → read_refined bytes s b x y z ≡ Err f
unfolding read_refined
next_faults bytes s b x y z cx f e d =
    ap (λ (c : ℕ). decide bytes c z.coder >>= λ d. done (with_coder (coded_as b x y d.0 (z.negative x y) z) d.1)) (sym e)
    ∙ ap (λ (r : Result (Bool × State) Fault). r >>= λ d. done (with_coder (coded_as b x y d.0 (z.negative x y) z) d.1)) d

-- a step that does what another does
pub takes_through : {A : Type 0} (step other : Progress → Result Progress Fault) (k k' new : Draft) (v v' : DecoderView) (r : Result A Fault) → ((coder : State) → step (progress k coder) ≡ other (progress k' coder)) → TakesStep other k' new v v' r → TakesStep step k new v v' r
takes_through step other k k' new v v' (Ok u) same t = λ coder st. let a = t coder st in record { next = a.next; stands = a.stands; is = same coder ∙ a.is }
takes_through step other k k' new v v' (Err e) same t = λ coder st. same coder ∙ t coder st

-- the same where the decoder begins anew
pub takes_begun : {A : Type 0} (step other : Progress → Result Progress Fault) (start : State → State) (k k' new : Draft) (v w v' : DecoderView) (r : Result A Fault) → ((coder : State) → Stands v coder → Stands w (start coder))
    → ((coder : State) → step (progress k coder) ≡ other (progress k' (start coder))) → TakesStep other k' new w v' r → TakesStep step k new v v' r
takes_begun step other start k k' new v w v' (Ok u) stands same t = λ coder st. let a = t (start coder) (stands coder st) in record { next = a.next; stands = a.stands; is = same coder ∙ a.is }
takes_begun step other start k k' new v w v' (Err e) stands same t = λ coder st. same coder ∙ t (start coder) (stands coder st)

-- a step, and another one that keeps the draft
pub takes_then : {A : Type 0} (step other : Progress → Result Progress Fault) (k k' : Draft) (v w v' : DecoderView) (r : Result A Fault) → ((coder : State) → Stands v coder → Advanced step k k' w coder) → TakesStep other k' k' w v' r
    → TakesStep (λ z. step z >>= other) k k' v v' r
takes_then step other k k' v w v' (Ok u) first t = λ coder st.
    let a = first coder st in
    let b = t a.next a.stands in
    record { next = b.next; stands = b.stands; is = ap (λ (r : Result Progress Fault). r >>= other) a.is ∙ b.is }
takes_then step other k k' v w v' (Err e) first t = λ coder st.
    let a = first coder st in
    ap (λ (r : Result Progress Fault). r >>= other) a.is ∙ t a.next a.stands

-- steps one after another
pub advanced_none : (f : ℕ → Progress → Result Progress Fault) (k : Draft) (v : DecoderView) (coder : State) → Stands v coder → Advanced (times 0 f) k k v coder
unfolding times
advanced_none f k v coder st = record { next = coder; stands = st; is = refl }

pub advanced_more : (f : ℕ → Progress → Result Progress Fault) (n : ℕ) (k k' k'' : Draft) (v' v'' : DecoderView) (coder : State) → (a : Advanced (times n f) k k' v' coder) → Advanced (f n) k' k'' v'' a.next → Advanced (times (n + 1) f) k k'' v'' coder
unfolding times
advanced_more f n k k' k'' v' v'' coder a b = record {
  next = b.next;
  stands = b.stands;
  is = ap (λ m. times m f (progress k coder)) (let e : n + 1 ≡ suc n = omega arith in e) ∙ ap (λ (r : Result Progress Fault). r >>= f n) a.is ∙ b.is;
}

pub times_fault : (f : ℕ → Progress → Result Progress Fault) (n m : ℕ) (z w : Progress) (e : Fault) → n < m → times n f z ≡ Ok w → f n w ≡ Err e → times m f z ≡ Err e
unfolding times
times_fault f n zero z w e h a b = absurd (omega arith)
times_fault f n (suc m) z w e h a b = elim (cases_lt n m) [
  | inl less ↦ ap (λ (r : Result Progress Fault). r >>= f m) (times_fault f n m z w e less a b)
  | inr most ↦
      let same : n ≡ m = omega arith in
      ap (λ k. times k f z >>= f k) (sym same) ∙ ap (λ (r : Result Progress Fault). r >>= f n) a ∙ b
]

-- A loop that takes steps: what it has taken so far.
pub record Taken (steps : List ℕ → BlockShape → ℕ → Progress → Result Progress Fault) (n : ℕ) (k k' : Draft) (v v' : DecoderView) : Type 0 where
  pub shape : k'.shape ≡ k.shape
  pub bytes : v'.bytes ≡ v.bytes
  pub advanced : (coder : State) → Stands v coder → Advanced (times n (steps v.bytes k.shape)) k k' v' coder

pub taken_none : (steps : List ℕ → BlockShape → ℕ → Progress → Result Progress Fault) (k : Draft) (v : DecoderView) → Taken steps 0 k k v v
taken_none steps k v = record { shape = refl; bytes = refl; advanced = λ coder st. advanced_none (steps v.bytes k.shape) k v coder st }

pub taken_more : (steps : List ℕ → BlockShape → ℕ → Progress → Result Progress Fault) (n : ℕ) (k k' k'' : Draft) (v v' v'' : DecoderView) → Taken steps n k k' v v' → k''.shape ≡ k'.shape → v''.bytes ≡ v'.bytes
    → ((coder : State) → Stands v' coder → Advanced (steps v'.bytes k'.shape n) k' k'' v'' coder) → Taken steps (n + 1) k k'' v v''
taken_more steps n k k' k'' v v' v'' t shape bytes step = record {
  shape = shape ∙ t.shape;
  bytes = bytes ∙ t.bytes;
  advanced = λ coder st.
      let a = t.advanced coder st in
      advanced_more (steps v.bytes k.shape) n k k' k'' v' v'' coder a
      (subst (λ (s : BlockShape). Advanced (steps v.bytes s n) k' k'' v'' a.next) t.shape (subst (λ (bs : List ℕ). Advanced (steps bs k'.shape n) k' k'' v'' a.next) t.bytes (step a.next a.stands)));
}

pub taken_fault : (steps : List ℕ → BlockShape → ℕ → Progress → Result Progress Fault) (n m : ℕ) (k k' : Draft) (v v' : DecoderView) (e : Fault) → n < m → Taken steps n k k' v v'
    → ((coder : State) → Stands v' coder → steps v'.bytes k'.shape n (progress k' coder) ≡ Err e) → (coder : State) → Stands v coder → times m (steps v.bytes k.shape) (progress k coder) ≡ Err e
taken_fault steps n m k k' v v' e l t step coder st =
    let a = t.advanced coder st in
    times_fault (steps v.bytes k.shape) n m (progress k coder) (progress k' a.next) e l a.is
    (ap (λ (s : BlockShape). steps v.bytes s n (progress k' a.next)) (sym t.shape) ∙ ap (λ (bs : List ℕ). steps bs k'.shape n (progress k' a.next)) (sym t.bytes) ∙ step a.next a.stands)

-- the same where the bytes have another name
pub decide_ok_at : (bytes bytes' : List ℕ) (cx : ℕ) (s : State) (bit : Bool) → bytes' ≡ bytes → (let r : Result Bool Fault = Ok bit in r) ≡ answer bytes' s cx → decide bytes cx s ≡ Ok (bit, next bytes' s cx)
decide_ok_at bytes bytes' cx s bit e h = ap (λ (bs : List ℕ). decide bs cx s) (sym e) ∙ decide_ok bytes' cx s bit h

pub decide_err_at : (bytes bytes' : List ℕ) (cx : ℕ) (s : State) (f : Fault) → bytes' ≡ bytes → (let r : Result Bool Fault = Err f in r) ≡ answer bytes' s cx → decide bytes cx s ≡ Err f
decide_err_at bytes bytes' cx s f e h = ap (λ (bs : List ℕ). decide bs cx s) (sym e) ∙ decide_err bytes' cx s f h

-- a run, decision by decision
run_low : List ℕ → BlockShape → (b x i : ℕ) → Progress → Bool → State → Result Progress Fault
run_low bytes s b x i z high n = decide bytes uniform n >>= λ low. read_from bytes s b x i (row_named high low.0) (with_coder z low.1)

run_high : List ℕ → BlockShape → (b x i : ℕ) → Progress → State → Result Progress Fault
run_high bytes s b x i z n = decide bytes uniform n >>= λ high. run_low bytes s b x i z high.0 high.1

run_first : (bytes : List ℕ) (s : BlockShape) (b x i : ℕ) (z : Progress) (r : Result (Bool × State) Fault) → decide bytes run_length z.coder ≡ r → read_run bytes s b x i z ≡ (r >>= λ d. cond d.0 (run_high bytes s b x i z d.1) (done (with_coder z d.1)))
unfolding read_run run_high run_low
run_first bytes s b x i z r e = ap (λ (r : Result (Bool × State) Fault). r >>= λ d. cond d.0 (run_high bytes s b x i z d.1) (done (with_coder z d.1))) e

pub run_ends : (bytes : List ℕ) (s : BlockShape) (b x i : ℕ) (z : Progress) (bit : Bool) (n : State) → decide bytes run_length z.coder ≡ Ok (bit, n) → bit ≡ false → read_run bytes s b x i z ≡ Ok (with_coder z n)
run_ends bytes s b x i z bit n e h = run_first bytes s b x i z (done (bit, n)) e ∙ ap (λ (b' : Bool). cond b' (run_high bytes s b x i z n) (done (with_coder z n))) h

pub run_faults : (bytes : List ℕ) (s : BlockShape) (b x i : ℕ) (z : Progress) (f : Fault) → decide bytes run_length z.coder ≡ Err f → read_run bytes s b x i z ≡ Err f
unfolding fault
run_faults bytes s b x i z f e = run_first bytes s b x i z (fault f) e

run_second : (bytes : List ℕ) (s : BlockShape) (b x i : ℕ) (z : Progress) (bit : Bool) (n : State) (r : Result (Bool × State) Fault) → decide bytes run_length z.coder ≡ Ok (bit, n) → bit ≡ true → decide bytes uniform n ≡ r
    → read_run bytes s b x i z ≡ (r >>= λ high. run_low bytes s b x i z high.0 high.1)
unfolding run_high
run_second bytes s b x i z bit n r e h g =
    run_first bytes s b x i z (done (bit, n)) e ∙ ap (λ (b' : Bool). cond b' (run_high bytes s b x i z n) (done (with_coder z n))) h
    ∙ ap (λ (r : Result (Bool × State) Fault). r >>= λ high. run_low bytes s b x i z high.0 high.1) g

pub run_faults_high : (bytes : List ℕ) (s : BlockShape) (b x i : ℕ) (z : Progress) (bit : Bool) (n : State) (f : Fault) → decide bytes run_length z.coder ≡ Ok (bit, n) → bit ≡ true → decide bytes uniform n ≡ Err f → read_run bytes s b x i z ≡ Err f
unfolding fault
run_faults_high bytes s b x i z bit n f e h g = run_second bytes s b x i z bit n (fault f) e h g

run_third : (bytes : List ℕ) (s : BlockShape) (b x i : ℕ) (z : Progress) (bit high : Bool) (n m : State) (r : Result (Bool × State) Fault) → decide bytes run_length z.coder ≡ Ok (bit, n) → bit ≡ true → decide bytes uniform n ≡ Ok (high, m) → decide bytes uniform m ≡ r
    → read_run bytes s b x i z ≡ (r >>= λ low. read_from bytes s b x i (row_named high low.0) (with_coder z low.1))
unfolding run_low
run_third bytes s b x i z bit high n m r e h g k =
    run_second bytes s b x i z bit n (done (high, m)) e h g ∙ ap (λ (r : Result (Bool × State) Fault). r >>= λ low. read_from bytes s b x i (row_named high low.0) (with_coder z low.1)) k

pub run_faults_low : (bytes : List ℕ) (s : BlockShape) (b x i : ℕ) (z : Progress) (bit high : Bool) (n m : State) (f : Fault) → decide bytes run_length z.coder ≡ Ok (bit, n) → bit ≡ true → decide bytes uniform n ≡ Ok (high, m) → decide bytes uniform m ≡ Err f
    → read_run bytes s b x i z ≡ Err f
unfolding fault
run_faults_low bytes s b x i z bit high n m f e h g k = run_third bytes s b x i z bit high n m (fault f) e h g k

pub run_goes : (bytes : List ℕ) (s : BlockShape) (b x i : ℕ) (z : Progress) (bit high low : Bool) (n m o : State) → decide bytes run_length z.coder ≡ Ok (bit, n) → bit ≡ true → decide bytes uniform n ≡ Ok (high, m) → decide bytes uniform m ≡ Ok (low, o)
    → read_run bytes s b x i z ≡ read_from bytes s b x i (row_named high low) (with_coder z o)
run_goes bytes s b x i z bit high low n m o e h g k = run_third bytes s b x i z bit high n m (done (low, o)) e h g k

pub advanced_at : (f : ℕ → Progress → Result Progress Fault) (n m : ℕ) (k k' : Draft) (v' : DecoderView) (coder : State) → n ≡ m → Advanced (times n f) k k' v' coder → Advanced (times m f) k k' v' coder
advanced_at f n m k k' v' coder e a = subst (λ (n : ℕ). Advanced (times n f) k k' v' coder) e a

-- passes over the block from its start
pub from_blank : (bytes bytes' : List ℕ) (s : BlockShape) (planes passes : ℕ) (k : Draft) (r : Result Progress Fault) → bytes' ≡ bytes → k.shape ≡ s → progress k blank.coder ≡ blank
    → times passes (pass_at bytes' k.shape planes) (progress k blank.coder) ≡ r → times passes (pass_at bytes s planes) blank ≡ r
from_blank bytes bytes' s planes passes k r b h e t =
    sym (ap (λ (bs : List ℕ). times passes (pass_at bs k.shape planes) (progress k blank.coder)) b ∙ ap (λ (s : BlockShape). times passes (pass_at bytes s planes) (progress k blank.coder)) h ∙ ap (λ (z : Progress). times passes (pass_at bytes s planes) z) e) ∙ t

-- no rows are left
pub no_rows : (bytes : List ℕ) (s : BlockShape) (b x i j : ℕ) (z : Progress) → rows_at bytes s b 2 x i j 0 z ≡ Ok z
unfolding times
no_rows bytes s b x i j z = refl

-- a place that was significant before this plane
pub refined_takes : (at : WordPlace) (d : Draft) (x y : ℕ) (bytes : List ℕ) (cx : ℕ) (v v' : DecoderView) (r : Result Bool Fault) → significant_in d x y ≡ true → d.visited x y ≡ false
    → cx ≡ refine_context_of (nat_le 4 (d.magnitude x y / 2 ^ at.plane)) (touched_in d.shape (significant_in d) x y) → ((s : State) → Stands v s → r ≡ answer bytes s cx) → OnOk r ((s : State) → Stands v s → Stands v' (next bytes s cx))
    → TakesTo (place_at bytes d.shape at.plane 1 x y) d (λ bit. coded_in at.plane x y bit (d.negative x y) d) v v' r
refined_takes at d x y bytes cx v v' (Ok bit) known_significant uncoded is answers goes = λ coder st. record {
  next = next bytes coder cx;
  stands = goes coder st;
  is = next_due bytes d.shape at.plane x y (progress d coder) known_significant uncoded ∙ next_takes bytes d.shape at.plane x y (progress d coder) cx bit (next bytes coder cx) is (decide_ok bytes cx coder bit (answers coder st));
}
refined_takes at d x y bytes cx v v' (Err e) known_significant uncoded is answers goes = λ coder st.
    next_due bytes d.shape at.plane x y (progress d coder) known_significant uncoded ∙ next_faults bytes d.shape at.plane x y (progress d coder) cx e is (decide_err bytes cx coder e (answers coder st))
