-- Laws of the steps that read and may refuse, for proofs about functions written with `◌>>=◌`.
use Rattle.std.specs.Prelude.{◌≡◌, Bool, true, false, cond, Result, Ok, Err, IfOk, refl}
use Rattle.std.proofs.Common.{◌⊎◌, inl, inr, subst, sym}
use Rattle.jk_math.specs.declared.fault.Fault.{Fault}
use Rattle.jk_math.specs.declared.fault.Fault.TheVariants.{Memory}
use Rattle.jk_math.specs.Answer.{◌>>=◌, refuse, Refuses, Answers, AnswersExactly}

-- what a value answers to answers to what follows from it
pub if_ok : {E A : Type 0} {P Q : A → Type 0} (r : Result A E) → ((x : A) → P x → Q x) → IfOk r P → IfOk r Q
if_ok (Ok x) h p = h x p
if_ok (Err e) h p = tt

-- goes on with the value of a step that did not fail
pub bind_then : {A B C : Type 0} (r : Result A Fault) (f : A → Result B Fault) (y : B) → (r >>= f) ≡ Ok y
    → ((x : A) → r ≡ Ok x → f x ≡ Ok y → C) → C
bind_then (Ok x) f y e go = go x refl e
bind_then (Err d) f y e go = absurd cc

-- goes on behind a test that did not refuse
pub refuse_then : {B C : Type 0} (b : Bool) (d : Fault) (f : Unit {0} → Result B Fault) (y : B)
    → (refuse b d >>= f) ≡ Ok y → (b ≡ false → f tt ≡ Ok y → C) → C
refuse_then true d f y e go = absurd cc
refuse_then false d f y e go = go refl e

-- a value behind a test that did not refuse
pub guarded : {A : Type 0} (b : Bool) (d : Fault) (r : Result A Fault) (y : A) → cond b (Err d) r ≡ Ok y
    → (b ≡ false) × (r ≡ Ok y)
guarded true d r y e = absurd cc
guarded false d r y e = (refl, e)

-- a value in front of a fault
pub guard_ended : {A : Type 0} (b : Bool) (d : Fault) (x y : A) → cond b (Ok x) (Err d) ≡ Ok y → (b ≡ true) × (x ≡ y)
guard_ended true d x y e = (refl, cc)
guard_ended false d x y e = absurd cc

-- which of two it is
pub chosen : {A : Type 0} (b : Bool) (x y z : A) → cond b x y ≡ z → ((b ≡ true) × (x ≡ z)) ⊎ ((b ≡ false) × (y ≡ z))
chosen true x y z e = inl (refl, e)
chosen false x y z e = inr (refl, e)

-- an answer that is Ok
abbrev pub done : {A : Type 0} → A → Result A Fault
done x = Ok x

pub ok_is : {A : Type 0} (x y : A) → done x ≡ done y → x ≡ y
ok_is x y e = cc

-- what holds of the value of an Ok
pub if_ok_from : {A : Type 0} (r : Result A Fault) (P : A → Type 0) → ((x : A) → r ≡ Ok x → P x) → IfOk r P
if_ok_from (Ok x) P h = h x refl
if_ok_from (Err d) P h = tt

-- what holds of the value of an Ok, where the answer is that of a function or Memory
pub if_ok_answers : {X Y : Type 0} (view : X → Y) (r : Result X Fault) (due : Result Y Fault) (P : X → Type 0)
    → Answers view r due → ((x : X) → due ≡ Ok (view x) → P x) → IfOk r P
if_ok_answers view (Ok x) due P a h = h x a
if_ok_answers view (Err d) due P a h = tt

-- an answer to what is due is an answer to what that equals
pub answers_same : {X Y : Type 0} (view : X → Y) (r : Result X Fault) (due again : Result Y Fault) → Answers view r due
    → due ≡ again → Answers view r again
answers_same {X} {Y} view r due again a e = subst (λ (d : Result Y Fault). Answers view r d) e a

-- the same where the answer is exactly that of a function
pub if_ok_exactly : {X Y : Type 0} (view : X → Y) (r : Result X Fault) (due : Result Y Fault) (P : X → Type 0)
    → AnswersExactly view r due → ((x : X) → due ≡ Ok (view x) → P x) → IfOk r P
if_ok_exactly view (Ok x) due P a h = h x a
if_ok_exactly view (Err d) due P a h = tt

pub exactly_same : {X Y : Type 0} (view : X → Y) (r : Result X Fault) (due again : Result Y Fault)
    → AnswersExactly view r due → due ≡ again → AnswersExactly view r again
exactly_same {X} {Y} view r due again a e = subst (λ (d : Result Y Fault). AnswersExactly view r d) e a

-- a fault that is due is refused
pub refuses_due : {A : Type 0} (e : Fault) (due : Result A Fault) → due ≡ Err e → Refuses e due
refuses_due (Memory r) due h = tt
refuses_due e due h = h

-- what is due is an answer
pub answers_due : {X Y : Type 0} (view : X → Y) (r : Result X Fault) (x : X) → r ≡ Ok x → Answers view r (Ok (view x))
answers_due view (Ok y) x e = cc
answers_due view (Err d) x e = absurd cc

pub answers_exactly : {X : Type 0} (r due : Result X Fault) → r ≡ due → Answers (λ x. x) r due
answers_exactly (Ok x) due e = sym e
answers_exactly (Err d) due e = refuses_due d due (sym e)
