-- What is answered where something is due.
use Rattle.std.proofs.Common.{◌≡◌, ◌⊎◌, inl, inr, ℕ, ℤ, List, take, Ok, Err, Result, refl, sym, ap, subst, ◌∙◌, arith}
use Rattle.std.specs.Global.{Vec}
use Rattle.std.specs.Prelude.{IfOk}
use Rattle.jk_math.specs.Answer.{Refuses, Answers}
use Rattle.jk_math.specs.Memory.{IsMemory}
use Rattle.jk_math.specs.declared.fault.Fault.{Fault}
use Rattle.jk_math.specs.declared.fault.Fault.TheVariants.{Memory}
use Rattle.jk_math.specs.Picture.{Picture}
use Rattle.jk_c.specs.Answers.{GivesPixels, GivesPixelsOrMemory, Room, HandsOut, HandsOutOrMemory, bytes_of}
use Rattle.jk_c.specs.Codes.{code_of}
use Rattle.jk_c.specs.Pixels.{ArePixels}
use Rattle.jk_c.specs.Signed.{GivesSigned, GivesSignedOrMemory, AreSignedPixels}

-- a fault that is answered is Memory, or it is due
pub refused_is : {X : Type 0} (e : Fault) (due : Result X Fault) → Refuses e due → (code_of e ≡ 1) ⊎ (due ≡ Err e)
refused_is (Memory r) due h = inl refl
refused_is e due h = inr h

-- where a value is due, nothing but Memory is refused
pub refuses_other : {X Y : Type 0} (e : Fault) (x : X) (due : Result Y Fault) → Refuses e (Ok x) → Refuses e due
refuses_other (Memory r) x due h = tt
refuses_other e x due h = absurd cc

-- no fault has the number 0
pub no_fault : (e : Fault) → code_of e ≡ 0 → ⊥
no_fault (Memory r) h = omega arith
no_fault e h = omega arith

pub memory_is : (e : Fault) → IsMemory e → code_of e ≡ 1
memory_is (Memory r) h = refl
memory_is e h = absurd h

-- what is given of an answer is what is due
pub pixels_due : (bits : ℕ) (r due : Result Picture Fault) (before after : List ℕ) (code : ℕ) → Answers (λ (p : Picture). p) r due
    → GivesPixels bits r before code after → GivesPixelsOrMemory bits due before code after
pixels_due bits (Ok p) due before after code a given = inr (subst (λ (d : Result Picture Fault). GivesPixels bits d before code after) (sym a) given)
pixels_due bits (Err e) due before after code a given = elim (refused_is e due a) [
  | inl memory ↦ inl (given.0 ∙ memory, given.1)
  | inr is ↦ inr (subst (λ (d : Result Picture Fault). GivesPixels bits d before code after) (sym is) given)
]

-- what is given without a fault is the picture
pub pixels_found : (bits : ℕ) (r : Result Picture Fault) (P : Picture → Type 0) (before after : List ℕ) (code : ℕ) → IfOk r P
    → GivesPixels bits r before code after → code ≡ 0 → (p : Picture) × P p × ArePixels p after
pixels_found bits (Ok p) P before after code has given done = elim given [
  | inl put ↦ (p, has, put.2)
  | inr misfit ↦ absurd (omega (arith, misfit.0, done))
]
pixels_found bits (Err e) P before after code has given done = absurd (no_fault e (sym given.0 ∙ done))

-- the same of signed samples
pub signed_due : (bits : ℕ) (r due : Result Picture Fault) (before after : List ℤ) (code : ℕ) → Answers (λ (p : Picture). p) r due
    → GivesSigned bits r before code after → GivesSignedOrMemory bits due before code after
signed_due bits (Ok p) due before after code a given = inr (subst (λ (d : Result Picture Fault). GivesSigned bits d before code after) (sym a) given)
signed_due bits (Err e) due before after code a given = elim (refused_is e due a) [
  | inl memory ↦ inl (given.0 ∙ memory, given.1)
  | inr is ↦ inr (subst (λ (d : Result Picture Fault). GivesSigned bits d before code after) (sym is) given)
]

pub signed_found : (bits : ℕ) (r : Result Picture Fault) (P : Picture → Type 0) (before after : List ℤ) (code : ℕ) → IfOk r P
    → GivesSigned bits r before code after → code ≡ 0 → (p : Picture) × P p × AreSignedPixels p after
signed_found bits (Ok p) P before after code has given done = elim given [
  | inl put ↦ (p, has, put.2)
  | inr misfit ↦ absurd (omega (arith, misfit.0, done))
]
signed_found bits (Err e) P before after code has given done = absurd (no_fault e (sym given.0 ∙ done))

-- the same of bytes
pub bytes_due : (r : Result (Vec ℕ) Fault) (due : Result (List ℕ) Fault) (before after : Room) (code : ℕ) → Answers (λ (v : Vec ℕ). v.items) r due
    → HandsOut (bytes_of r) before code after → HandsOutOrMemory due before code after
bytes_due (Ok v) due before after code a given = inr (subst (λ (d : Result (List ℕ) Fault). HandsOut d before code after) (sym a) given)
bytes_due (Err e) due before after code a given = elim (refused_is e due a) [
  | inl memory ↦ inl (given.0 ∙ memory, given.1)
  | inr is ↦ inr (subst (λ (d : Result (List ℕ) Fault). HandsOut d before code after) (sym is) given)
]

pub bytes_found : (r : Result (Vec ℕ) Fault) (P : List ℕ → Type 0) (before after : Room) (code : ℕ) → IfOk r (λ v. P v.items)
    → HandsOut (bytes_of r) before code after → code ≡ 0 → P (take after.length after.bytes)
bytes_found (Ok v) P before after code has given done = elim given.1 [
  | inl put ↦ subst P (sym (ap (λ n. take n after.bytes) given.0 ∙ put.1)) has
  | inr short ↦ absurd (omega (arith, short.0, done))
]
bytes_found (Err e) P before after code has given done = absurd (no_fault e (sym given.0 ∙ done))
