-- What is handed out of a file that is given what boxes say.
use Rattle.std.proofs.Common.{◌≡◌, inl, inr, ℕ, List, Err, Result, refl, subst, ◌∙◌}
use Rattle.std.specs.Prelude.{◌⊎◌}
use Rattle.std.specs.Global.{Vec}
use Rattle.jk_math.specs.Answer.{Refuses}
use Rattle.jk_math.specs.Memory.{IsMemory}
use Rattle.jk_math.specs.declared.fault.Fault.{Fault}
use Rattle.jk_math.specs.declared.fault.Fault.TheVariants.{Memory}
use Rattle.jk_extras.specs.Boxed.{Plain, extras_read}
use Rattle.jk_extras.specs.Placing.{with_extras_at}
use Rattle.jk_c.specs.Answers.{Room, HandsOut, bytes_of}
use Rattle.jk_c.specs.Keeping.{GivesKept, IsFileGiven}
use Rattle.jk_c.proofs.Answering.{memory_is, bytes_due}

refused_by : (e : Fault) (due : Result Plain Fault) → Refuses e due → IsMemory e ⊎ (due ≡ Err e)
refused_by (Memory r) due h = inl tt
refused_by e due h = inr h

-- boxes that aren't read
pub not_given : (boxes file : List ℕ) (e : Fault) → Refuses e (extras_read boxes) → IsFileGiven boxes file (Err e)
not_given boxes file e h = elim (refused_by e (extras_read boxes) h) [
  | inl memory ↦ inl (e, refl, memory)
  | inr due ↦ inr (inl (e, refl, due))
]

pub kept_given : (boxes file : List ℕ) (made : Result (Vec ℕ) Fault) (before after : Room) (code : ℕ) → IsFileGiven boxes file made
    → HandsOut (bytes_of made) before code after → GivesKept boxes file before code after
kept_given boxes file made before after code given out = elim given [
  | inl memory ↦
      let o = subst (λ (r : Result (Vec ℕ) Fault). HandsOut (bytes_of r) before code after) memory.1 out in
      inl (o.0 ∙ memory_is memory.0 memory.2, o.1)
  | inr rest ↦ elim rest [
    | inl due ↦ inr (inl (due.0, due.2, subst (λ (r : Result (Vec ℕ) Fault). HandsOut (bytes_of r) before code after) due.1 out))
    | inr is ↦ inr (inr (record { extras = is.0; says = is.1; handed = bytes_due made (with_extras_at is.0 file) before after code is.2 out }))
  ]
]
