-- What was appended stands behind what was there.
use Rattle.std.proofs.Common.{◌≡◌, ℕ, List, [], ◌++◌, sym, ap, ◌∙◌, append_assoc}
use Rattle.std.proofs.lemmas.List.{append-nil}
use Rattle.std.specs.Prelude.{Result, Ok, Err, OnOk}
use Rattle.jk_math.specs.declared.fault.Fault.{Fault}
use Rattle.jk_math.specs.Front.{IsFront}

pub front_same : (a b : List ℕ) → b ≡ a → IsFront a b
front_same a b e = record { more = []; text = e ∙ sym (append-nil a) }

pub front_more : (a t b : List ℕ) → b ≡ a ++ t → IsFront a b
front_more a t b e = record { more = t; text = e }

pub front_then : {a b c : List ℕ} → IsFront a b → IsFront b c → IsFront a c
front_then {a} {b} {c} f g = record { more = f.more ++ g.more; text = g.text ∙ ap (λ (x : List ℕ). x ++ g.more) f.text ∙ append_assoc a f.more g.more }

-- what holds of itself holds where a call succeeds
pub on_ok_always : {A : Type 0} {P : Type 0} (r : Result A Fault) → P → OnOk r P
on_ok_always (Ok x) h = h
on_ok_always (Err e) h = tt
