use Rattle.std.proofs.Common.{◌≡◌, ℕ, List, Result, Ok, Err, MatchResult, IfOk, refl, sym, subst}
use Rattle.std.specs.Global.{Vec}
use Rattle.jk_math.specs.Memory.{IsMemory}
use Rattle.jk_math.specs.declared.fault.Fault.{Fault}
use Rattle.jk_window.specs.Planning.{IsPlanned}
use Rattle.jk_window.proofs.cutting.cut.Goals as goal

-- what holds of a text holds of what was made of it
of_made : {text : List ℕ} (P : List ℕ → Type 0) (result : Result (Vec ℕ) Fault) → P text
    → MatchResult result (λ (v : Vec ℕ). v.items ≡ text) IsMemory → IfOk result (λ (v : Vec ℕ). P v.items)
of_made P (Ok v) holds is = subst P (sym is) holds
of_made P (Err e) holds is = tt

pub returns-clause-planned : goal.returns-clause-planned
returns-clause-planned c =
    of_made (IsPlanned c.args.bytes.now c.args.index.now c.args.view) c.make.result
    (c.in_ok-plan.plan, c.in_ok-plan.ensures.exact, refl) c.make.ensures
