-- The states that decisions lead to, with no bytes: each takes the subinterval that stands for its
-- bit.
use Rattle.std.specs.Prelude.{◌≡◌, ℕ, ◌+◌, ◌-◌, ◌^◌, Bool, List, [], ◌∷◌, set, nat_lt, if◌then◌else◌}
use Rattle.std.specs.Bool.{beq}
use Rattle.jk_model.specs.Code.{byte_at}
use Rattle.jk_model.specs.Contexts.{moved}
use Rattle.jk_model.specs.Decisions.{State, Decision, context_at, qe_at, is_exchanged, is_lower, renormalised, IsInInterval}

-- the lower subinterval stands for the bit
unfoldable pub takes_lower : State → ℕ → Bool → Bool
takes_lower s cx bit = beq (beq bit (context_at s cx).mps) (is_exchanged s cx)

-- the lower or the upper subinterval
unfoldable pub taken : State → ℕ → Bool → State
taken s cx lower =
    if lower
    then record s { width = qe_at s cx }
    else record s { low = s.low + qe_at s cx; width = s.width - qe_at s cx }

-- that subinterval, the context moved by the bit where less than 2^15 is left
unfoldable pub contexts_taken : State → ℕ → Bool → Bool → State
contexts_taken s cx lower bit =
    let t = taken s cx lower in
    record t {
      contexts = if nat_lt t.width (2 ^ 15) then set s.contexts cx (moved (context_at s cx) bit) else s.contexts;
    }

unfoldable pub made : State → ℕ → Bool → Bool → State
made s cx lower bit = renormalised 15 (contexts_taken s cx lower bit)

-- the state after a decision
abbrev pub decided : State → Decision → State
decided s d = made s d.0 (takes_lower s d.0 d.1) d.1

-- the state after these decisions
abbrev pub state_by : State → List Decision → State
state_by s [] = s
state_by s (d ∷ ds) = state_by (decided s d) ds

-- The code value lies within the interval before each decision and after it, and in the subinterval
-- that stands for its bit.
abbrev pub Follows : List ℕ → State → List Decision → Type 0
Follows bytes s [] = Unit {0}
Follows bytes s (d ∷ ds) =
    IsInInterval bytes s × (is_lower bytes s d.0 ≡ takes_lower s d.0 d.1) × IsInInterval bytes (decided s d)
    × Follows bytes (decided s d) ds

-- bytes that read alike: past the end of both stand bytes FF
abbrev pub Alike : List ℕ → List ℕ → Type 0
Alike a b = (i : ℕ) → byte_at a i ≡ byte_at b i
