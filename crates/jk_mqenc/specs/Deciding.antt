-- Decisions, as the encoder codes them.
use Rattle.std.specs.Prelude.{ℕ, Bool, ◌+◌, ◌*◌, ◌^◌, ◌<◌, ◌≤◌, List, [], ◌∷◌}
use Rattle.jk_model.specs.Code.{code_value}
use Rattle.jk_model.specs.Decisions.{State, Decision, context_at, qe_at}
use Rattle.jk_model.specs.Deciding.{takes_lower, decided, state_by}
use Rattle.jk_model.specs.CodingPasses.{begun_by}
use Rattle.jk_mqenc.specs.Machine.{Machine}
use Rattle.jk_mqenc.specs.Coding.{subinterval, renorme}

-- the registers after a decision
abbrev pub machine_decided : Machine → State → Decision → Machine
machine_decided m s d = renorme 15 (subinterval m (qe_at s d.0) (takes_lower s d.0 d.1))

abbrev pub machine_by : Machine → State → List Decision → Machine
machine_by m s [] = m
machine_by m s (d ∷ ds) = machine_by (machine_decided m s d) (decided s d) ds

-- the registers after the decisions of these passes
abbrev pub machine_by_passes : (reset : Bool) → Machine → State → List (List Decision) → Machine
machine_by_passes reset m s [] = m
machine_by_passes reset m s (ds ∷ dss) =
    machine_by_passes reset (machine_by m (begun_by reset s) ds) (state_by (begun_by reset s) ds) dss

-- the bytes name a code value within the interval
pub record Closed (bytes : List ℕ) (t : State) : Type 0 where
  pub least : 128 * t.low ≤ code_value bytes t.doublings
  pub below : code_value bytes t.doublings < 128 * (t.low + t.width)

-- the registers and the interval between two decisions
pub record Between (m : Machine) (s : State) : Type 0 where
  pub count : 1 ≤ m.count
  pub wide : 2 ^ 15 ≤ s.width
  pub states : (cx : ℕ) → (context_at s cx).state < 47
