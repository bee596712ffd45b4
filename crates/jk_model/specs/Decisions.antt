-- The decisions that the bytes of a segment spell (T.800 C.1.1, C.3.2): the recursive division of
-- an interval, with whole numbers that have no bound.
use Rattle.std.specs.Prelude.{◌≡◌, ℕ, zero, suc, ◌+◌, ◌-◌, ◌*◌, ◌^◌, ◌<◌, Bool, not, List, [], ◌∷◌, ◌++◌, get_or, set}
use Rattle.std.specs.Prelude.{nat_lt, if◌then◌else◌}
use Rattle.std.specs.Bool.{beq}
use Rattle.jk_model.specs.Contexts.{Context, row_of, moved, begins, first_contexts}
use Rattle.jk_model.specs.Code.{code_value}

-- The interval from low, of size width, after this many doublings, and the contexts as they are
-- then.
pub record State : Type 0 where
  pub low : ℕ
  pub width : ℕ
  pub doublings : ℕ
  pub contexts : List Context

-- at the start (T.800 C.3.5)
abbrev pub initial : State
initial = record { low = 0; width = 2 ^ 15; doublings = 0; contexts = first_contexts }

-- a decision: the number of its context, and its bit
abbrev pub Decision : Type 0
Decision = ℕ × Bool

-- the code value lies below the upper end of the interval
abbrev pub IsInInterval : List ℕ → State → Type 0
IsInInterval bytes s = code_value bytes s.doublings < 128 * (s.low + s.width)

abbrev pub is_within : List ℕ → State → Bool
is_within bytes s = nat_lt (code_value bytes s.doublings) (128 * (s.low + s.width))

-- the context of a number
abbrev pub context_at : State → ℕ → Context
context_at s cx = get_or s.contexts cx (begins 0)

-- the size of the lower subinterval in a context, Qe
abbrev pub qe_at : State → ℕ → ℕ
qe_at s cx = (row_of (context_at s cx).state).qe

-- the code value lies in the lower subinterval
unfoldable pub is_lower : List ℕ → State → ℕ → Bool
is_lower bytes s cx = nat_lt (code_value bytes s.doublings) (128 * (s.low + qe_at s cx))

-- The lower subinterval stands for the more probable symbol where the upper one is the smaller of
-- the two (the conditional exchange, T.800 C.2.4 and C.3.2).
unfoldable pub is_exchanged : State → ℕ → Bool
is_exchanged s cx = nat_lt (s.width - qe_at s cx) (qe_at s cx)

-- The bit of the decision: the subinterval that the code value lies in stands for the more or for
-- the less probable symbol.
unfoldable pub bit_at : List ℕ → State → ℕ → Bool
bit_at bytes s cx =
    let mps = (context_at s cx).mps in
    if beq (is_lower bytes s cx) (is_exchanged s cx) then mps else not mps

-- the subinterval that the code value lies in
unfoldable pub divided : List ℕ → State → ℕ → State
divided bytes s cx =
    if is_lower bytes s cx
    then record s { width = qe_at s cx }
    else record s { low = s.low + qe_at s cx; width = s.width - qe_at s cx }

-- the interval in units half as large
abbrev pub doubled : State → State
doubled s = record s { low = 2 * s.low; width = 2 * s.width; doublings = s.doublings + 1 }

-- s after so many doublings
abbrev pub doubled_by : ℕ → State → State
doubled_by zero s = s
doubled_by (suc n) s = doubled_by n (doubled s)

-- Doubled as long as the width is below 2^15 (T.800 C.3.3, RENORMD), up to k times. The width isn't
-- 0, so 15 times are enough.
unfoldable pub renormalised : ℕ → State → State
renormalised zero s = s
renormalised (suc k) s = if nat_lt s.width (2 ^ 15) then renormalised k (doubled s) else s

-- the context moves where the division has left less than 2^15
unfoldable pub contexts_after : List ℕ → State → ℕ → List Context
contexts_after bytes s cx =
    if nat_lt (divided bytes s cx).width (2 ^ 15)
    then set s.contexts cx (moved (context_at s cx) (bit_at bytes s cx))
    else s.contexts

-- the state after the decision in a context
unfoldable pub after : List ℕ → State → ℕ → State
after bytes s cx = renormalised 15 (record (divided bytes s cx) { contexts = contexts_after bytes s cx })

-- the state after these decisions
abbrev pub state_after : List ℕ → State → List Decision → State
state_after bytes s [] = s
state_after bytes s (d ∷ ds) = state_after bytes (after bytes s d.0) ds

-- From the state s on, the bytes spell these decisions: each has its bit, and the code value lies
-- within the interval before the first of them and after each.
abbrev pub SpellsFrom : List ℕ → State → List Decision → Type 0
SpellsFrom bytes s [] = Unit {0}
SpellsFrom bytes s (d ∷ ds) =
    IsInInterval bytes s × (bit_at bytes s d.0 ≡ d.1) × IsInInterval bytes (after bytes s d.0)
    × SpellsFrom bytes (after bytes s d.0) ds

-- the bytes spell these decisions
abbrev pub Spells : List ℕ → List Decision → Type 0
Spells bytes ds = SpellsFrom bytes initial ds

-- Decisions with these bits, where the number of each context is chosen by the bits before it.
abbrev pub chosen : (List Bool → ℕ) → List Bool → List Bool → List Decision
chosen choose before [] = []
chosen choose before (bit ∷ bits) = (choose before, bit) ∷ chosen choose (before ++ bit ∷ []) bits
