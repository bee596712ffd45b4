-- The decisions of a code-block pass by pass. With context reset (T.800 table A.19) the contexts
-- take their first states again before each coding pass; the interval goes on.
use Rattle.std.specs.Prelude.{ℕ, Bool, List, [], ◌∷◌, ◌++◌, if◌then◌else◌}
use Rattle.jk_model.specs.Contexts.{first_contexts}
use Rattle.jk_model.specs.Decisions.{State, Decision, initial, state_after, SpellsFrom, chosen}
use Rattle.jk_model.specs.Deciding.{state_by}

-- the contexts as they are at the start of a code-block
abbrev pub restarted : State → State
restarted s = record s { contexts = first_contexts }

-- a pass begins
abbrev pub begun_by : (reset : Bool) → State → State
begun_by reset s = if reset then restarted s else s

-- the state after the decisions of these passes
abbrev pub state_after_passes : (reset : Bool) → List ℕ → State → List (List Decision) → State
state_after_passes reset bytes s [] = s
state_after_passes reset bytes s (ds ∷ dss) =
    state_after_passes reset bytes (state_after bytes (begun_by reset s) ds) dss

-- From the state s on, the bytes spell the decisions of these passes.
abbrev pub SpellsPassesFrom : (reset : Bool) → List ℕ → State → List (List Decision) → Type 0
SpellsPassesFrom reset bytes s [] = Unit {0}
SpellsPassesFrom reset bytes s (ds ∷ dss) =
    SpellsFrom bytes (begun_by reset s) ds
    × SpellsPassesFrom reset bytes (state_after bytes (begun_by reset s) ds) dss

-- the bytes spell the decisions of these passes
abbrev pub SpellsPasses : (reset : Bool) → List ℕ → List (List Decision) → Type 0
SpellsPasses reset bytes dss = SpellsPassesFrom reset bytes initial dss

-- the state that these decisions lead to, with no bytes
abbrev pub state_by_passes : (reset : Bool) → State → List (List Decision) → State
state_by_passes reset s [] = s
state_by_passes reset s (ds ∷ dss) = state_by_passes reset (state_by (begun_by reset s) ds) dss

-- Passes with these bits, where the number of each context is chosen by the passes before its own
-- and by the bits before it.
abbrev pub chosen_passes : (List (List Bool) → List Bool → ℕ) → List (List Bool) → List (List Bool)
    → List (List Decision)
chosen_passes choose before [] = []
chosen_passes choose before (bits ∷ more) =
    chosen (choose before) [] bits ∷ chosen_passes choose (before ++ bits ∷ []) more
