-- The contexts of a coder as numbers, and the table of their moves.
use Rattle.std.specs.Prelude.{◌≡◌, ℕ, ◌+◌, ◌*◌, ◌/◌, ◌%◌, ◌^◌, ◌<◌, ◌==◌, true, false, not, if◌then◌else◌, List, []}
use Rattle.std.specs.Prelude.{◌∷◌}
use Rattle.std.specs.List.{flat_map, range_with_len}
use Rattle.jk_model.specs.Contexts.{Context, row_of, moved}

-- the entry of a context: Qe in the upper fifteen bits, the more probable symbol in bit 31, and the
-- place of its row in the lower sixteen bits
abbrev pub context_number : Context → ℕ
context_number c = (row_of c.state).qe * 2 ^ 49 + (6 * c.state + (if c.mps then 2 ^ 31 + 3 else 0))

-- the context of an entry
abbrev pub context_of : ℕ → Context
context_of e = record { state = e % 2 ^ 16 / 6; mps = e / 2 ^ 31 % 2 == 1 }

-- a number is the entry of a context
pub record IsEntry (e : ℕ) : Type 0 where
  pub same : e ≡ context_number (context_of e)
  pub state : (context_of e).state < 47

-- the row of a context: as it is, after a more probable symbol, after a less probable one
abbrev pub moves_of : Context → List ℕ
moves_of c = context_number c ∷ context_number (moved c c.mps) ∷ context_number (moved c (not c.mps)) ∷ []

-- the contexts of a state
abbrev pub contexts_of : ℕ → List Context
contexts_of state = record { state = state; mps = false } ∷ record { state = state; mps = true } ∷ []

-- the table
unfoldable pub steps : List ℕ
steps = flat_map moves_of (flat_map contexts_of (range_with_len 0 47))
