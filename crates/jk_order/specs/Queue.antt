-- The streams by the ranks of their next packets.
use Rattle.std.specs.Prelude.{◌≡◌, ℕ, ◌<◌, ◌≤◌, nat_lt, if◌then◌else◌, List, [], ◌∷◌, slice_index, Contains}
use Rattle.std.specs.List.{AllByRecursion}
use Rattle.jk_order.specs.Streams.{finished}

-- stream j is another one than i, and its next packet doesn't come before that of i
abbrev pub Follows : List ℕ → (i j : ℕ) → Type 0
Follows heads i j = (j ≡ i → ⊥) × (slice_index heads i ≤ slice_index heads j)

-- all streams behind one follow it
abbrev pub Ascends : List ℕ → List ℕ → Type 0
Ascends heads [] = Unit {0}
Ascends heads (i ∷ is) = AllByRecursion (Follows heads i) is × Ascends heads is

-- a stream put behind those whose next packets come before its own
unfoldable pub queued : List ℕ → ℕ → List ℕ → List ℕ
queued heads i [] = i ∷ []
queued heads i (j ∷ js) =
    if nat_lt (slice_index heads j) (slice_index heads i) then j ∷ queued heads i js else i ∷ j ∷ js

-- The streams from a number on that have a next packet, each once, by the ranks of these; and
-- behind them maybe some that have none.
pub record IsQueue (low : ℕ) (heads queue : List ℕ) : Type 0 where
  pub ascending : Ascends heads queue
  pub members : (i : ℕ) → Contains queue i → (low ≤ i) × (i < 44)
  pub all : (i : ℕ) → low ≤ i → i < 44 → slice_index heads i < finished → Contains queue i
