use Rattle.std.proofs.Common.{ℕ, ◌*◌, List}
use Rattle.jk_digest.specs.Schedules.{HasWords}
use Rattle.jk_digest.specs.Lanes.{AreBehind, AreFours, lane}
use Rattle.jk_digest.proofs.lanes.compressed.Given as goal

-- the rounds before
abbrev pub invariant-loop-eight : goal.invariant-loop-eight
invariant-loop-eight l = AreFours l.v × ((b : ℕ → List ℕ) → HasWords b l.words 64 → AreBehind (lane l.hash) b (8 * l.eight) l.v)
