use Rattle.std.proofs.Common.{ℕ, ◌*◌, List}
use Rattle.jk_digest.specs.Schedules.{HasColumn}
use Rattle.jk_digest.specs.Rounds.{IsBehind}
use Rattle.jk_digest.proofs.rounds.compressed.Given as goal

-- the rounds before
abbrev pub invariant-loop-eight : goal.invariant-loop-eight
invariant-loop-eight l = (b : List ℕ) → HasColumn b l.words l.k → IsBehind l.hash b (8 * l.eight) l.variables
