use Rattle.std.proofs.Common.{◌≡◌, ℕ, ◌<◌}
use Rattle.sha2.specs.Sha256.{hash_after, initial_hash_256}
use Rattle.jk_digest.specs.Schedules.{one_of}
use Rattle.jk_digest.specs.Lanes.{AreFours, lane}
use Rattle.jk_digest.proofs.lanes.absorbed.Given as goal

-- the blocks before
abbrev pub invariant-loop-n : goal.invariant-loop-n
invariant-loop-n l = AreFours l.hash × ((k : ℕ) → k < 4 → lane l.hash k ≡ hash_after initial_hash_256 (one_of l.a l.b l.c l.d k) l.n)
