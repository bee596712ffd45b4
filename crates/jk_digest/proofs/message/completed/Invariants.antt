use Rattle.std.proofs.Common.{◌≡◌, ◌+◌, ◌*◌}
use Rattle.sha2.specs.Sha256.{hash_after, initial_hash_256}
use Rattle.jk_digest.proofs.message.completed.Given as goal

-- the blocks before
abbrev pub invariant-loop-four : goal.invariant-loop-four
invariant-loop-four l = l.hash ≡ hash_after initial_hash_256 l.message (l.done + 4 * l.four)
