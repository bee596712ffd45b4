use Rattle.std.proofs.Common.{◌≡◌}
use Rattle.sha2.specs.Sha256.{hash_after}
use Rattle.jk_digest.proofs.blocks.absorbed.Given as goal

-- the blocks before
abbrev pub invariant-loop-k : goal.invariant-loop-k
invariant-loop-k l = l.hash ≡ hash_after l.fn.hash l.blocks l.k
