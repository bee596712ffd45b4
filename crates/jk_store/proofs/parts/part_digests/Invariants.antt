use Rattle.std.proofs.Common.{◌≡◌, ◌*◌}
use Rattle.jk_store.specs.Parts.{first_digests}
use Rattle.jk_store.proofs.parts.part_digests.Given as goal

-- the digests of the parts so far, four at a time
abbrev pub invariant-loop-four : goal.invariant-loop-four
invariant-loop-four l = l.digests.items ≡ first_digests (4 * l.four) l.bytes

-- the digests of the parts so far
abbrev pub invariant-loop-number : goal.invariant-loop-number
invariant-loop-number l = l.digests.items ≡ first_digests l.number l.bytes
