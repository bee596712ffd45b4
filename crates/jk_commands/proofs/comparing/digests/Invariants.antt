use Rattle.std.proofs.Common.{◌≡◌, ℕ, List, drop}
use Rattle.std.specs.BTreeMap.{get_by_text}
use Rattle.jk_commands.specs.Sums.{or_else, digest_of}
use Rattle.jk_commands.proofs.comparing.digests.Given as goal

-- what the lines to come say counts, and then what those so far said
abbrev pub invariant-loop-sum : goal.invariant-loop-sum
invariant-loop-sum l = (n : List ℕ) → or_else (digest_of (drop l.sum-index l.sums) n) (get_by_text l.digests n) ≡ digest_of l.sums n
