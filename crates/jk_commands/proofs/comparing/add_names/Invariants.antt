use Rattle.std.proofs.Common.{◌≡◌, ◌||◌, ℕ, List, drop}
use Rattle.std.specs.Option.{is_some}
use Rattle.std.specs.BTreeSet.{contains_text}
use Rattle.jk_commands.specs.Sums.{digest_of}
use Rattle.jk_commands.proofs.comparing.add_names.Given as goal

-- the names of the lines to come, and those so far
abbrev pub invariant-loop-sum : goal.invariant-loop-sum
invariant-loop-sum l = (n : List ℕ) → (is_some (digest_of (drop l.sum-index l.sums) n) || contains_text l.names n) ≡ (is_some (digest_of l.sums n) || contains_text l.initial.names n)
