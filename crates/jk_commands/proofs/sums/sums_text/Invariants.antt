use Rattle.std.proofs.Common.{◌≡◌, ◌++◌, drop}
use Rattle.std.specs.List.{flat_map}
use Rattle.std.specs.String.{string_bytes}
use Rattle.jk_commands.specs.Sums.{sum_text}
use Rattle.jk_commands.proofs.sums.sums_text.Given as goal

-- the lines so far, and those that are left
abbrev pub invariant-loop-sum : goal.invariant-loop-sum
invariant-loop-sum l = string_bytes l.text ++ flat_map sum_text (drop l.sum-index l.sums) ≡ flat_map sum_text l.sums
