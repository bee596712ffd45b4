use Rattle.std.proofs.Common.{◌≡◌, ◌++◌, drop}
use Rattle.std.specs.List.{flat_map}
use Rattle.std.specs.String.{string_bytes}
use Rattle.jk_commands.specs.Sums.{difference_text}
use Rattle.jk_commands.proofs.comparing.differences_text.Given as goal

-- the lines so far, and those that are left
abbrev pub invariant-loop-difference : goal.invariant-loop-difference
invariant-loop-difference l = string_bytes l.text ++ flat_map difference_text (drop l.difference-index l.differences) ≡ flat_map difference_text l.differences
