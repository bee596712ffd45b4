use Rattle.std.proofs.Common.{◌≡◌, ◌+◌, ◌==◌}
use Rattle.std.specs.List.{count_by}
use Rattle.std.specs.String.{string_bytes}
use Rattle.jk_commands.specs.AllLines.{marker_value}
use Rattle.jk_commands.specs.Values.{texts_below}
use Rattle.jk_commands.proofs.telling_all.passed_values.Given as goal

abbrev pub invariant-loop-number : goal.invariant-loop-number
invariant-loop-number l = string_bytes l.values ≡ texts_below (λ k. marker_value (0xFF00 + k) (count_by (λ j. j == 0xFF00 + k) l.markers)) l.number
