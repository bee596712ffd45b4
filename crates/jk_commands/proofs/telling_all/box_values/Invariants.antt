use Rattle.std.proofs.Common.{◌≡◌, take}
use Rattle.std.specs.String.{string_bytes}
use Rattle.jk_commands.specs.AllLines.{box_values}
use Rattle.jk_commands.proofs.telling_all.box_values.Given as goal

abbrev pub invariant-loop-kind : goal.invariant-loop-kind
invariant-loop-kind l = string_bytes l.values ≡ box_values (take l.kind-index l.kind-items)
