use Rattle.std.proofs.Common.{◌≡◌, ◌++◌, take}
use Rattle.std.specs.String.{string_bytes}
use Rattle.jk_commands.specs.AllLines.{precincts_text}
use Rattle.jk_commands.proofs.coding_values.put_precincts.Given as goal

abbrev pub invariant-loop-width : goal.invariant-loop-width
invariant-loop-width l = string_bytes l.values ≡ string_bytes l.fn.values ++ precincts_text (take l.width-index l.sizes)
