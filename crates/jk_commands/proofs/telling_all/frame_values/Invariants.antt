use Rattle.std.proofs.Common.{◌≡◌}
use Rattle.std.specs.String.{string_bytes}
use Rattle.jk_window.specs.Views.{frame_of}
use Rattle.jk_commands.specs.AllLines.{frame_value}
use Rattle.jk_commands.specs.Values.{texts_below}
use Rattle.jk_commands.proofs.telling_all.frame_values.Given as goal

abbrev pub invariant-loop-reduce : goal.invariant-loop-reduce
invariant-loop-reduce l = string_bytes l.values ≡ texts_below (λ d. frame_value (frame_of l.headers d)) l.reduce
