use Rattle.jk_tile.specs.encoding.Ahead.{AreUncoded}
use Rattle.jk_tile.proofs.encoding.row_coding.list_strip.Given as goal

abbrev pub invariant-loop-n : goal.invariant-loop-n
invariant-loop-n l = AreUncoded l.uncoded
