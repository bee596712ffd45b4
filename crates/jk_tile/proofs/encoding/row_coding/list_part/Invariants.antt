use Rattle.jk_tile.specs.encoding.Ahead.{AreUncoded}
use Rattle.jk_tile.proofs.encoding.row_coding.list_part.Given as goal

abbrev pub invariant-loop-k : goal.invariant-loop-k
invariant-loop-k l = AreUncoded l.uncoded
