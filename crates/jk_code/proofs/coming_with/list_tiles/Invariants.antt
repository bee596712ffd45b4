use Rattle.jk_tile.specs.encoding.Ahead.{AreUncoded}
use Rattle.jk_code.proofs.coming_with.list_tiles.Given as goal

abbrev pub invariant-loop-k : goal.invariant-loop-k
invariant-loop-k l = AreUncoded l.uncoded
