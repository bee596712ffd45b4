use Rattle.jk_tile.specs.encoding.Ahead.{AreUncoded}
use Rattle.jk_tile.proofs.encoding.strips.BandStrips.list_waiting.Given as goal

abbrev pub invariant-loop-index : goal.invariant-loop-index
invariant-loop-index l = AreUncoded l.uncoded
