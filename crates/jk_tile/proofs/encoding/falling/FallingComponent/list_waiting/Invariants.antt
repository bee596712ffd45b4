use Rattle.jk_tile.specs.encoding.Ahead.{AreUncoded}
use Rattle.jk_tile.proofs.encoding.falling.FallingComponent.list_waiting.Given as goal

abbrev pub invariant-loop-b : goal.invariant-loop-b
invariant-loop-b l = AreUncoded l.uncoded
