use Rattle.jk_tile.specs.encoding.Ahead.{AreUncoded}
use Rattle.jk_tile.proofs.encoding.falling_tile.FallingTile.list_waiting.Given as goal

abbrev pub invariant-loop-c : goal.invariant-loop-c
invariant-loop-c l = AreUncoded l.uncoded
