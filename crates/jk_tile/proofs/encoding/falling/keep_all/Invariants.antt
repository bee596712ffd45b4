use Rattle.std.proofs.Common.{◌≡◌, ◌++◌, map}
use Rattle.jk_tile.specs.encoding.FallenComponents.{fallen_band}
use Rattle.jk_tile.proofs.encoding.falling.keep_all.Given as goal

abbrev pub invariant-loop-strips : goal.invariant-loop-strips
invariant-loop-strips l = l.bands.items ++ map fallen_band l.strips-iterator.rest.items ≡ map fallen_band l.fn.all.items
