use Rattle.std.proofs.Common.{drop}
use Rattle.jk_window.specs.Packing.{AreTouching}
use Rattle.jk_window.proofs.packing.are_touching.Given as goal

abbrev pub invariant-loop-entry : goal.invariant-loop-entry
invariant-loop-entry l = AreTouching l.at (drop l.entry-index l.piece) → AreTouching l.base l.piece
