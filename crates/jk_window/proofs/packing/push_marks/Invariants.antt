use Rattle.std.proofs.Common.{◌≡◌, ◌∷◌, ◌++◌, map, take}
use Rattle.jk_window.specs.Packing.{mark_of}
use Rattle.jk_window.proofs.packing.push_marks.Given as goal

abbrev pub invariant-loop-entry : goal.invariant-loop-entry
invariant-loop-entry l = l.marks.items ≡ l.fn.marks.items ++ (0 ∷ map (mark_of l.base) (take l.entry-index l.piece))
