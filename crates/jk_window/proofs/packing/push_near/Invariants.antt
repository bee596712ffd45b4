use Rattle.std.proofs.Common.{◌≡◌, ◌++◌, map, take}
use Rattle.jk_window.specs.Packing.{near_of}
use Rattle.jk_window.proofs.packing.push_near.Given as goal

abbrev pub invariant-loop-entry : goal.invariant-loop-entry
invariant-loop-entry l = l.near.items ≡ l.fn.near.items ++ map (near_of l.base) (take l.entry-index l.piece)
