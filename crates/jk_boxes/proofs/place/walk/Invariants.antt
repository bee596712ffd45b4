use Rattle.std.proofs.Common.{◌≤◌, ◌-◌, length, drop}
use Rattle.jk_boxes.proofs.Loops.{WalkLeft}
use Rattle.jk_boxes.proofs.place.walk.Given as goal

abbrev pub invariant-loop-at : goal.invariant-loop-at
invariant-loop-at l = record { within : l.at ≤ length l.file; left : WalkLeft l.seen l.at (drop l.at l.file) (length l.file) l.fn.at (drop l.fn.at l.file) }

abbrev pub decreases-loop-at : goal.decreases-loop-at
decreases-loop-at l = length l.file - l.at
