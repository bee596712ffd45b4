use Rattle.std.proofs.Common.{◌≤◌, ◌-◌, length, drop}
use Rattle.jk_boxes.proofs.Loops.{PaletteLeft}
use Rattle.jk_boxes.proofs.boxes.pass_without_palette.Given as goal

abbrev pub invariant-loop-at : goal.invariant-loop-at
invariant-loop-at l = record { within : l.at ≤ length l.boxes; left : PaletteLeft l.ends (drop l.at l.boxes) l.boxes }

abbrev pub decreases-loop-at : goal.decreases-loop-at
decreases-loop-at l = length l.boxes - l.at
