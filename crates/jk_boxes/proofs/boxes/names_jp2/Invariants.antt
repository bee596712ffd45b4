use Rattle.std.proofs.Common.{◌≡◌, ◌≤◌, ◌-◌, length, drop}
use Rattle.jk_boxes.specs.Reading.{names_jp2}
use Rattle.jk_boxes.proofs.boxes.names_jp2.Given as goal

abbrev pub invariant-loop-at : goal.invariant-loop-at
invariant-loop-at l = record { within : l.at ≤ length l.list; goes_on : names_jp2 (drop l.at l.list) ≡ names_jp2 l.list }

abbrev pub decreases-loop-at : goal.decreases-loop-at
decreases-loop-at l = length l.list - l.at
