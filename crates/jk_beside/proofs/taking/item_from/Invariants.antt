use Rattle.std.proofs.Common.{◌-◌, List, length}
use Rattle.jk_extras.specs.declared.finding.Found.{Found}
use Rattle.jk_beside.specs.Others.{Reach}
use Rattle.jk_beside.specs.Taking.{HoldNone}
use Rattle.jk_beside.proofs.taking.item_from.Given as goal

abbrev pub invariant-loop-at : goal.invariant-loop-at
invariant-loop-at l = (fs : List Found) × Reach l.file l.from fs l.at × HoldNone l.item l.file fs

abbrev pub decreases-loop-at : goal.decreases-loop-at
decreases-loop-at l = length l.file - l.at
