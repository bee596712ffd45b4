use Rattle.std.proofs.Common.{◌≤◌, ◌-◌, length, drop, false}
use Rattle.jk_extras.specs.Grids.{grids_step, grids_at}
use Rattle.jk_extras.proofs.Passing.{Left}
use Rattle.jk_extras.proofs.grids.read_grids.Given as goal

abbrev pub invariant-loop-at : goal.invariant-loop-at
invariant-loop-at l =
    record { within : l.at ≤ length l.contents; left : Left grids_step false l.grids l.at (drop l.at l.contents) (grids_at l.contents) }

abbrev pub decreases-loop-at : goal.decreases-loop-at
decreases-loop-at l = length l.contents - l.at
