use Rattle.std.proofs.Common.{◌≤◌, ◌-◌, length, drop, false}
use Rattle.jk_extras.specs.Placing.{kept_step, kept_after}
use Rattle.jk_extras.proofs.Passing.{Left}
use Rattle.jk_extras.proofs.dressing.put_all_kept.Given as goal

abbrev pub invariant-loop-at : goal.invariant-loop-at
invariant-loop-at l = record {
  within : l.at ≤ length l.boxes;
  left : Left (kept_step l.extras) false l.out.items l.at (drop l.at l.boxes) (kept_after l.extras l.fn.out.items l.boxes);
}

abbrev pub decreases-loop-at : goal.decreases-loop-at
decreases-loop-at l = length l.boxes - l.at
