use Rattle.std.proofs.Common.{◌≤◌, ◌-◌, length, drop, true}
use Rattle.jk_extras.specs.Boxed.{plain, read_step_at, extras_read}
use Rattle.jk_extras.proofs.Passing.{Left}
use Rattle.jk_extras.proofs.reading.read_all.Given as goal

abbrev pub invariant-loop-at : goal.invariant-loop-at
invariant-loop-at l = record {
  within : l.at ≤ length l.boxes;
  left : Left read_step_at true (plain l.extras) l.at (drop l.at l.boxes) (extras_read l.boxes);
}

abbrev pub decreases-loop-at : goal.decreases-loop-at
decreases-loop-at l = length l.boxes - l.at
