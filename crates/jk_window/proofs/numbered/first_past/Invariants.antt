use Rattle.std.proofs.Common.{◌-◌, ◌≤◌, length}
use Rattle.jk_window.specs.Numbered.{EndBefore}
use Rattle.jk_window.proofs.numbered.first_past.Given as goal

abbrev pub invariant-loop-i : goal.invariant-loop-i
invariant-loop-i l = record {
  before : EndBefore l.intervals l.i l.at;
  within : l.i ≤ length l.intervals;
}

abbrev pub decreases-loop-i : goal.decreases-loop-i
decreases-loop-i l = length l.intervals - l.i
