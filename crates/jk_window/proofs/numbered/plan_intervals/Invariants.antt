use Rattle.std.proofs.Common.{◌≤◌, length}
use Rattle.jk_window.specs.Numbered.{EndBefore}
use Rattle.jk_window.proofs.NumberedPlans.{AreCut}
use Rattle.jk_window.proofs.numbered.plan_intervals.Given as goal

abbrev pub invariant-loop-end : goal.invariant-loop-end
invariant-loop-end l = record {
  cuts : AreCut l.size l.tile l.end-items l.plans.items l.end-index l.first;
  within : l.next ≤ length l.intervals;
  before : EndBefore l.intervals l.next l.first;
}
