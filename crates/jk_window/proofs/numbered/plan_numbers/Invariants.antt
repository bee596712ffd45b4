use Rattle.std.proofs.Common.{◌-◌, ◌≤◌, length}
use Rattle.jk_window.specs.PartEnds.{numbered}
use Rattle.jk_window.specs.Planning.{IsRunPlan}
use Rattle.jk_window.specs.Numbered.{EndBefore, packets_in}
use Rattle.jk_window.proofs.numbered.plan_numbers.Given as goal

abbrev pub invariant-loop-at : goal.invariant-loop-at
invariant-loop-at l = record {
  order : l.first ≤ l.at;
  within : l.at ≤ l.behind;
  next : l.i ≤ length l.intervals;
  before : EndBefore l.intervals l.i l.at;
  run : IsRunPlan l.size l.tile (numbered (packets_in l.tile) l.first l.at) l.plan;
}

abbrev pub decreases-loop-at : goal.decreases-loop-at
decreases-loop-at l = l.behind - l.at
