use Rattle.std.proofs.Common.{◌-◌}
use Rattle.jk_lift.proofs.Sweeping.{IsCut}
use Rattle.jk_lift.proofs.rows.lift_rows.Given as goal

abbrev pub invariant-loop-row : goal.invariant-loop-row
invariant-loop-row g l = IsCut g.F.Step.formula g.G.Step.formula l.second l.height l.width l.row l.fn.rows l.rows

abbrev pub decreases-loop-row : goal.decreases-loop-row
decreases-loop-row g l = l.height - l.row
