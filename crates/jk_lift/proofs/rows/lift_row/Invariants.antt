use Rattle.std.proofs.Common.{◌*◌}
use Rattle.jk_lift.proofs.Sweeping.{IsLifted}
use Rattle.jk_lift.proofs.rows.lift_row.Given as goal

abbrev pub invariant-loop-eight : goal.invariant-loop-eight
invariant-loop-eight g l = IsLifted g.S.Step.formula l.width l.row l.before l.after (8 * l.eight) l.fn.rows l.rows

abbrev pub invariant-loop-x : goal.invariant-loop-x
invariant-loop-x g l = IsLifted g.S.Step.formula l.width l.row l.before l.after l.x l.fn.rows l.rows
