use Rattle.std.proofs.Common.{◌*◌}
use Rattle.jk_lift.proofs.RowsBetween.{IsLiftedUpto}
use Rattle.jk_lift.proofs.row.lift_between.Given as goal

abbrev pub invariant-loop-eight : goal.invariant-loop-eight
invariant-loop-eight g l = IsLiftedUpto g.S.Step.formula l.before l.after (8 * l.eight) l.fn.row l.row

abbrev pub invariant-loop-k : goal.invariant-loop-k
invariant-loop-k g l = IsLiftedUpto g.S.Step.formula l.before l.after l.k l.fn.row l.row
