use Rattle.std.proofs.Common.{◌+◌, ◌-◌, ◌^◌, arith}
use Rattle.jk_math.proofs.Laws.{adds_fit, subs_fit, lane_is, vector_long, vector_below}
use Rattle.jk_lift.proofs.EightSteps.{number_lanes, before_lanes, after_lanes, sum_lanes, quarter_lanes, twos, even_sample_lanes}
use Rattle.jk_lift.proofs.rows.EvenSampleStep.lifted_eight.Goals as goal

pub overflow_add-result : goal.overflow_add-result
overflow_add-result c = adds_fit (2 ^ 30 - 1) (2 ^ 30 - 1) _ _ _ _ (omega arith) (before_lanes c.args.number c.args.before c.args.after c.requires.lanes c.requires.number c.requires.before c.requires.after) (after_lanes c.args.number c.args.before c.args.after c.requires.lanes c.requires.number c.requires.before c.requires.after)

pub overflow_add-result-2 : goal.overflow_add-result-2
overflow_add-result-2 c = adds_fit (2 ^ 31 - 2) 3 _ _ _ _ (omega arith) (sum_lanes c.args.number c.args.before c.args.after c.requires.lanes c.requires.number c.requires.before c.requires.after) twos

pub overflow_sub-result : goal.overflow_sub-result
overflow_sub-result c = subs_fit (2 ^ 29) (2 ^ 29 + 1) _ _ _ _ (omega arith) (number_lanes c.args.number c.args.before c.args.after c.requires.lanes c.requires.number c.requires.before c.requires.after) (quarter_lanes c.args.number c.args.before c.args.after c.requires.lanes c.requires.number c.requires.before c.requires.after)

pub returns : goal.returns
returns c =
    let made = even_sample_lanes c.args.number c.args.before c.args.after c.requires.lanes c.requires.number c.requires.before c.requires.after in
    record {
      lanes = vector_long (2 ^ 31) _ _ made;
      value = λ j l. lane_is (2 ^ 31) _ _ made j l;
      within = λ j l. vector_below (2 ^ 31) _ _ made j l;
    }
