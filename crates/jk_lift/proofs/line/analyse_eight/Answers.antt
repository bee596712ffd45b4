use Rattle.std.proofs.Common.{◌+◌, ◌-◌, ◌*◌, ◌^◌, arith}
use Rattle.jk_math.proofs.Laws.{adds_fit, subs_fit, stored}
use Rattle.jk_lift.proofs.EightPairs.{even_lanes, odd_in_lanes, behind_in_lanes, half_in_lanes, high_lanes, last_in_lanes, coefficient_sums, quarter_in_lanes, low_made_lanes, coefficients_made}
use Rattle.jk_lift.proofs.EightSteps.{twos}
use Rattle.jk_lift.proofs.line.analyse_eight.Goals as goal

pub overflow_add-next : goal.overflow_add-next
overflow_add-next c = adds_fit (2 ^ 29) (2 ^ 29) _ _ _ _ (omega arith) (even_lanes c.args.line.now (2 * c.args.k + c.args.shift) c.args.before (omega arith) c.requires.small c.requires.before) (behind_in_lanes c.args.line.now (2 * c.args.k + c.args.shift) c.args.before (omega arith) c.requires.small c.requires.before)

pub overflow_sub-next : goal.overflow_sub-next
overflow_sub-next c = subs_fit (2 ^ 29) (2 ^ 29) _ _ _ _ (omega arith) (odd_in_lanes c.args.line.now (2 * c.args.k + c.args.shift) c.args.before (omega arith) c.requires.small c.requires.before) (half_in_lanes c.args.line.now (2 * c.args.k + c.args.shift) c.args.before (omega arith) c.requires.small c.requires.before)

pub overflow_add-sample : goal.overflow_add-sample
overflow_add-sample c = adds_fit (2 ^ 30 - 1) (2 ^ 30 - 1) _ _ _ _ (omega arith) (last_in_lanes c.args.line.now (2 * c.args.k + c.args.shift) c.args.before (omega arith) c.requires.small c.requires.before) (high_lanes c.args.line.now (2 * c.args.k + c.args.shift) c.args.before (omega arith) c.requires.small c.requires.before)

pub overflow_add-sample-2 : goal.overflow_add-sample-2
overflow_add-sample-2 c = adds_fit (2 ^ 31 - 3) 3 _ _ _ _ (omega arith) (coefficient_sums c.args.line.now (2 * c.args.k + c.args.shift) c.args.before (omega arith) c.requires.small c.requires.before) twos

pub overflow_add-sample-3 : goal.overflow_add-sample-3
overflow_add-sample-3 c = adds_fit (2 ^ 29) (2 ^ 29 + 1) _ _ _ _ (omega arith) (even_lanes c.args.line.now (2 * c.args.k + c.args.shift) c.args.before (omega arith) c.requires.small c.requires.before) (quarter_in_lanes c.args.line.now (2 * c.args.k + c.args.shift) c.args.before (omega arith) c.requires.small c.requires.before)

pub returns-clause-coefficients : goal.returns-clause-coefficients
returns-clause-coefficients c =
    coefficients_made c.args.line.now (2 * c.args.k + c.args.shift) c.args.before c.args.k (c.args.k + c.args.shift) c.args.low.now _ c.args.high.now _ (stored (2 ^ 31) _ _ c.args.k c.args.low.now (low_made_lanes c.args.line.now (2 * c.args.k + c.args.shift) c.args.before (omega arith) c.requires.small c.requires.before) (omega arith))
    (stored (2 ^ 30 - 1) _ _ (c.args.k + c.args.shift) c.args.high.now (high_lanes c.args.line.now (2 * c.args.k + c.args.shift) c.args.before (omega arith) c.requires.small c.requires.before) (omega arith))
