use Rattle.std.proofs.Common.{◌+◌, ◌-◌, ◌*◌, ◌^◌, arith}
use Rattle.jk_math.proofs.Laws.{adds_fit, subs_fit}
use Rattle.jk_lift.proofs.EightSteps.{twos}
use Rattle.jk_lift.proofs.EightPairs.{here_lanes, behind_lanes, low_lanes, high_sums, quarter_lanes, next_lanes, last_lanes, half_lanes, samples_made, samples_stored}
use Rattle.jk_lift.proofs.line.synthesise_eight.Goals as goal

pub overflow_add-next : goal.overflow_add-next
overflow_add-next c = adds_fit (2 ^ 29) (2 ^ 29) _ _ _ _ (omega arith) (here_lanes c.args.low.now c.args.high.now (c.args.k + c.args.shift) c.args.k c.args.before (omega arith) (omega arith) c.requires.small_low c.requires.small_high c.requires.before) (behind_lanes c.args.low.now c.args.high.now (c.args.k + c.args.shift) c.args.k c.args.before (omega arith) (omega arith) c.requires.small_low c.requires.small_high c.requires.before)

pub overflow_add-next-2 : goal.overflow_add-next-2
overflow_add-next-2 c = adds_fit (2 ^ 30 - 1) 3 _ _ _ _ (omega arith) (high_sums c.args.low.now c.args.high.now (c.args.k + c.args.shift) c.args.k c.args.before (omega arith) (omega arith) c.requires.small_low c.requires.small_high c.requires.before) twos

pub overflow_sub-next : goal.overflow_sub-next
overflow_sub-next c = subs_fit (2 ^ 29) (2 ^ 28 + 1) _ _ _ _ (omega arith) (low_lanes c.args.low.now c.args.high.now (c.args.k + c.args.shift) c.args.k c.args.before (omega arith) (omega arith) c.requires.small_low c.requires.small_high c.requires.before) (quarter_lanes c.args.low.now c.args.high.now (c.args.k + c.args.shift) c.args.k c.args.before (omega arith) (omega arith) c.requires.small_low c.requires.small_high c.requires.before)

pub overflow_add-odd : goal.overflow_add-odd
overflow_add-odd c = adds_fit (2 ^ 30 - 1) (2 ^ 30 - 1) _ _ _ _ (omega arith) (last_lanes c.args.low.now c.args.high.now (c.args.k + c.args.shift) c.args.k c.args.before (omega arith) (omega arith) c.requires.small_low c.requires.small_high c.requires.before) (next_lanes c.args.low.now c.args.high.now (c.args.k + c.args.shift) c.args.k c.args.before (omega arith) (omega arith) c.requires.small_low c.requires.small_high c.requires.before)

pub overflow_add-odd-2 : goal.overflow_add-odd-2
overflow_add-odd-2 c = adds_fit (2 ^ 29) (2 ^ 30) _ _ _ _ (omega arith) (here_lanes c.args.low.now c.args.high.now (c.args.k + c.args.shift) c.args.k c.args.before (omega arith) (omega arith) c.requires.small_low c.requires.small_high c.requires.before) (half_lanes c.args.low.now c.args.high.now (c.args.k + c.args.shift) c.args.k c.args.before (omega arith) (omega arith) c.requires.small_low c.requires.small_high c.requires.before)

pub returns-clause-samples : goal.returns-clause-samples
returns-clause-samples c = samples_made c.args.low.now c.args.high.now (c.args.k + c.args.shift) c.args.k c.args.before (2 * c.args.k + c.args.shift) c.args.line.now _ (samples_stored c.args.low.now c.args.high.now (c.args.k + c.args.shift) c.args.k c.args.before (omega arith) (omega arith) c.requires.small_low c.requires.small_high c.requires.before (2 * c.args.k + c.args.shift) c.args.line.now (omega arith))
