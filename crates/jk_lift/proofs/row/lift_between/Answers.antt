use Rattle.std.proofs.Common.{◌≡◌, ◌+◌, ◌-◌, ◌*◌, ◌^◌, ℕ, ℤ, List, map, ◌∙◌, subst, arith, w32, to_z, of_z}
use Rattle.jk_math.specs.Signed.{signed_at}
use Rattle.jk_math.proofs.Laws.{HasLanes-given, lane_is, vector_below, stored}
use lib.Lanes.{put_chunk}
use Rattle.jk_lift.proofs.RowsBetween.{IsLiftedUpto, lifted_eight, rest_lanes, all_lanes, three}
use Rattle.jk_lift.proofs.row.lift_between.Goals as goal

pub lifted_eight-lifted-requires-clause-number : goal.lifted_eight-lifted-requires-clause-number
lifted_eight-lifted-requires-clause-number g c = vector_below (2 ^ 29) _ _ (rest_lanes g.S.Step.formula c.args.before.now c.args.after.now (8 * c.loop-eight.eight) c.args.row.now c.loop-eight.row c.loop-eight.invariant (omega arith) (omega arith) c.requires.numbers)

pub lifted_eight-lifted-requires-clause-before : goal.lifted_eight-lifted-requires-clause-before
lifted_eight-lifted-requires-clause-before g c = vector_below (2 ^ 30 - 1) _ _ (all_lanes (2 ^ 30 - 1) (8 * c.loop-eight.eight) c.args.before.now (omega arith) (omega arith) c.requires.befores)

pub lifted_eight-lifted-requires-clause-after : goal.lifted_eight-lifted-requires-clause-after
lifted_eight-lifted-requires-clause-after g c = vector_below (2 ^ 30 - 1) _ _ (all_lanes (2 ^ 30 - 1) (8 * c.loop-eight.eight) c.args.after.now (omega arith) (omega arith) c.requires.afters)

pub loop-eight-preserved : goal.loop-eight-preserved
loop-eight-preserved g c =
    let f = g.S.Step.formula in
    let k : ℕ = 8 * c.loop-eight.eight in
    let next : k + 8 ≡ 8 * (c.loop-eight.eight + 1) = omega arith in
    let here = rest_lanes f c.args.before.now c.args.after.now k c.args.row.now c.loop-eight.row c.loop-eight.invariant (omega arith) (omega arith) c.requires.numbers in
    let left = all_lanes (2 ^ 30 - 1) k c.args.before.now (omega arith) (omega arith) c.requires.befores in
    let right = all_lanes (2 ^ 30 - 1) k c.args.after.now (omega arith) (omega arith) c.requires.afters in
    let made = c.lifted_eight-lifted in
    let new : List ℤ = put_chunk k c.loop-eight.row (map (to_z w32) (map (of_z w32) made.result)) in
    let lanes = HasLanes-given (2 ^ 31) made.result (omega arith) made.ensures.lanes made.ensures.within in
    subst (λ n. IsLiftedUpto f c.args.before.now c.args.after.now n c.args.row.now new) next
    (lifted_eight f c.args.before.now c.args.after.now k c.args.row.now c.loop-eight.row new (λ j. signed_at made.result j) c.loop-eight.invariant (stored (2 ^ 31) _ _ k c.loop-eight.row lanes (omega arith))
    (λ j l. made.ensures.value j l ∙ three f (lane_is (2 ^ 29) _ _ here j l) (lane_is (2 ^ 30 - 1) _ _ left j l) (lane_is (2 ^ 30 - 1) _ _ right j l)))
