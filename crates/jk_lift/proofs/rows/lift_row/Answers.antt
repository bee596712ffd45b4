use Rattle.std.proofs.Common.{◌≡◌, ◌+◌, ◌-◌, ◌*◌, ◌^◌, ℕ, ℤ, List, map, ◌∙◌, subst, arith, rules, w32, to_z, of_z}
use Rattle.std.proofs.lemmas.Int.{to_z-of_z}
use mir.Val.{SFits}
use Rattle.jk_math.specs.Signed.{signed_at}
use Rattle.jk_math.proofs.Laws.{HasLanes-given, lane_is, vector_below, stored}
use lib.Lanes.{put_chunk}
use Rattle.jk_lift.proofs.RowsBetween.{three}
use Rattle.jk_lift.proofs.Sweeping.{IsLifted, IsLifted-more, IsLifted-eight, lifted_value, row_lanes}
use Rattle.jk_lift.proofs.rows.lift_row.Goals as goal

pub lifted_eight-lifted-requires-clause-number : goal.lifted_eight-lifted-requires-clause-number
lifted_eight-lifted-requires-clause-number g c = vector_below (2 ^ 29) _ _ (row_lanes g.S.Step.formula c.args.width c.args.row c.args.before c.args.after (8 * c.loop-eight.eight) (2 ^ 29) c.args.row c.args.rows.now c.loop-eight.rows c.loop-eight.invariant (omega arith) (omega arith) (omega arith) c.requires.numbers)

pub lifted_eight-lifted-requires-clause-before : goal.lifted_eight-lifted-requires-clause-before
lifted_eight-lifted-requires-clause-before g c = vector_below (2 ^ 30 - 1) _ _ (row_lanes g.S.Step.formula c.args.width c.args.row c.args.before c.args.after (8 * c.loop-eight.eight) (2 ^ 30 - 1) c.args.before c.args.rows.now c.loop-eight.rows c.loop-eight.invariant (omega arith) (omega arith) (omega arith) c.requires.befores)

pub lifted_eight-lifted-requires-clause-after : goal.lifted_eight-lifted-requires-clause-after
lifted_eight-lifted-requires-clause-after g c = vector_below (2 ^ 30 - 1) _ _ (row_lanes g.S.Step.formula c.args.width c.args.row c.args.before c.args.after (8 * c.loop-eight.eight) (2 ^ 30 - 1) c.args.after c.args.rows.now c.loop-eight.rows c.loop-eight.invariant (omega arith) (omega arith) (omega arith) c.requires.afters)

pub loop-eight-preserved : goal.loop-eight-preserved
loop-eight-preserved g c =
    let f = g.S.Step.formula in
    let k : ℕ = 8 * c.loop-eight.eight in
    let at : ℕ = c.args.row * c.args.width + k in
    let next : k + 8 ≡ 8 * (c.loop-eight.eight + 1) = omega arith in
    let here = row_lanes g.S.Step.formula c.args.width c.args.row c.args.before c.args.after (8 * c.loop-eight.eight) (2 ^ 29) c.args.row c.args.rows.now c.loop-eight.rows c.loop-eight.invariant (omega arith) (omega arith) (omega arith) c.requires.numbers in
    let left = row_lanes g.S.Step.formula c.args.width c.args.row c.args.before c.args.after (8 * c.loop-eight.eight) (2 ^ 30 - 1) c.args.before c.args.rows.now c.loop-eight.rows c.loop-eight.invariant (omega arith) (omega arith) (omega arith) c.requires.befores in
    let right = row_lanes g.S.Step.formula c.args.width c.args.row c.args.before c.args.after (8 * c.loop-eight.eight) (2 ^ 30 - 1) c.args.after c.args.rows.now c.loop-eight.rows c.loop-eight.invariant (omega arith) (omega arith) (omega arith) c.requires.afters in
    let made = c.lifted_eight-lifted in
    let new : List ℤ = put_chunk at c.loop-eight.rows (map (to_z w32) (map (of_z w32) made.result)) in
    let lanes = HasLanes-given (2 ^ 31) made.result (omega arith) made.ensures.lanes made.ensures.within in
    subst (λ n. IsLifted f c.args.width c.args.row c.args.before c.args.after n c.args.rows.now new) next
    (IsLifted-eight f c.args.width c.args.row c.args.before c.args.after k c.args.rows.now c.loop-eight.rows new (λ j. signed_at made.result j) c.loop-eight.invariant (omega arith)
    c.requires.apart.0 c.requires.apart.1 (stored (2 ^ 31) _ _ at c.loop-eight.rows lanes (omega arith))
    (λ j l. made.ensures.value j l ∙ three f (lane_is (2 ^ 29) _ _ here j l) (lane_is (2 ^ 30 - 1) _ _ left j l) (lane_is (2 ^ 30 - 1) _ _ right j l)))

pub loop-x-preserved : goal.loop-x-preserved
loop-x-preserved g c =
    let fits : SFits w32 c.lifted.result = search rules in
    IsLifted-more g.S.Step.formula c.args.width c.args.row c.args.before c.args.after c.loop-x.x c.args.rows.now c.loop-x.rows _ c.loop-x.invariant
    c.loop-x-test.true (omega arith)
    (to_z-of_z w32 _ fits ∙ lifted_value g.S.Step.formula c.args.width c.args.row c.args.before c.args.after c.loop-x.x c.args.rows.now c.loop-x.rows _ c.loop-x.invariant
    c.loop-x-test.true c.requires.apart.0 c.requires.apart.1 (c.requires.numbers c.loop-x.x c.loop-x-test.true) (c.requires.befores c.loop-x.x c.loop-x-test.true)
    (c.requires.afters c.loop-x.x c.loop-x-test.true) c.lifted.ensures.value)
