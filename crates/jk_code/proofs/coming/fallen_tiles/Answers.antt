use Rattle.std.proofs.lemmas.Result.{err_from_is_err_and}
use Rattle.jk_code.proofs.ComingLaws.{between_first}
use Rattle.jk_code.proofs.ComingWalkLaws.{given_first, given_on, met_in_walk, all_given}
use Rattle.jk_code.proofs.coming.fallen_tiles.Goals as goal

pub loop-walk-init : goal.loop-walk-init
loop-walk-init g c = record {
  walk = c.in_ok-walk.ensures.walk;
  whole = c.in_ok-walk.ensures.whole;
  given = given_first g.S.RowSupply.framed g.S.RowSupply.next g.S.RowSupply.gave c.args.coming.now c.args.supply.now c.in_ok-walk.walk c.new.result.items c.requires.coming c.requires.framed c.requires.first
      c.in_ok-walk.ensures.row c.new.ensures.items c.in_ok-walk.ensures.of;
}

pub walk_from-requires-clause-between : goal.walk_from-requires-clause-between
walk_from-requires-clause-between g c = between_first c.args.coming.now c.new.result.items c.requires.coming c.new.ensures.items

pub give_next-requires-clause-before : goal.give_next-requires-clause-before
give_next-requires-clause-before g c = record { walk = c.loop-walk.invariant.walk; more = c.loop-walk-test.true; given = (c.args.supply.now, c.loop-walk.invariant.given) }

pub returns-in_err-give_next-clause-err : goal.returns-in_err-give_next-clause-err
returns-in_err-give_next-clause-err g c =
    let same = err_from_is_err_and c.from_residual-in_err-give_next.result c.from_residual-in_err-give_next.ensures.1 in
    let now = c.loop-walk.invariant in
    rw (same.1, same.2)
    (met_in_walk g.S.RowSupply.framed g.S.RowSupply.next g.S.RowSupply.gave g.S.RowSupply.met c.args.coming.now c.args.supply.now c.loop-walk.supply c.give_next.new.supply c.loop-walk.walk c.in_err-give_next.field-0.0 now.walk
    c.loop-walk-test.true now.given c.in_err-give_next.ensures.err)

pub loop-walk-preserved : goal.loop-walk-preserved
loop-walk-preserved g c =
    let step = c.in_ok-give_next.ensures.step in
    let on = c.in_ok-walk-2.ensures in
    record {
      walk = on.walk.walk;
      whole = on.whole;
      given = given_on g.S.RowSupply.framed g.S.RowSupply.next g.S.RowSupply.gave c.args.coming.now c.args.supply.now c.give_next.new.supply c.give_next.new.walk c.in_ok-walk-2.walk on.walk (step.given c.args.supply.now c.loop-walk.invariant.given);
    }

pub returns-clause-fallen : goal.returns-clause-fallen
returns-clause-fallen g c =
    let now = c.loop-walk.invariant in
    (all_given g.S.RowSupply.framed g.S.RowSupply.next g.S.RowSupply.gave c.args.coming.now c.args.supply.now c.loop-walk.supply c.loop-walk.walk now.walk now.whole c.loop-walk-test.false now.given).fallen

pub returns-clause-given : goal.returns-clause-given
returns-clause-given g c =
    let now = c.loop-walk.invariant in
    (all_given g.S.RowSupply.framed g.S.RowSupply.next g.S.RowSupply.gave c.args.coming.now c.args.supply.now c.loop-walk.supply c.loop-walk.walk now.walk now.whole c.loop-walk-test.false now.given).given
