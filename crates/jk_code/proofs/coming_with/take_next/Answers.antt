use Rattle.std.proofs.Common.{arith}
use Rattle.jk_code.proofs.ComingWalkLaws.{given_on, on_any}
use Rattle.jk_code.proofs.coming_with.take_next.Goals as goal

pub give_next-requires-clause-before : goal.give_next-requires-clause-before
give_next-requires-clause-before g c =
    let before = c.requires.before in
    let coded = c.in_ok-code_tiles.ensures in
    let more = before.more in
    let row = coded.walk.row in
    let end = coded.end in
    record {
      walk = coded.walk.walk;
      more = omega (arith, more, row, end);
      given = (
        before.given.0,
        given_on g.S.RowSupply.framed g.S.RowSupply.next g.S.RowSupply.gave c.args.coming.now before.given.0 c.args.supply.now c.args.walk.now c.code_tiles.new.walk coded.walk before.given.1,
      );
    }

pub returns-clause-step : goal.returns-clause-step
returns-clause-step g c =
    let coded = c.in_ok-code_tiles.ensures.walk in
    let step = c.in_ok-give_next.ensures.step in
    let down = step.down in
    let row = coded.row in
    on_any _ c.list_tiles.result (record {
      walk = step.walk;
      down = omega (arith, down, row);
      given = λ from was. step.given from (given_on g.S.RowSupply.framed g.S.RowSupply.next g.S.RowSupply.gave c.args.coming.now from c.args.supply.now c.args.walk.now c.code_tiles.new.walk coded was);
    })
