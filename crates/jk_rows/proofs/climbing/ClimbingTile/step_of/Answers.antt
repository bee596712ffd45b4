use Rattle.jk_tile.specs.TileMeaning.{shown_area}
use Rattle.jk_wave.specs.climbing.Held.{rows_between}
use Rattle.jk_rows.proofs.climbing.ClimbingTile.step_of.Goals as goal

pub finish-requires-clause-values : goal.finish-requires-clause-values
finish-requires-clause-values c =
    let t = c.args.coded.now in
    (rows_between (shown_area t.headers.siz t.number t.reduce) c.args.from c.args.to, c.in_ok-values.ensures.rows)

pub returns-clause-rows : goal.returns-clause-rows
returns-clause-rows c =
    let t = c.args.coded.now in
    c.finish.ensures (rows_between (shown_area t.headers.siz t.number t.reduce) c.args.from c.args.to) c.in_ok-values.ensures.rows

pub returns-clause-fine : goal.returns-clause-fine
returns-clause-fine c = λ last. c.in_ok-values.ensures.fine last
