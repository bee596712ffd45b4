use Rattle.std.proofs.Common.{subst}
use Rattle.jk_lift.specs.Samples.{AnalysesRows}
use Rattle.jk_wave.proofs.ColumnRows.{only_row}
use Rattle.jk_wave.proofs.falling.Lowered.{only_made_small}
use Rattle.jk_wave.proofs.falling.rows.make_only.Goals as goal

pub returns-clause-lifted : goal.returns-clause-lifted
returns-clause-lifted c f here =
    let old = c.args.row.now in
    let new = c.analyse_rows.new.rows in
    only_row c.args.area.now f old new c.requires.one here c.analyse_rows.auto.rows (subst (λ w. AnalysesRows c.args.area.now.y0 w old new) c.requires.long c.analyse_rows.ensures)

pub returns-clause-small : goal.returns-clause-small
returns-clause-small c =
    let old = c.args.row.now in
    let new = c.analyse_rows.new.rows in
    only_made_small c.args.area.now old new c.requires.one c.requires.long c.analyse_rows.auto.rows (subst (λ w. AnalysesRows c.args.area.now.y0 w old new) c.requires.long c.analyse_rows.ensures) c.requires.small
