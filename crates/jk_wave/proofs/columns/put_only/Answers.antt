use Rattle.std.proofs.Common.{subst}
use Rattle.jk_lift.specs.Samples.{AnalysesRows}
use Rattle.jk_wave.proofs.ColumnRows.{only_row}
use Rattle.jk_wave.proofs.columns.put_only.Goals as goal

pub returns : goal.returns
returns g c =
    let area = c.args.area.now in
    let row = c.put_samples.ensures in
    only_row area (g.S.RowSource.value_at c.args.source.now) c.put_samples.new.row c.analyse_rows.new.rows c.requires.one row c.analyse_rows.auto.rows
    (subst (λ w. AnalysesRows area.y0 w c.put_samples.new.row c.analyse_rows.new.rows) row.long c.analyse_rows.ensures)
