use Rattle.std.proofs.Common.{refl}
use Rattle.jk_lift.specs.Lifting.{before, after}
use Rattle.jk_wave.proofs.ColumnRows.{high_row}
use Rattle.jk_wave.proofs.columns.put_high.Goals as goal

pub returns : goal.returns
returns g c =
    let area = c.args.area.now in
    high_row area (g.S.RowSource.value_at c.args.source.now) c.args.y (before area.y0 area.y1 c.args.y) (after area.y0 area.y1 c.args.y)
    c.put_samples.new.row c.args.above.now c.args.below.now c.high_pass_row.new.row
    refl refl c.put_samples.ensures c.requires.above c.requires.below c.high_pass_row.auto.row c.high_pass_row.ensures
