use Rattle.std.proofs.Common.{refl}
use Rattle.jk_lift.specs.Lifting.{after}
use Rattle.jk_wave.proofs.ColumnRows.{low_row}
use Rattle.jk_wave.proofs.columns.make_low.Goals as goal

pub returns : goal.returns
returns c f here above below =
    let area = c.args.area.now in
    low_row area f c.args.y (after area.y0 area.y1 c.args.y) c.args.row.now c.args.above.now c.args.below.now c.low_pass_row.new.row
    c.requires.tall c.requires.even refl here above below c.low_pass_row.auto.row c.low_pass_row.ensures
