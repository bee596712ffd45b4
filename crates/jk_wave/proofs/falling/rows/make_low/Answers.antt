use Rattle.std.proofs.Common.{refl, sym, ◌∙◌}
use Rattle.jk_lift.specs.Lifting.{after}
use Rattle.jk_wave.proofs.ColumnRows.{low_row}
use Rattle.jk_wave.proofs.falling.Lowered.{low_made_small}
use Rattle.jk_wave.proofs.falling.rows.make_low.Goals as goal

pub returns-clause-low : goal.returns-clause-low
returns-clause-low c f here above below =
    let area = c.args.area.now in
    low_row area f c.args.y (after area.y0 area.y1 c.args.y) c.args.row.now c.args.above.now c.args.below.now c.low_pass_row.new.row
    c.requires.tall c.requires.even refl here above below c.low_pass_row.auto.row c.low_pass_row.ensures

pub returns-clause-small : goal.returns-clause-small
returns-clause-small c =
    low_made_small c.args.row.now c.args.above.now c.args.below.now c.low_pass_row.new.row (c.requires.above_long ∙ sym c.requires.long) (c.requires.below_long ∙ sym c.requires.long)
    c.low_pass_row.auto.row c.requires.small c.requires.above_small c.requires.below_small c.low_pass_row.ensures
