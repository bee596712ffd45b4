use Rattle.std.proofs.Common.{refl, sym, ◌∙◌}
use Rattle.jk_lift.specs.Lifting.{before, after}
use Rattle.jk_wave.proofs.ColumnRows.{high_row}
use Rattle.jk_wave.proofs.falling.Lowered.{high_made_small}
use Rattle.jk_wave.proofs.falling.rows.make_high.Goals as goal

pub returns-clause-high : goal.returns-clause-high
returns-clause-high c f here there next =
    let area = c.args.area.now in
    high_row area f c.args.y (before area.y0 area.y1 c.args.y) (after area.y0 area.y1 c.args.y) c.args.row.now c.args.above.now c.args.below.now c.high_pass_row.new.row
    refl refl here there next c.high_pass_row.auto.row c.high_pass_row.ensures

pub returns-clause-small : goal.returns-clause-small
returns-clause-small c =
    high_made_small c.args.row.now c.args.above.now c.args.below.now c.high_pass_row.new.row (c.requires.above_long ∙ sym c.requires.long) (c.requires.below_long ∙ sym c.requires.long)
    c.high_pass_row.auto.row c.requires.small c.requires.above_small c.requires.below_small c.high_pass_row.ensures
