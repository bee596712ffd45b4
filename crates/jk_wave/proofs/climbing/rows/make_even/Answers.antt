use Rattle.std.proofs.Common.{sym, ◌∙◌}
use Rattle.jk_wave.proofs.climbing.LiftedRows.{even_made, even_small}
use Rattle.jk_wave.proofs.climbing.rows.make_even.Goals as goal

pub returns-clause-samples : goal.returns-clause-samples
returns-clause-samples c f here there next =
    even_made c.args.area.now f c.args.y c.args.row.now c.args.above.now c.args.below.now c.even_sample_row.new.row c.requires.tall c.requires.even here there next
    c.even_sample_row.auto.row c.even_sample_row.ensures

pub returns-clause-small : goal.returns-clause-small
returns-clause-small c =
    even_small c.args.row.now c.args.above.now c.args.below.now c.even_sample_row.new.row (c.requires.above_long ∙ sym c.requires.long) (c.requires.below_long ∙ sym c.requires.long)
    c.even_sample_row.auto.row c.requires.small c.requires.above_small c.requires.below_small c.even_sample_row.ensures
