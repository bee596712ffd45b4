use Rattle.jk_wave.proofs.climbing.LiftedRows.{odd_made}
use Rattle.jk_wave.proofs.climbing.rows.make_odd.Goals as goal

pub returns : goal.returns
returns c f here there next =
    odd_made c.args.area.now f c.args.y c.args.row.now c.args.above.now c.args.below.now c.odd_sample_row.new.row c.requires.tall c.requires.from c.requires.inside c.requires.odd here there next
    c.odd_sample_row.auto.row c.odd_sample_row.ensures
