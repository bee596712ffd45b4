use Rattle.std.proofs.Common.{subst}
use Rattle.jk_lift.specs.Samples.{SynthesisesRows}
use Rattle.jk_wave.proofs.climbing.LiftedRows.{only_made}
use Rattle.jk_wave.proofs.climbing.rows.make_only.Goals as goal

pub returns : goal.returns
returns c f here =
    let old = c.args.row.now in
    let new = c.synthesise_rows.new.rows in
    only_made c.args.area.now f old new c.requires.one here c.synthesise_rows.auto.rows (subst (λ w. SynthesisesRows c.args.area.now.y0 w old new) c.requires.long c.synthesise_rows.ensures)
