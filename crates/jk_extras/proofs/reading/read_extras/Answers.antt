use Rattle.std.proofs.Common.{arith}
use Rattle.jk_math.specs.Steps.{if_ok_answers}
use Rattle.jk_extras.specs.Given.{FitsExtras}
use Rattle.jk_extras.specs.Boxed.{plain, extras_read}
use Rattle.jk_extras.proofs.Widths.{read_fits}
use Rattle.jk_extras.proofs.reading.read_extras.Goals as goal

pub returns-clause-fits : goal.returns-clause-fits
returns-clause-fits c =
    if_ok_answers plain c.read_all.result (extras_read c.args.boxes.now) FitsExtras c.read_all.ensures (λ e due. read_fits c.args.boxes.now e (λ i. omega (arith, c.type_inv.boxes i)) due)
