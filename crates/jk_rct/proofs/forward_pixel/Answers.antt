use Rattle.jk_rct.proofs.Pixels.{y0_is}
use Rattle.jk_rct.proofs.forward_pixel.Goals as goal

pub returns-clause-y0 : goal.returns-clause-y0
returns-clause-y0 c = y0_is c.args.i0 c.args.i1 c.args.i2 c.quarter.result c.requires.i0 c.requires.i1 c.requires.i2 c.quarter.ensures
