use Rattle.std.proofs.Common.{subst}
use Rattle.jk_pnm.specs.RasterRows.{IsDrawing}
use Rattle.jk_pnm.proofs.DrawingLaws.{drawn_judged}
use Rattle.jk_pnm.proofs.rows.RasterRows.frame.Goals as goal

pub returns-clause-picture_told : goal.returns-clause-picture_told
returns-clause-picture_told c = drawn_judged c.args.self.now (subst IsDrawing c.self.view_is c.self.invariant)
