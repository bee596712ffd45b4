use Rattle.jk_pnm.proofs.DrawingLaws.{rows_judged, rows_unread, rows_found, rows_only}
use Rattle.jk_pnm.proofs.rows.raster_rows.Goals as goal

pub returns-clause-found : goal.returns-clause-found
returns-clause-found c = rows_found (λ d. d) c.drawing.result c.args.bytes.now c.drawing.ensures.exact c.drawing.ensures.sound

pub returns-clause-only : goal.returns-clause-only
returns-clause-only c = λ p is. rows_only (λ d. d) c.drawing.result c.args.bytes.now p c.drawing.ensures.exact is

pub returns-clause-read : goal.returns-clause-read
returns-clause-read c = rows_judged (λ d. d) c.drawing.result c.args.bytes.now c.drawing.ensures.exact

pub returns-clause-refused : goal.returns-clause-refused
returns-clause-refused c = rows_unread (λ d. d) c.drawing.result c.args.bytes.now c.drawing.ensures.exact
