use Rattle.jk_wave.proofs.ColumnRows.{on_done}
use Rattle.jk_wave.proofs.climbing.plane.end.Goals as goal

pub returns-clause-samples : goal.returns-clause-samples
returns-clause-samples g c = on_done c.end_even.result (λ given f agrees climb. given f climb (c.put_row.ensures.row f agrees)) c.end_even.ensures.samples
