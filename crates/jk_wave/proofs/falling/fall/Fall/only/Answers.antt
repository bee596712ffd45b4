use Rattle.jk_wave.proofs.ColumnRows.{on_done}
use Rattle.jk_wave.proofs.falling.fall.Fall.only.Goals as goal

pub returns-clause-rows : goal.returns-clause-rows
returns-clause-rows c = on_done c.add_row.result (λ given f here. given f (c.make_only.ensures.lifted f here)) c.add_row.ensures.gives
