use Rattle.jk_code.proofs.TileRowing.{some_across}
use Rattle.jk_code.proofs.rows.tiles_across.Goals as goal

pub returns-clause-some : goal.returns-clause-some
returns-clause-some c = some_across c.args.siz.now c.requires.siz
