use Rattle.jk_scan.proofs.Neighbours.{upright_seen}
use Rattle.jk_scan.proofs.words.rows_beside.Goals as goal

pub returns : goal.returns
returns c = upright_seen c.args.x
