use Rattle.jk_scan.proofs.Neighbours.{rows_seen}
use Rattle.jk_scan.proofs.words.with_rows.Goals as goal

pub returns : goal.returns
returns c = rows_seen c.args.x
