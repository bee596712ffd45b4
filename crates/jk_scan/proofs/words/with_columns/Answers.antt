use Rattle.jk_scan.proofs.Neighbours.{line_own}
use Rattle.jk_scan.proofs.words.with_columns.Goals as goal

pub returns : goal.returns
returns c h j i q a b d n p = line_own c.args.v c.columns_beside.result h j n i (a n p) (c.columns_beside.ensures h j i q a b d n p)
