use Rattle.jk_columns.proofs.Indices.{index_is}
use Rattle.jk_columns.proofs.sheet.index_at.Goals as goal

pub returns : goal.returns
returns c = λ members ones low high. index_is c.args.indices c.args.runs c.args.c members ones c.requires low high
