use Rattle.std.proofs.Common.{refl}
use Rattle.jk_columns.proofs.Paired.{paired_is}
use Rattle.jk_columns.proofs.pairs.paired.Goals as goal

pub returns : goal.returns
returns c = paired_is c.args.rows _ _ c.requires refl refl
