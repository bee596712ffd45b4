use Rattle.std.proofs.Common.{refl}
use Rattle.jk_columns.proofs.Turned.{turned_is}
use Rattle.jk_columns.proofs.turning.turned.Goals as goal

pub returns : goal.returns
returns c = turned_is c.args.bits c.args.signs _ _ c.requires.bits c.requires.signs refl refl
