use Rattle.std.proofs.Common.{◌+◌}
use Rattle.jk_columns.proofs.Moved.{moved_bit}
use Rattle.jk_columns.proofs.refining.moved.Goals as goal

pub returns : goal.returns
returns c = λ x i h l. moved_bit c.args.places (c.args.line + 1) c.args.bit x i c.requires.bit h l
