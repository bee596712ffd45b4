use Rattle.std.proofs.Common.{◌*◌}
use Rattle.jk_store.proofs.PartsLaws.{part_from}
use Rattle.jk_store.proofs.parts.part.Goals as goal

pub returns : goal.returns
returns c = part_from c.args.bytes.now (c.args.number * 16384) c.min.result c.min.ensures
