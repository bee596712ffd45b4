use Rattle.std.proofs.Common.{rules}
use Rattle.jk_window.proofs.packing.layout_of.Goals as goal

pub are_short-requires : goal.are_short-requires
are_short-requires c = (c.args.base, search rules)
