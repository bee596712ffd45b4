use Rattle.std.proofs.Common.{arith}
use Rattle.jk_scan.proofs.Geometry.{words_fit}
use Rattle.jk_scan.proofs.flags.seen_around.Goals as goal

pub seen_among-requires-clause-room : goal.seen_among-requires-clause-room
seen_among-requires-clause-room c = let f = words_fit c.args.shape c.requires.sized in omega (arith, f)
