use Rattle.std.proofs.Common.{arith}
use Rattle.jk_scan.proofs.Neighbourhoods.{neighbourhood_is}
use Rattle.jk_scan.proofs.around.neighbourhood.Goals as goal

pub returns : goal.returns
returns c = neighbourhood_is c.args.centre c.args.west c.args.east c.args.k (omega arith) (omega arith)
