use Rattle.std.proofs.Common.{◌<◌, ◌^◌, length, arith}
use Rattle.std.proofs.lemmas.List.{get_or-set_same}
use Rattle.jk_lift.proofs.Places.{read_is, entry_below}
use Rattle.jk_lift.proofs.Analysis.{AnalysesLine-one_even, AnalysesLine-one_odd, doubled_is}
use Rattle.jk_lift.proofs.line.analyse_line.Goals as goal

pub returns-then-start-eq0 : goal.returns-then-start-eq0
returns-then-start-eq0 c =
    let room : 0 < length c.args.low.now = omega arith in
    AnalysesLine-one_even c.args.start c.args.line.now _ _ (omega arith) (omega arith) (rw get_or-set_same (read_is c.args.line.now c.requires.small 0))

pub returns-else-start-eq0 : goal.returns-else-start-eq0
returns-else-start-eq0 c =
    let room : 0 < length c.args.high.now = omega arith in
    AnalysesLine-one_odd c.args.start c.args.line.now _ _ (omega arith) (omega arith)
    (rw get_or-set_same (doubled_is _ (entry_below (2 ^ 29) c.args.line.now (omega arith) c.requires.small 0)))
