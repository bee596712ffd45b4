use Rattle.std.proofs.Common.{◌*◌}
use Rattle.jk_lift.proofs.Analysis.{IsAnalysed}
use Rattle.jk_lift.proofs.line.analyse_long.Given as goal

abbrev pub invariant-loop-eight : goal.invariant-loop-eight
invariant-loop-eight l = IsAnalysed l.start (8 * l.eight) l.line l.low l.high l.before

abbrev pub invariant-loop-k : goal.invariant-loop-k
invariant-loop-k l = IsAnalysed l.start l.k l.line l.low l.high l.before
