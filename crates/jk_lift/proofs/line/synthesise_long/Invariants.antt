use Rattle.std.proofs.Common.{◌*◌, length}
use Rattle.jk_lift.proofs.Synthesis.{IsSynthesised}
use Rattle.jk_lift.proofs.line.synthesise_long.Given as goal

abbrev pub invariant-loop-eight : goal.invariant-loop-eight
invariant-loop-eight l = IsSynthesised l.start (length l.fn.line) (8 * l.eight) l.low l.high l.line l.before

abbrev pub invariant-loop-k : goal.invariant-loop-k
invariant-loop-k l = IsSynthesised l.start (length l.fn.line) l.k l.low l.high l.line l.before
