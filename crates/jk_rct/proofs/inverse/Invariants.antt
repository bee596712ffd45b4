use Rattle.std.proofs.Common.{◌*◌}
use Rattle.jk_rct.specs.Colour.{i0_of, i1_of, i2_of}
use Rattle.jk_rct.proofs.Pixels.{IsMapped}
use Rattle.jk_rct.proofs.inverse.Given as goal

abbrev pub invariant-loop-eight : goal.invariant-loop-eight
invariant-loop-eight l = IsMapped i0_of i1_of i2_of (8 * l.eight) l.fn.a l.fn.b l.fn.c l.a l.b l.c

abbrev pub invariant-loop-k : goal.invariant-loop-k
invariant-loop-k l = IsMapped i0_of i1_of i2_of l.k l.fn.a l.fn.b l.fn.c l.a l.b l.c
