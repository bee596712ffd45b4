use Rattle.std.proofs.Common.{◌*◌}
use Rattle.jk_rct.specs.Colour.{y0_of, y1_of, y2_of}
use Rattle.jk_rct.proofs.Pixels.{IsMapped}
use Rattle.jk_rct.proofs.forward.Given as goal

abbrev pub invariant-loop-eight : goal.invariant-loop-eight
invariant-loop-eight l = IsMapped y0_of y1_of y2_of (8 * l.eight) l.fn.a l.fn.b l.fn.c l.a l.b l.c

abbrev pub invariant-loop-k : goal.invariant-loop-k
invariant-loop-k l = IsMapped y0_of y1_of y2_of l.k l.fn.a l.fn.b l.fn.c l.a l.b l.c
