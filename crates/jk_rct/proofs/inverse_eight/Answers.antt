use Rattle.std.proofs.Common.{◌+◌, ◌^◌, arith}
use Rattle.jk_math.proofs.Laws.{adds_fit, subs_fit, stored}
use Rattle.jk_rct.proofs.EightPixels.{lanes_a, lanes_b, lanes_c, quarter_lanes, i0_lanes, i1_lanes, i2_lanes}
use Rattle.jk_rct.proofs.inverse_eight.Goals as goal

pub overflow_add-i1 : goal.overflow_add-i1
overflow_add-i1 c = adds_fit (2 ^ 29) (2 ^ 29) _ _ _ _ (omega arith) (lanes_b c.args.a.now c.args.b.now c.args.c.now c.args.at (omega arith) (omega arith) (omega arith) c.requires.small_a c.requires.small_b c.requires.small_c) (lanes_c c.args.a.now c.args.b.now c.args.c.now c.args.at (omega arith) (omega arith) (omega arith) c.requires.small_a c.requires.small_b c.requires.small_c)

pub overflow_sub-i1 : goal.overflow_sub-i1
overflow_sub-i1 c = subs_fit (2 ^ 29) (2 ^ 28 + 1) _ _ _ _ (omega arith) (lanes_a c.args.a.now c.args.b.now c.args.c.now c.args.at (omega arith) (omega arith) (omega arith) c.requires.small_a c.requires.small_b c.requires.small_c) (quarter_lanes c.args.a.now c.args.b.now c.args.c.now c.args.at (omega arith) (omega arith) (omega arith) c.requires.small_a c.requires.small_b c.requires.small_c)

pub overflow_add-a : goal.overflow_add-a
overflow_add-a c = adds_fit (2 ^ 29) (2 ^ 30) _ _ _ _ (omega arith) (lanes_c c.args.a.now c.args.b.now c.args.c.now c.args.at (omega arith) (omega arith) (omega arith) c.requires.small_a c.requires.small_b c.requires.small_c) (i1_lanes c.args.a.now c.args.b.now c.args.c.now c.args.at (omega arith) (omega arith) (omega arith) c.requires.small_a c.requires.small_b c.requires.small_c)

pub overflow_add-c : goal.overflow_add-c
overflow_add-c c = adds_fit (2 ^ 29) (2 ^ 30) _ _ _ _ (omega arith) (lanes_b c.args.a.now c.args.b.now c.args.c.now c.args.at (omega arith) (omega arith) (omega arith) c.requires.small_a c.requires.small_b c.requires.small_c) (i1_lanes c.args.a.now c.args.b.now c.args.c.now c.args.at (omega arith) (omega arith) (omega arith) c.requires.small_a c.requires.small_b c.requires.small_c)

pub returns : goal.returns
returns c = record {
  i0 = stored (2 ^ 31) _ _ c.args.at c.args.a.now (i0_lanes c.args.a.now c.args.b.now c.args.c.now c.args.at (omega arith) (omega arith) (omega arith) c.requires.small_a c.requires.small_b c.requires.small_c) (omega arith);
  i1 = stored (2 ^ 30) _ _ c.args.at c.args.b.now (i1_lanes c.args.a.now c.args.b.now c.args.c.now c.args.at (omega arith) (omega arith) (omega arith) c.requires.small_a c.requires.small_b c.requires.small_c) (omega arith);
  i2 = stored (2 ^ 31) _ _ c.args.at c.args.c.now (i2_lanes c.args.a.now c.args.b.now c.args.c.now c.args.at (omega arith) (omega arith) (omega arith) c.requires.small_a c.requires.small_b c.requires.small_c) (omega arith);
}
