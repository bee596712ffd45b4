use Rattle.std.proofs.Common.{◌+◌, ◌^◌, arith}
use Rattle.jk_math.proofs.Laws.{adds_fit, subs_fit, stored}
use Rattle.jk_rct.proofs.EightPixels.{lanes_a, lanes_b, lanes_c, twice_lanes, part_lanes, y0_lanes, y1_lanes, y2_lanes}
use Rattle.jk_rct.proofs.forward_eight.Goals as goal

pub overflow_add-sum : goal.overflow_add-sum
overflow_add-sum c = adds_fit (2 ^ 29) (2 ^ 29) _ _ _ _ (omega arith) (lanes_b c.args.a.now c.args.b.now c.args.c.now c.args.at (omega arith) (omega arith) (omega arith) c.requires.small_a c.requires.small_b c.requires.small_c) (lanes_b c.args.a.now c.args.b.now c.args.c.now c.args.at (omega arith) (omega arith) (omega arith) c.requires.small_a c.requires.small_b c.requires.small_c)

pub overflow_add-sum-2 : goal.overflow_add-sum-2
overflow_add-sum-2 c = adds_fit (2 ^ 29) (2 ^ 30) _ _ _ _ (omega arith) (lanes_a c.args.a.now c.args.b.now c.args.c.now c.args.at (omega arith) (omega arith) (omega arith) c.requires.small_a c.requires.small_b c.requires.small_c) (twice_lanes c.args.a.now c.args.b.now c.args.c.now c.args.at (omega arith) (omega arith) (omega arith) c.requires.small_a c.requires.small_b c.requires.small_c)

pub overflow_add-sum-3 : goal.overflow_add-sum-3
overflow_add-sum-3 c = adds_fit (2 ^ 30 + 2 ^ 29) (2 ^ 29) _ _ _ _ (omega arith) (part_lanes c.args.a.now c.args.b.now c.args.c.now c.args.at (omega arith) (omega arith) (omega arith) c.requires.small_a c.requires.small_b c.requires.small_c) (lanes_c c.args.a.now c.args.b.now c.args.c.now c.args.at (omega arith) (omega arith) (omega arith) c.requires.small_a c.requires.small_b c.requires.small_c)

pub overflow_sub-b : goal.overflow_sub-b
overflow_sub-b c = subs_fit (2 ^ 29) (2 ^ 29) _ _ _ _ (omega arith) (lanes_c c.args.a.now c.args.b.now c.args.c.now c.args.at (omega arith) (omega arith) (omega arith) c.requires.small_a c.requires.small_b c.requires.small_c) (lanes_b c.args.a.now c.args.b.now c.args.c.now c.args.at (omega arith) (omega arith) (omega arith) c.requires.small_a c.requires.small_b c.requires.small_c)

pub overflow_sub-c : goal.overflow_sub-c
overflow_sub-c c = subs_fit (2 ^ 29) (2 ^ 29) _ _ _ _ (omega arith) (lanes_a c.args.a.now c.args.b.now c.args.c.now c.args.at (omega arith) (omega arith) (omega arith) c.requires.small_a c.requires.small_b c.requires.small_c) (lanes_b c.args.a.now c.args.b.now c.args.c.now c.args.at (omega arith) (omega arith) (omega arith) c.requires.small_a c.requires.small_b c.requires.small_c)

pub returns : goal.returns
returns c = record {
  y0 = stored (2 ^ 29 + 1) _ _ c.args.at c.args.a.now (y0_lanes c.args.a.now c.args.b.now c.args.c.now c.args.at (omega arith) (omega arith) (omega arith) c.requires.small_a c.requires.small_b c.requires.small_c) (omega arith);
  y1 = stored (2 ^ 30) _ _ c.args.at c.args.b.now (y1_lanes c.args.a.now c.args.b.now c.args.c.now c.args.at (omega arith) (omega arith) (omega arith) c.requires.small_a c.requires.small_b c.requires.small_c) (omega arith);
  y2 = stored (2 ^ 30) _ _ c.args.at c.args.c.now (y2_lanes c.args.a.now c.args.b.now c.args.c.now c.args.at (omega arith) (omega arith) (omega arith) c.requires.small_a c.requires.small_b c.requires.small_c) (omega arith);
}
