use Rattle.std.proofs.Common.{◌≡◌, ◌+◌, ◌*◌, ℕ, subst, arith, rules, w32}
use mir.Val.{SFits}
use Rattle.jk_rct.specs.Colour.{y0_of, y1_of, y2_of}
use Rattle.jk_rct.proofs.Pixels.{IsMapped, IsMapped-eight, IsMapped-written, rest_below}
use Rattle.jk_rct.proofs.forward.Goals as goal

pub forward_eight-requires-clause-small_a : goal.forward_eight-requires-clause-small_a
forward_eight-requires-clause-small_a c = rest_below (8 * c.loop-eight.eight) c.args.a.now c.loop-eight.a c.requires.small_a (omega arith) c.loop-eight.invariant.rest0

pub forward_eight-requires-clause-small_b : goal.forward_eight-requires-clause-small_b
forward_eight-requires-clause-small_b c = rest_below (8 * c.loop-eight.eight) c.args.b.now c.loop-eight.b c.requires.small_b (omega arith) c.loop-eight.invariant.rest1

pub forward_eight-requires-clause-small_c : goal.forward_eight-requires-clause-small_c
forward_eight-requires-clause-small_c c = rest_below (8 * c.loop-eight.eight) c.args.c.now c.loop-eight.c c.requires.small_c (omega arith) c.loop-eight.invariant.rest2

pub loop-eight-preserved : goal.loop-eight-preserved
loop-eight-preserved c =
    let k : ℕ = 8 * c.loop-eight.eight in
    let next : k + 8 ≡ 8 * (c.loop-eight.eight + 1) = omega arith in
    let made = c.forward_eight in
    subst (λ n. IsMapped y0_of y1_of y2_of n c.args.a.now c.args.b.now c.args.c.now made.new.a made.new.b made.new.c) next
    (IsMapped-eight y0_of y1_of y2_of k c.args.a.now c.args.b.now c.args.c.now c.loop-eight.a c.loop-eight.b c.loop-eight.c made.new.a made.new.b made.new.c
    c.loop-eight.invariant made.ensures.y0 made.ensures.y1 made.ensures.y2)

pub loop-k-preserved : goal.loop-k-preserved
loop-k-preserved c =
    let pixel = c.forward_pixel-y0 in
    let fits0 : SFits w32 pixel.result.0 = search rules in
    let fits1 : SFits w32 pixel.result.1 = search rules in
    let fits2 : SFits w32 pixel.result.2 = search rules in
    IsMapped-written y0_of y1_of y2_of c.loop-k.k c.args.a.now c.args.b.now c.args.c.now c.loop-k.a c.loop-k.b c.loop-k.c _ _ _ c.loop-k.invariant
    c.requires.small_a c.requires.small_b c.requires.small_c (omega arith) (omega arith) (omega arith) (omega arith) (omega arith) (omega arith)
    fits0 fits1 fits2 pixel.ensures.y0 pixel.ensures.y1 pixel.ensures.y2
