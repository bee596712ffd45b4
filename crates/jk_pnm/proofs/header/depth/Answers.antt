use Rattle.std.proofs.Common.{◌≡◌, ◌+◌, ◌*◌, ◌%◌, ◌^◌, true, false, eqb, sym, ◌∙◌, arith}
use Rattle.std.proofs.lemmas.Bool.{ne_eqb, eq-eqb}
use Rattle.std.proofs.lemmas.Nat.{one_shl}
use Rattle.jk_pnm.proofs.HeaderSteps.{depth_starts, depth_more, depth_met, depth_none}
use Rattle.jk_pnm.proofs.header.depth.Goals as goal

pub loop-depth-init : goal.loop-depth-init
loop-depth-init c = depth_starts c.args.maxval

pub loop-depth-preserved : goal.loop-depth-preserved
loop-depth-preserved c =
    let d = c.loop-depth.depth in
    let shifted : 1 * 2 ^ d % 2 ^ 32 ≡ 2 ^ d = one_shl d 32 (omega arith) in
    let other : eqb (2 ^ d) (c.args.maxval + 1) ≡ false = ne_eqb (2 ^ d) (c.args.maxval + 1) (λ e. c.if-depth-maxval.false (shifted ∙ e)) in
    sym (depth_more c.args.maxval d c.loop-depth-test.true other) ∙ c.loop-depth.invariant

pub returns-then-depth-maxval : goal.returns-then-depth-maxval
returns-then-depth-maxval c =
    let d = c.loop-depth.depth in
    let shifted : 1 * 2 ^ d % 2 ^ 32 ≡ 2 ^ d = one_shl d 32 (omega arith) in
    let met : eqb (2 ^ d) (c.args.maxval + 1) ≡ true = eq-eqb (2 ^ d) (c.args.maxval + 1) (sym shifted ∙ c.if-depth-maxval.true) in
    record {
      exact = sym c.loop-depth.invariant ∙ depth_met c.args.maxval d c.loop-depth-test.true met;
      value = sym shifted ∙ c.if-depth-maxval.true;
      bits = (omega arith, omega arith);
    }

pub returns : goal.returns
returns c = record { exact = sym c.loop-depth.invariant ∙ depth_none c.args.maxval c.loop-depth.depth (omega arith); value = tt; bits = tt }
