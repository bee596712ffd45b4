use Rattle.std.proofs.Common.{sym, ap, arith}
use Rattle.jk_marks.specs.declared.coding.Coding.{Coding}
use Rattle.jk_tile.proofs.encoding.ComponentFalls.{given_first, next_given, end_low, end_high}
use Rattle.jk_tile.proofs.encoding.falling.rows_made.Goals as goal

pub loop-n-init : goal.loop-n-init
loop-n-init c = let s = c.args.source.now in record { at = sym (given_first s.rect s.coding.levels c.args.e); small = (let lower = c.rect-rect.ensures.frame.area.lower in omega (arith, c.requires.e, lower)) }

pub loop-n-preserved : goal.loop-n-preserved
loop-n-preserved c =
    let s = c.args.source.now in
    let small = c.rows_fallen.ensures.small in
    record {
      at = next_given s c.rect-rect.result c.resolution.result c.coding.result.now.levels c.args.e c.loop-n.n c.loop-n.t c.rows_fallen.result c.rect-rect.ensures.value (ap (λ (k : Coding). k.levels) c.coding.ensures.value)
          c.resolution.ensures.value c.loop-n.invariant.at c.rows_fallen.ensures.value;
      small = omega (arith, small);
    }

pub returns-then-r-eq0-clause-value : goal.returns-then-r-eq0-clause-value
returns-then-r-eq0-clause-value c =
    let s = c.args.source.now in
    end_low s c.args.e c.args.r c.args.i c.loop-n.n c.loop-n.t c.coding.result.now.levels (ap (λ (k : Coding). k.levels) c.coding.ensures.value) c.if-r-eq0.true (omega (arith, c.loop-n-test.false, c.loop-n.auto.n-end)) c.loop-n.invariant.at

pub returns-clause-value : goal.returns-clause-value
returns-clause-value c =
    let s = c.args.source.now in
    let some = c.if-r-eq0.false in
    end_high s c.rect-rect.result c.resolution-2.result c.args.e c.args.r c.args.i c.loop-n.n c.loop-n.t c.rows_fallen-made.result c.coding.result.now.levels c.rect-rect.ensures.value (ap (λ (k : Coding). k.levels) c.coding.ensures.value)
    (omega (arith, some)) c.requires.r (omega (arith, c.loop-n-test.false, c.loop-n.auto.n-end)) c.resolution-2.ensures.value c.loop-n.invariant.at c.rows_fallen-made.ensures.value
