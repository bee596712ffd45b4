use Rattle.std.proofs.Common.{◌≡◌, length, List, ℤ, ◌∙◌, ap, subst, sym, arith}
use Rattle.std.specs.Prelude.{reverse}
use Rattle.jk_math.specs.Lists.{lists_of}
use Rattle.jk_wave.proofs.Leaving.{IsLeft, AreAside, left_first, aside_first, left_more, aside_more, left_small, left_length, all_bands, lists_turned}
use Rattle.jk_wave.proofs.forward.level_bands.Goals as goal

pub loop-n-init : goal.loop-n-init
loop-n-init g c = record {
  left = left_first c.args.rect.now c.args.levels (g.S.RowSource.value_at c.args.source.now) c.in_ok-left.left.items c.requires.some c.in_ok-left.ensures.ll;
  aside = aside_first c.args.rect.now c.args.levels (g.S.RowSource.value_at c.args.source.now) (lists_of c.new-bands.result.items) (lists_of c.analyse_level.new.bands.items)
      c.requires.some (ap lists_of c.new-bands.ensures.items) c.in_ok-left.ensures.high;
}

pub analyse_level-requires-in-loop-n-clause-stands : goal.analyse_level-requires-in-loop-n-clause-stands
analyse_level-requires-in-loop-n-clause-stands g c = (
  c.resolution-area.ensures.area,
  ap (λ (l : List ℤ). length l) c.deref.ensures.value
      ∙ left_length c.args.rect.now c.args.levels c.loop-n.n (g.S.RowSource.value_at c.args.source.now) c.loop-n.left.items c.resolution-area.result c.resolution-area.ensures.value c.loop-n.invariant.left,
)

pub analyse_level-requires-in-loop-n-clause-small : goal.analyse_level-requires-in-loop-n-clause-small
analyse_level-requires-in-loop-n-clause-small g c =
    left_small c.args.rect.now c.args.levels c.loop-n.n (g.S.RowSource.value_at c.args.source.now) _ c.resolution-area.result c.loop-n-test.true c.requires.levels c.requires.small
    c.resolution-area.ensures.value
    (subst (IsLeft c.args.rect.now c.args.levels c.loop-n.n (g.S.RowSource.value_at c.args.source.now)) (sym c.deref.ensures.value) c.loop-n.invariant.left)

pub loop-n-preserved : goal.loop-n-preserved
loop-n-preserved g c =
    let f = g.S.RowSource.value_at c.args.source.now in
    let area = c.resolution-area.result in
    let lent = subst (IsLeft c.args.rect.now c.args.levels c.loop-n.n f) (sym c.deref.ensures.value) c.loop-n.invariant.left in
    record {
      left = c.in_ok-left-2.ensures.ll ∙ left_more c.args.rect.now c.args.levels c.loop-n.n f c.deref.result.now area c.loop-n-test.true c.resolution-area.ensures.value lent;
      aside = aside_more c.args.rect.now c.args.levels c.loop-n.n f c.deref.result.now area (lists_of c.loop-n.bands.items) (lists_of c.analyse_level-in-loop-n.new.bands.items)
          c.loop-n-test.true c.resolution-area.ensures.value lent c.in_ok-left-2.ensures.high c.loop-n.invariant.aside;
    }

pub returns-clause-exact : goal.returns-clause-exact
returns-clause-exact g c =
    let f = g.S.RowSource.value_at c.args.source.now in
    let top : c.loop-n.n ≡ c.args.levels = omega (arith, c.requires.some) in
    let aside = subst (λ n. AreAside c.args.rect.now c.args.levels n f (lists_of c.loop-n.bands.items)) top c.loop-n.invariant.aside in
    let left = subst (λ n. IsLeft c.args.rect.now c.args.levels n f c.loop-n.left.items) top c.loop-n.invariant.left in
    ap lists_of (c.reverse.ensures.items ∙ ap reverse c.in_ok-push.ensures.items) ∙ lists_turned c.loop-n.bands.items c.loop-n.left
    ∙ all_bands c.args.rect.now c.args.levels f (lists_of c.loop-n.bands.items) c.loop-n.left.items aside left
