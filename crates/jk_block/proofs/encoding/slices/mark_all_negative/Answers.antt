use Rattle.std.proofs.Common.{◌≡◌, ◌∙◌, ◌+◌, ◌*◌, ◌/◌, length, ap, refl, subst, sym, arith}
use Rattle.jk_scan.specs.Flags.{IsDrawn, across}
use Rattle.jk_block.specs.encoding.Slices.{negative_to}
use Rattle.jk_block.proofs.encoding.Negatives.{negative_none, negative_all}
use Rattle.jk_block.proofs.encoding.slices.mark_all_negative.Goals as goal

pub loop-stripe-init : goal.loop-stripe-init
loop-stripe-init c = (
  refl,
  λ q short sliced.
      let s = c.args.shape in
      let words = c.args.words.now in
      subst (λ n. IsDrawn s (negative_to s q n) words) (let e : 0 ≡ 0 * across s = omega arith in e)
      (subst (λ ws. IsDrawn s (negative_to s q 0) ws) (sym c.requires.unmarked.1) (negative_none s q (length words))),
)

pub loop-stripe-preserved : goal.loop-stripe-preserved
loop-stripe-preserved c = (
  c.mark_negative.ensures.length ∙ c.loop-stripe.invariant.0,
  λ q short sliced. c.mark_negative.ensures.marked q short sliced (c.loop-stripe.invariant.1 q short sliced),
)

pub returns-clause-marked : goal.returns-clause-marked
returns-clause-marked c = λ q short sliced.
    let s = c.args.shape in
    let l = c.loop-stripe in
    negative_all s q (l.stripe * across s) l.words (let e : l.stripe ≡ (s.height + 3) / 4 = omega arith in ap (λ n. n * across s) e) (l.invariant.1 q short sliced)
