use Rattle.std.proofs.Common.{◌≡◌, ◌∙◌, refl, ◌+◌, ◌*◌, subst, arith}
use Rattle.std.proofs.lemmas.List.{length-set}
use Rattle.jk_scan.specs.Flags.{IsDrawn, across}
use Rattle.jk_block.specs.encoding.Slices.{negative_to}
use Rattle.jk_block.proofs.encoding.Negatives.{negative_more}
use Rattle.jk_block.proofs.encoding.slices.mark_negative.Goals as goal

pub loop-word-init : goal.loop-word-init
loop-word-init c = (
  refl,
  λ q short sliced drawn.
      let s = c.args.shape in
      subst (λ n. IsDrawn s (negative_to s q n) c.args.words.now) (let e : c.args.stripe * across s ≡ c.args.stripe * across s + 0 = omega arith in e) drawn,
)

pub loop-word-preserved : goal.loop-word-preserved
loop-word-preserved c = (
  length-set c.loop-word.words c.word_place.result c.ones.result ∙ c.loop-word.invariant.0,
  λ q short sliced drawn.
      let l = c.loop-word in
      negative_more c.args.shape q l.words l.word c.args.stripe c.word_place.result c.ones.result c.requires.sized (let n = l.invariant.0 in omega (arith, n)) (omega arith) c.requires.stripe c.word_place.ensures.place short (c.ones.ensures 24 q sliced) (l.invariant.1 q short sliced drawn),
)

pub returns-clause-marked : goal.returns-clause-marked
returns-clause-marked c = λ q short sliced drawn.
    let s = c.args.shape in
    let l = c.loop-word in
    subst (λ n. IsDrawn s (negative_to s q n) l.words) (let e : c.args.stripe * across s + l.word ≡ (c.args.stripe + 1) * across s = omega arith in e) (l.invariant.1 q short sliced drawn)
