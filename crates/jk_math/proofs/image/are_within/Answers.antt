use Rattle.std.proofs.Common.{◌≤ℤ◌, ℤ, arith}
use Rattle.jk_math.specs.Picture.{lowest, greatest}
use Rattle.jk_math.proofs.PictureLemmas.{all_upto_more, all_upto_last}
use Rattle.jk_math.proofs.image.are_within.Goals as goal

pub loop-sample-preserved : goal.loop-sample-preserved
loop-sample-preserved c = let P : ℤ → Type 0 = λ s. (lowest c.args.depth c.args.signed ≤ℤ s) × (s ≤ℤ greatest c.args.depth c.args.signed) in
    all_upto_more P c.args.samples.now c.loop-sample.sample-index c.loop-sample.within c.is_within-within.result c.loop-sample.invariant c.is_within-within.ensures

pub returns : goal.returns
returns c = let P : ℤ → Type 0 = λ s. (lowest c.args.depth c.args.signed ≤ℤ s) × (s ≤ℤ greatest c.args.depth c.args.signed) in
    all_upto_last P c.args.samples.now c.loop-sample.sample-index c.loop-sample.within (omega (arith, c.loop-sample-test.false)) c.loop-sample.invariant (omega (arith, c.loop-sample.auto.sample-index-end))
