use Rattle.std.proofs.Common.{◌≤ℤ◌, pos, negsuc, ap, sym, subst, ◌∙◌, arith, rules, w32}
use Rattle.std.proofs.lemmas.Int.{ints, to_z-of_z}
use mir.Val.{SFits}
use Rattle.jk_math.specs.Signed.{signed_at}
use Rattle.jk_tile.specs.Samples.{sample_of}
use Rattle.jk_tile.proofs.Sampling.{mapped_none, mapped_more, mapped_all, passed, small_at}
use Rattle.jk_tile.proofs.samples.to_samples.Goals as goal

pub loop-k-init : goal.loop-k-init
loop-k-init c = mapped_none (sample_of c.args.siz.now) c.args.values.now

pub sample-requires-clause-low : goal.sample-requires-clause-low
sample-requires-clause-low c =
    let small = small_at (sample_of c.args.siz.now) c.loop-k.k c.args.values.now c.loop-k.values c.loop-k.invariant c.requires.small c.loop-k-test.true in
    subst (λ z. negsuc 1073741823 ≤ℤ z) (sym (passed (signed_at c.loop-k.values c.loop-k.k) small)) (omega (arith, ints, small.0))

pub sample-requires-clause-high : goal.sample-requires-clause-high
sample-requires-clause-high c =
    let small = small_at (sample_of c.args.siz.now) c.loop-k.k c.args.values.now c.loop-k.values c.loop-k.invariant c.requires.small c.loop-k-test.true in
    subst (λ z. z ≤ℤ pos 1073741824) (sym (passed (signed_at c.loop-k.values c.loop-k.k) small)) (omega (arith, ints, small.1))

pub loop-k-preserved : goal.loop-k-preserved
loop-k-preserved c =
    let f = sample_of c.args.siz.now in
    let small = small_at f c.loop-k.k c.args.values.now c.loop-k.values c.loop-k.invariant c.requires.small c.loop-k-test.true in
    let fits : SFits w32 c.sample.result = search rules in
    mapped_more f c.loop-k.k c.args.values.now c.loop-k.values _ c.loop-k.invariant c.loop-k-test.true
    (to_z-of_z w32 c.sample.result fits ∙ c.sample.ensures ∙ ap f (passed (signed_at c.loop-k.values c.loop-k.k) small))

pub returns : goal.returns
returns c = mapped_all (sample_of c.args.siz.now) c.loop-k.k c.args.values.now c.loop-k.values c.loop-k.invariant c.loop-k-test.false
