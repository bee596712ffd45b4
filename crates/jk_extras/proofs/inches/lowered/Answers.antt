use Rattle.std.proofs.Common.{◌*◌, ◌<◌, ◌^◌, ◌∙◌, ◌+◌, refl, subst, sym, arith}
use Rattle.std.proofs.Common.{w8, to_z, of_z, unsigned_abs}
use Rattle.std.proofs.lemmas.Int.{to_z-of_z, fits_signed_from_abs}
use Rattle.jk_extras.specs.Inches.{IsReduced}
use Rattle.jk_extras.proofs.PerInch.{some_product, none_lowered, more_lowered, lowered_is, next_part}
use Rattle.jk_extras.proofs.inches.lowered.Goals as goal

pub reduced-requires-clause-above : goal.reduced-requires-clause-above
reduced-requires-clause-above c =
    subst (λ x. 0 < x) (sym (next_part c.loop-less.above c.args.n c.loop-less.less c.loop-less.invariant.0))
    (some_product 10000 c.args.n (10 ^ (c.loop-less.less + 1)) (c.loop-less.less + 1) (omega arith) c.requires.some.0 refl)

pub loop-less-preserved : goal.loop-less-preserved
loop-less-preserved c =
    let next = next_part c.loop-less.above c.args.n c.loop-less.less c.loop-less.invariant.0 in (
      next,
      more_lowered c.args.n c.args.d c.loop-less.less c.loop-less.invariant.1
          (none_lowered c.args.n c.args.d c.loop-less.less (c.loop-less.above * 10) next c.in_default.ensures.only),
    )

pub returns-in-Some-clause-exact : goal.returns-in-Some-clause-exact
returns-in-Some-clause-exact c =
    let next = next_part c.loop-less.above c.args.n c.loop-less.less c.loop-less.invariant.0 in
    let is = subst (λ a. IsReduced a (254 * c.args.d) c.in-Some.numerator c.in-Some.denominator) next c.in-Some.ensures.same in
    lowered_is c.args.n c.args.d c.loop-less.less (record { numerator = c.in-Some.numerator; denominator = c.in-Some.denominator; exponent = to_z w8 (of_z w8 c.below_zero.result) })
    (to_z-of_z w8 c.below_zero.result (fits_signed_from_abs w8 c.below_zero.result (subst (λ z. unsigned_abs z < 128) (sym c.below_zero.ensures) (omega arith))) ∙ c.below_zero.ensures) is
