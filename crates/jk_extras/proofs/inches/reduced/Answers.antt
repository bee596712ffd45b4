use Rattle.jk_extras.proofs.Ratios.{some_divisor, reduced_is, none_fits}
use Rattle.jk_extras.proofs.inches.reduced.Goals as goal

pub nonzero_div-numerator : goal.nonzero_div-numerator
nonzero_div-numerator c = some_divisor c.args.above c.args.below c.common-divisor.result c.requires.above c.common-divisor.ensures

pub nonzero_div-denominator : goal.nonzero_div-denominator
nonzero_div-denominator c = some_divisor c.args.above c.args.below c.common-divisor.result c.requires.above c.common-divisor.ensures

pub returns-clause-same : goal.returns-clause-same
returns-clause-same c = reduced_is c.args.above c.args.below c.common-divisor.result c.requires.above c.requires.below c.common-divisor.ensures

pub returns-then-numerator-gt65535-clause-only : goal.returns-then-numerator-gt65535-clause-only
returns-then-numerator-gt65535-clause-only c x y small low r =
    none_fits c.args.above c.args.below c.common-divisor.result x y c.requires.above c.requires.below c.common-divisor.ensures
    c.then-numerator-gt65535.either small low r
