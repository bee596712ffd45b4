use Rattle.std.proofs.Common.{sym, ◌∙◌}
use Rattle.jk_beside.proofs.Decimals.{held_some, same_pair, some_denominator}
use Rattle.jk_beside.proofs.words.inches.Goals as goal

pub returns-in_err-numerator-clause-some : goal.returns-in_err-numerator-clause-some
returns-in_err-numerator-clause-some c r held =
    let some = c.decimal.ensures.some held.inches.n held.inches.d held.inches.decimal held.above held.below in
    absurd (let clash = sym c.in_err-numerator.was ∙ some in cc)

pub returns-clause-some : goal.returns-clause-some
returns-clause-some c r held =
    let some = c.decimal.ensures.some held.inches.n held.inches.d held.inches.decimal held.above held.below in
    let same = same_pair held.inches.n held.inches.d c.in_ok-numerator.numerator c.in_ok-numerator.denominator (sym some ∙ c.in_ok-numerator.was) in
    held_some c.in_ok-numerator.numerator c.in_ok-numerator.denominator held.inches.n held.inches.d c.per_inch.result c.per_inch.ensures.only
    (sym same.0) (sym same.1) r held.small (some_denominator c.args.text.now held.inches.n held.inches.d held.inches.decimal) held.inches.ratio
