use Rattle.std.proofs.Common.{arith}
use Rattle.std.specs.Str.Parse.{digits_value_after}
use Rattle.jk_beside.proofs.Decimals.{not_none}
use Rattle.jk_beside.proofs.Digits.{no_less}
use Rattle.jk_beside.proofs.words.quotient.Goals as goal

pub returns-in_err-before-clause-some : goal.returns-in_err-before-clause-some
returns-in_err-before-clause-some c n d q above below =
    let more = no_less (digits_value_after 10 0 c.args.whole.now) c.args.fraction.now in
    let is = q.numerator in
    absurd (not_none c.digits_behind.result (c.digits_behind.ensures.some q.digits (omega arith)) c.in_err-before.was)
