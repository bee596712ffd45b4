use Rattle.std.proofs.Common.{rules}
use Rattle.jk_beside.proofs.Decimals.{power_fits}
use Rattle.jk_beside.proofs.words.power_of_ten.Goals as goal

pub returns-in_err-power-clause-some : goal.returns-in_err-power-clause-some
returns-in_err-power-clause-some c small =
    let fits = power_fits c.loop.power c.loop.counter c.args.exponent c.loop.invariant c.loop-test.true small in
    search rules
