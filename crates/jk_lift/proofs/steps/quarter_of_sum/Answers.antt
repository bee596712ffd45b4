use Rattle.std.proofs.Common.{◌^◌, arith}
use Rattle.std.proofs.lemmas.Int.{ints}
use Rattle.jk_lift.proofs.Halving.{quarter_shifted, quarter_within}
use Rattle.jk_lift.proofs.steps.quarter_of_sum.Goals as goal

pub returns-clause-within : goal.returns-clause-within
returns-clause-within c =
    let near = quarter_within (2 ^ 29) c.args.a c.args.b (omega (arith, ints), omega (arith, ints)) (omega (arith, ints), omega (arith, ints)) in
    rw (quarter_shifted c.args.a c.args.b c.requires.a c.requires.b) (omega (arith, ints), omega (arith, ints))

pub returns-clause-near : goal.returns-clause-near
returns-clause-near c = λ a b.
    let near = quarter_within (2 ^ 28) c.args.a c.args.b a b in
    rw (quarter_shifted c.args.a c.args.b c.requires.a c.requires.b) (omega (arith, ints), omega (arith, ints))
