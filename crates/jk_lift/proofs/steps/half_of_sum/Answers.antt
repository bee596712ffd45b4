use Rattle.std.proofs.Common.{◌^◌}
use Rattle.jk_lift.proofs.Halving.{half_shifted, half_within}
use Rattle.jk_lift.proofs.steps.half_of_sum.Goals as goal

pub returns-clause-near : goal.returns-clause-near
returns-clause-near c = λ a b. rw (half_shifted c.args.a c.args.b c.requires.a c.requires.b) (half_within (2 ^ 29) c.args.a c.args.b a b)
