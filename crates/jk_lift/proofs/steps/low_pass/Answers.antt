use Rattle.std.proofs.Common.{w32}
use Rattle.std.proofs.lemmas.Int.{to_z-of_z}
use mir.Val.{SFits}
use Rattle.jk_lift.proofs.Halving.{total_is}
use Rattle.jk_lift.proofs.steps.low_pass.Goals as goal

pub returns : goal.returns
returns c =
    let before_fits : SFits w32 c.args.before = c.ranges.before in
    let after_fits : SFits w32 c.args.after = c.ranges.after in
    let value = simp to_z-of_z at c.quarter_of_sum.ensures.value in
    record { value = total_is c.args.sample c.quarter_of_sum.result _ c.requires.sample c.quarter_of_sum.ensures.within value }
