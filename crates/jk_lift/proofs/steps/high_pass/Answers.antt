use Rattle.std.proofs.Common.{refl, arith, w32}
use Rattle.std.proofs.lemmas.Int.{ints, to_z-of_z}
use mir.Val.{SFits}
use Rattle.jk_lift.proofs.Halving.{difference_is}
use Rattle.jk_lift.proofs.steps.high_pass.Goals as goal

pub returns-clause-value : goal.returns-clause-value
returns-clause-value c =
    let before_fits : SFits w32 c.args.before = c.ranges.before in
    let after_fits : SFits w32 c.args.after = c.ranges.after in
    let value = simp to_z-of_z at c.half_of_sum.ensures.value in
    difference_is c.args.sample c.half_of_sum.result _ c.requires.sample c.half_of_sum.ensures.within value

pub returns-clause-within : goal.returns-clause-within
returns-clause-within c = λ a b.
    let before_fits : SFits w32 c.args.before = c.ranges.before in
    let after_fits : SFits w32 c.args.after = c.ranges.after in
    let near = c.half_of_sum.ensures.near (rw to_z-of_z a) (rw to_z-of_z b) in
    rw (difference_is c.args.sample c.half_of_sum.result c.half_of_sum.result c.requires.sample c.half_of_sum.ensures.within refl) (omega (arith, ints), omega (arith, ints))
