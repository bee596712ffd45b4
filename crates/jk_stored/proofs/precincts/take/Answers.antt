use Rattle.std.proofs.Common.{◌∙◌}
use Rattle.jk_walk.specs.WalkReading.{blank_states}
use Rattle.jk_stored.proofs.precincts.take.Goals as goal

pub returns-in-Some-clause-value : goal.returns-in-Some-clause-value
returns-in-Some-clause-value c = c.in-Some.ensures.value (blank_states c.args.shape.now c.args.markers.sop c.args.markers.eph c.args.name.component c.args.name.resolution)

pub returns-in_ok-new-in-None-clause-value : goal.returns-in_ok-new-in-None-clause-value
returns-in_ok-new-in-None-clause-value c =
    c.in_ok-new-in-None.ensures.ok ∙ c.in_ok-blank-in-None.ensures
    ∙ c.in-None.ensures.value (blank_states c.args.shape.now c.args.markers.sop c.args.markers.eph c.args.name.component c.args.name.resolution)
