use Rattle.std.proofs.Common.{◌*◌, ◌∙◌, ap, sym, arith}
use Rattle.jk_extras.proofs.PerInch.{some_product, none_raised, more_raised, next_power}
use Rattle.jk_extras.proofs.inches.raised.Goals as goal

pub reduced-requires-clause-below : goal.reduced-requires-clause-below
reduced-requires-clause-below c =
    some_product 254 c.args.d c.loop-power.scale c.loop-power.power (omega arith) c.requires.some.1 c.loop-power.invariant.0

pub loop-power-preserved : goal.loop-power-preserved
loop-power-preserved c = (
  ap (λ k. k * 10) c.loop-power.invariant.0 ∙ sym (next_power c.loop-power.power),
  more_raised c.args.n c.args.d c.args.from c.loop-power.power c.loop-power.invariant.1
      (none_raised c.args.n c.args.d c.loop-power.power c.loop-power.scale c.loop-power.invariant.0 c.in_default.ensures.only),
)
