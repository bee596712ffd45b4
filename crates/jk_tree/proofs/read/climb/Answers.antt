use Rattle.std.proofs.Common.{◌+◌, ◌-◌, Bool, true, cond, refl, sym, ◌∙◌, Ok, ap, arith}
use Rattle.std.proofs.lemmas.Result.{err_from_is_err_and}
use Rattle.jk_bits.specs.Giving.{stays, stops_here, stops_on, bit_moves, moves_on}
use Rattle.jk_tree.specs.Asking.{climb}
use Rattle.jk_tree.proofs.Visits.{climb_err, climb_bit, climb_done}
use Rattle.jk_tree.proofs.read.climb.Goals as goal

pub returns-in_err-one-clause-exact : goal.returns-in_err-one-clause-exact
returns-in_err-one-clause-exact c =
    let p = err_from_is_err_and c.from_residual.result c.from_residual.ensures.1 in
    rw (p.1, p.2) (sym c.loop-low.invariant.told ∙ climb_err c.loop-low.low c.args.threshold c.loop-low.reader c.in_err-one.field-0.0 c.loop-low-test.true c.in_err-one.ensures.exact)

pub returns-in_err-one-clause-stops : goal.returns-in_err-one-clause-stops
returns-in_err-one-clause-stops c =
    let p = err_from_is_err_and c.from_residual.result c.from_residual.ensures.1 in
    rw p.1 (stops_on c.args.reader.now c.loop-low.reader c.bit.new.self c.loop-low.invariant.moved (stops_here c.loop-low.reader c.bit.new.self c.in_err-one.ensures.failed))

pub loop-low-init : goal.loop-low-init
loop-low-init c = record { within = c.requires; moved = stays c.args.reader.now; told = refl }

pub returns-then-one-clause-exact : goal.returns-then-one-clause-exact
returns-then-one-clause-exact c =
    sym c.loop-low.invariant.told
    ∙ climb_bit c.loop-low.low c.args.threshold c.loop-low.reader c.in_ok-one.one c.bit.new.self c.loop-low-test.true c.in_ok-one.ensures.exact
    ∙ ap (λ (b : Bool). cond b (Ok (record { low = c.loop-low.low; known = true }, c.bit.new.self)) (climb (c.loop-low.low + 1) (c.args.threshold - (c.loop-low.low + 1)) c.bit.new.self)) c.if-one.true

pub loop-low-preserved : goal.loop-low-preserved
loop-low-preserved c = record {
  within = (let h = c.loop-low-test.true in omega (arith, h));
  moved = moves_on c.args.reader.now c.loop-low.reader c.bit.new.self c.loop-low.invariant.moved (bit_moves c.loop-low.reader (c.in_ok-one.one, c.bit.new.self) c.in_ok-one.ensures.exact);
  told =
      sym (sym c.loop-low.invariant.told
      ∙ climb_bit c.loop-low.low c.args.threshold c.loop-low.reader c.in_ok-one.one c.bit.new.self c.loop-low-test.true c.in_ok-one.ensures.exact
      ∙ ap (λ (b : Bool). cond b (Ok (record { low = c.loop-low.low; known = true }, c.bit.new.self)) (climb (c.loop-low.low + 1) (c.args.threshold - (c.loop-low.low + 1)) c.bit.new.self)) c.if-one.false);
}

pub returns-clause-exact : goal.returns-clause-exact
returns-clause-exact c = sym c.loop-low.invariant.told ∙ climb_done c.loop-low.low c.args.threshold c.loop-low.reader c.loop-low-test.false
