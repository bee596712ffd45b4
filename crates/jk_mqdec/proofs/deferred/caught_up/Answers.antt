use Rattle.std.proofs.Common.{◌≡◌, sym, subst, ◌-◌, ◌*◌, ◌^◌, ◌≤◌, ◌<◌, arith}
use Rattle.std.specs.Int.Count.{count_leading_zeros}
use Rattle.jk_model.specs.Decisions.{renormalised, doubled_by}
use Rattle.jk_mqdec.specs.declared.wide.WideRegisters.{WideRegisters}
use Rattle.jk_mqdec.specs.Registers.{IsOutside}
use Rattle.jk_mqdec.specs.Wide.{HoldsWide}
use Rattle.jk_mqdec.specs.Deferred.{doubled_wide, caught_up}
use Rattle.jk_mqdec.proofs.Widening.{wide-renormalised}
use Rattle.jk_mqdec.proofs.Deferring.{rises, rests, one-due, some-width, held-doubled}
use Rattle.jk_mqdec.proofs.deferred.caught_up.Goals as goal

pub overflow_sub-times : goal.overflow_sub-times
overflow_sub-times c =
    let r = c.args.old.registers in
    let t = rises r.width (some-width r.width c.args.before c.requires.wide) (omega arith) in
    (rests r.width c.args.before (count_leading_zeros 64 r.width) t c.requires.wide c.requires.fits).some

pub refilled-requires-clause-due : goal.refilled-requires-clause-due
refilled-requires-clause-due c =
    let r = c.args.old.registers in
    let t = rises r.width (some-width r.width c.args.before c.requires.wide) (omega arith) in
    let due = one-due r.width (count_leading_zeros 64 r.width) c.args.old.least r.count t c.requires.least c.requires.due in
    let count = c.shifted.ensures.count in
    omega (arith, due, count)

pub refilled-requires-clause-few : goal.refilled-requires-clause-few
refilled-requires-clause-few c =
    let r = c.args.old.registers in
    let t = rises r.width (some-width r.width c.args.before c.requires.wide) (omega arith) in
    (rests r.width c.args.before (count_leading_zeros 64 r.width) t c.requires.wide c.requires.fits).few

pub refilled-requires-clause-least : goal.refilled-requires-clause-least
refilled-requires-clause-least c =
    let r = c.args.old.registers in
    let t = rises r.width (some-width r.width c.args.before c.requires.wide) (omega arith) in
    let rest = rests r.width c.args.before (count_leading_zeros 64 r.width) t c.requires.wide c.requires.fits in
    subst (λ w. 2 ^ 63 ≤ w * 2 ^ (count_leading_zeros 64 r.width - c.args.before)) (sym c.shifted.ensures.width) rest.least

pub refilled-requires-clause-width : goal.refilled-requires-clause-width
refilled-requires-clause-width c =
    let r = c.args.old.registers in
    let t = rises r.width (some-width r.width c.args.before c.requires.wide) (omega arith) in
    let rest = rests r.width c.args.before (count_leading_zeros 64 r.width) t c.requires.wide c.requires.fits in
    subst (λ w. w * 2 ^ (count_leading_zeros 64 r.width - c.args.before) < 2 ^ 64) (sym c.shifted.ensures.width) rest.most

pub returns-in_err-ready-clause-holds : goal.returns-in_err-ready-clause-holds
returns-in_err-ready-clause-holds c = λ s inside h.
    let b = c.args.bytes.now in
    let r = c.args.old.registers in
    let n = c.args.before in
    let m = count_leading_zeros 64 r.width - n in
    let t = rises r.width (some-width r.width n c.requires.wide) (omega arith) in
    let rest = rests r.width n (count_leading_zeros 64 r.width) t c.requires.wide c.requires.fits in
    let now = c.shifted.ensures in
    let same : renormalised 15 s ≡ doubled_by m s = wide-renormalised b (doubled_wide n r) s m h rest.few rest.least rest.most in
    let held = held-doubled b n r c.shifted.result s c.requires.before now.code now.width now.count now.place h in
    rw c.from_residual.ensures (subst (λ u. IsOutside b u) (sym same) (c.in_err-ready.ensures.holds s held))

pub returns-clause-holds : goal.returns-clause-holds
returns-clause-holds c = λ s inside h.
    let b = c.args.bytes.now in
    let r = c.args.old.registers in
    let n = c.args.before in
    let m = count_leading_zeros 64 r.width - n in
    let t = rises r.width (some-width r.width n c.requires.wide) (omega arith) in
    let rest = rests r.width n (count_leading_zeros 64 r.width) t c.requires.wide c.requires.fits in
    let now = c.shifted.ensures in
    let same : renormalised 15 s ≡ doubled_by m s = wide-renormalised b (doubled_wide n r) s m h rest.few rest.least rest.most in
    let held = held-doubled b n r c.shifted.result s c.requires.before now.code now.width now.count now.place h in
    let there : HoldsWide b c.in_ok-ready.ready (renormalised 15 s) = subst (λ u. HoldsWide b c.in_ok-ready.ready u) (sym same) (c.in_ok-ready.ensures.holds s held) in
    subst (λ (x : WideRegisters). HoldsWide b (caught_up x) (renormalised 15 s)) (sym c.deferred.ensures.registers)
    (subst (λ (x : WideRegisters). HoldsWide b x (renormalised 15 s)) (sym c.deferred.ensures.same) there)
