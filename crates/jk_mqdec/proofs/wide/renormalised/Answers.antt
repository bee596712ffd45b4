use Rattle.std.proofs.Common.{sym, subst, arith}
use Rattle.std.specs.Prelude.{MatchOption}
use Rattle.std.specs.Int.Count.{count_leading_zeros}
use Rattle.jk_mqdec.specs.Registers.{IsOutside}
use Rattle.jk_mqdec.specs.Wide.{HoldsWide}
use Rattle.jk_mqdec.proofs.Shifts.{highest, shift_less}
use Rattle.jk_mqdec.proofs.Widening.{wide-shifted, wide-renormalised}
use Rattle.jk_mqdec.proofs.wide.renormalised.Goals as goal

pub shifted-requires : goal.shifted-requires
shifted-requires c =
    let h = highest c.args.old.width c.requires.wide (omega arith) in
    let few = h.0 in
    record { code = c.requires.code; width = h.2; times = c.if-times-old.true; few = omega (arith, few) }

pub returns-then-times-old-clause-ready : goal.returns-then-times-old-clause-ready
returns-then-times-old-clause-ready c =
    let old = c.args.old in
    let h = highest old.width c.requires.wide (omega arith) in
    let new = c.shifted.ensures in
    let code = new.code in
    let width = new.width in
    let count = new.count in
    let place = new.place in
    let less = shift_less old.code old.width (count_leading_zeros 64 old.width) c.requires.code in
    let least = h.1 in
    let few = c.requires.count in
    let at = c.requires.place in
    record { code = omega (arith, code, width, less); least = omega (arith, width, least); count = omega (arith, count, few); place = omega (arith, place, at) }

pub returns-then-times-old-clause-holds : goal.returns-then-times-old-clause-holds
returns-then-times-old-clause-holds c = λ s k.
    let old = c.args.old in
    let h = highest old.width c.requires.wide (omega arith) in
    let new = c.shifted.ensures in
    subst (λ t. HoldsWide c.args.bytes.now c.shifted.result t) (sym (wide-renormalised c.args.bytes.now old s _ k h.0 h.1 h.2))
    (wide-shifted c.args.bytes.now _ old c.shifted.result s k c.if-times-old.true new.code new.width new.count new.place)

pub refilled-requires : goal.refilled-requires
refilled-requires c =
    let h = highest c.args.old.width c.requires.wide (omega arith) in
    record { code = c.requires.code; place = c.requires.place; due = c.if-times-old.false; few = h.0; least = h.1; width = h.2 }

pub returns-clause-holds : goal.returns-clause-holds
returns-clause-holds c = λ s k.
    let old = c.args.old in
    let h = highest old.width c.requires.wide (omega arith) in
    subst (λ t. MatchOption c.refilled.result (IsOutside c.args.bytes.now t) (λ r. HoldsWide c.args.bytes.now r t)) (sym (wide-renormalised c.args.bytes.now old s _ k h.0 h.1 h.2)) (c.refilled.ensures.holds s k)
