use Rattle.std.proofs.Common.{◌≡◌, ◌∙◌, ap, sym, ◌+◌, ◌-◌, ◌*◌, ◌^◌, ◌<◌, ◌≤◌, arith}
use Rattle.jk_mqdec.proofs.Shifts.{shift_less, shift_grows, shift_twice, half_less}
use Rattle.jk_mqdec.proofs.Doubling.{comes-first, comes-next, comes-last, comes-outside}
use Rattle.jk_mqdec.proofs.registers.fed_through.Goals as goal

pub shifted-now-requires-clause-width : goal.shifted-now-requires-clause-width
shifted-now-requires-clause-width c =
    let due = c.requires.due in
    let most = c.requires.width in
    let g = shift_grows c.args.old.width c.args.old.count c.args.times (omega (arith, due)) in
    omega (arith, g, most)

pub loop-left-init : goal.loop-left-init
loop-left-init c =
    let old = c.args.old in
    let now = c.shifted-now.ensures in
    let due = c.requires.due in
    let all : old.count + (c.args.times - old.count) ≡ c.args.times = omega (arith, due) in
    let code = now.code in
    let width = now.width in
    let count = now.count in
    let less = shift_less old.code old.width old.count c.requires.can.code in
    let place = now.place in
    let within = c.requires.can.place in
    record {
      code = omega (arith, code, width, less);
      width = ap (λ w. w * 2 ^ (c.args.times - old.count)) width ∙ shift_twice old.width old.count (c.args.times - old.count) c.args.times all;
      count = omega (arith, count);
      empty = λ _. omega (arith, count);
      place = omega (arith, place, within);
      comes = λ s h. comes-first _ old _ (c.args.times - old.count) c.args.times s all code width count place h;
    }

pub supplied-requires-clause-small : goal.supplied-requires-clause-small
supplied-requires-clause-small c =
    let width = c.loop-left.invariant.width in
    let most = c.requires.width in
    half_less c.loop-left.now.width c.loop-left.left c.loop-left-test.true (omega (arith, width, most))

pub shifted-now-requires-in-loop-left-clause-width : goal.shifted-now-requires-in-loop-left-clause-width
shifted-now-requires-in-loop-left-clause-width c =
    let width = c.loop-left.invariant.width in
    let most = c.requires.width in
    let next = c.min-next.ensures in
    let same = ap (λ w. w * 2 ^ c.min-next.result) c.in_ok-ready.ensures.width in
    let g = shift_grows c.loop-left.now.width c.min-next.result c.loop-left.left (omega (arith, next)) in
    omega (arith, same, g, width, most)

pub loop-left-preserved : goal.loop-left-preserved
loop-left-preserved c =
    let now = c.loop-left.now in
    let left = c.loop-left.left in
    let ready = c.in_ok-ready.ready in
    let r = c.in_ok-ready.ensures in
    let new = c.shifted-now-in-loop-left.ensures in
    let next = c.min-next.result in
    let next_is = c.min-next.ensures in
    let some : 0 < left = c.loop-left-test.true in
    let filled = r.least_count in
    let few = r.largest_count in
    let all : next + (left - next) ≡ left = omega (arith, next_is) in
    let one : 0 < next = omega (arith, next_is, some, filled) in
    let within : next ≤ ready.count = omega (arith, next_is) in
    let code = new.code in
    let width = new.width in
    let count = new.count in
    let place = new.place in
    let at = r.place in
    let less = shift_less ready.code ready.width next r.code in
    record {
      code = omega (arith, code, width, less);
      width =
          ap (λ w. w * 2 ^ (left - next)) width
          ∙ ap (λ w. w * 2 ^ next * 2 ^ (left - next)) r.width
          ∙ shift_twice now.width next (left - next) left all
          ∙ c.loop-left.invariant.width;
      count = omega (arith, count, one, few);
      empty = λ more. omega (arith, count, more, next_is);
      place = omega (arith, place, at);
      comes = λ s h. comes-next _ now ready _ next left (left - next) c.args.times s all one within code width count place r.holds (c.loop-left.invariant.comes s h);
    }

pub returns-in_err-ready-clause-holds : goal.returns-in_err-ready-clause-holds
returns-in_err-ready-clause-holds c =
    λ s h. rw c.from_residual.ensures (comes-outside _ c.loop-left.now c.loop-left.left c.args.times s c.loop-left-test.true c.in_err-ready.ensures.holds (c.loop-left.invariant.comes s h))

pub returns-clause-ready : goal.returns-clause-ready
returns-clause-ready c =
    let none : c.loop-left.left ≡ 0 = (let t = c.loop-left-test.false in omega (arith, t)) in
    let i = c.loop-left.invariant in
    let width = sym (ap (λ n. c.loop-left.now.width * 2 ^ n) none) ∙ i.width in
    let least = c.requires.least in
    record { code = i.code; least = omega (arith, width, least); count = i.count; place = i.place }

pub returns-clause-holds : goal.returns-clause-holds
returns-clause-holds c =
    λ s h. comes-last _ c.loop-left.now c.loop-left.left c.args.times s (let t = c.loop-left-test.false in omega (arith, t)) (c.loop-left.invariant.comes s h)
