use Rattle.std.proofs.Common.{◌≡◌, ap, subst, ◌+◌, ◌-◌, ◌*◌, ◌^◌, arith}
use Rattle.jk_model.specs.Decisions.{doubled_by}
use Rattle.jk_mqdec.specs.Registers.{IsOutside}
use Rattle.jk_mqdec.specs.Wide.{HoldsWide}
use Rattle.jk_mqdec.proofs.Shifts.{shift_less, shift_grows}
use Rattle.jk_mqdec.proofs.Doubling.{doubled_by-add}
use Rattle.jk_mqdec.proofs.Widening.{stays-below, narrow-width}
use Rattle.jk_mqdec.proofs.wide.refilled.Goals as goal

pub emptied-now-requires-clause-code : goal.emptied-now-requires-clause-code
emptied-now-requires-clause-code c =
    let old = c.args.old in
    let due = c.requires.due in
    let less = shift_less old.code old.width old.count c.requires.code in
    let grows = shift_grows old.width old.count c.args.times (omega (arith, due)) in
    let most = c.requires.width in
    omega (arith, less, grows, most)

pub emptied-now-requires-clause-width : goal.emptied-now-requires-clause-width
emptied-now-requires-clause-width c =
    let old = c.args.old in
    let due = c.requires.due in
    let grows = shift_grows old.width old.count c.args.times (omega (arith, due)) in
    let most = c.requires.width in
    omega (arith, grows, most)

pub returns-then-now-clause-holds : goal.returns-then-now-clause-holds
returns-then-now-clause-holds c = λ s h.
    let below = stays-below c.args.bytes.now c.args.old s h c.requires.code in
    let code = c.emptied-now.ensures.code in
    let width = c.emptied-now.ensures.width in
    let above = c.if-now.true in
    absurd (omega (arith, below, code, width, above))

pub fed_through-requires-clause-least : goal.fed_through-requires-clause-least
fed_through-requires-clause-least c =
    let n = narrow-width c.args.old.width c.args.old.count c.args.times c.requires.due c.requires.few c.requires.least c.requires.width in
    let least = n.0 in
    let width = ap (λ w. w * 2 ^ (c.args.times - c.args.old.count)) c.emptied-now.ensures.width in
    omega (arith, least, width)

pub fed_through-requires-clause-width : goal.fed_through-requires-clause-width
fed_through-requires-clause-width c =
    let n = narrow-width c.args.old.width c.args.old.count c.args.times c.requires.due c.requires.few c.requires.least c.requires.width in
    let most = n.1 in
    let width = ap (λ w. w * 2 ^ (c.args.times - c.args.old.count)) c.emptied-now.ensures.width in
    omega (arith, most, width)

pub returns-in_err-ready-clause-holds : goal.returns-in_err-ready-clause-holds
returns-in_err-ready-clause-holds c = λ s h.
    let bytes = c.args.bytes.now in
    let count = c.args.old.count in
    let rest = c.args.times - count in
    let due = c.requires.due in
    let all = doubled_by-add count rest s in
    let same = ap (λ n. doubled_by n s) (let e : count + rest ≡ c.args.times = omega (arith, due) in e) in
    let left = c.in_err-ready.ensures.holds (doubled_by count s) (c.emptied-now.ensures.holds bytes s h) in
    rw c.from_residual.ensures (subst (λ t. IsOutside bytes t) same (rw all left))

pub returns-clause-holds : goal.returns-clause-holds
returns-clause-holds c = λ s h.
    let bytes = c.args.bytes.now in
    let count = c.args.old.count in
    let rest = c.args.times - count in
    let due = c.requires.due in
    let all = doubled_by-add count rest s in
    let same = ap (λ n. doubled_by n s) (let e : count + rest ≡ c.args.times = omega (arith, due) in e) in
    let narrow = c.in_ok-ready.ensures.holds (doubled_by count s) (c.emptied-now.ensures.holds bytes s h) in
    let wide = c.filled.ensures.holds (doubled_by rest (doubled_by count s)) (c.widened.ensures.holds bytes (doubled_by rest (doubled_by count s)) narrow) in
    subst (λ t. HoldsWide bytes c.filled.result t) same (rw all wide)
