use Rattle.std.proofs.Common.{◌≡◌, ℕ, ◌+◌, ◌-◌, ◌≤◌, length, refl, ap, ◌∙◌, arith}
use Rattle.jk_lift.specs.Lifting.{before}
use Rattle.jk_lift.proofs.Laws.{before_first, before_inside, after_inside}
use Rattle.jk_wave.proofs.ColumnRows.{row_like, high_like, lifted_like, vector_row}
use Rattle.jk_wave.proofs.falling.fall.Fall.make_even.Goals as goal

pub returns-then-y-area-clause-low : goal.returns-then-y-area-clause-low
returns-then-y-area-clause-low c f here high next =
    let a = c.args.area.now in
    let y : ℕ = c.args.y in
    let even = c.args.self.now.even in
    let odd = c.args.self.now.odd in
    let first : y ≡ a.y0 = c.if-y-area.true in
    let tall : a.y0 + 2 ≤ a.y1 = omega (arith, c.requires.inside, first) in
    let above = ap (before a.y0 a.y1) first ∙ before_first a.y0 a.y1 tall ∙ (let e : a.y0 + 1 ≡ y + 1 = omega (arith, first) in e) in
    let below = after_inside a.y0 a.y1 y tall c.requires.from c.requires.inside in
    let same = vector_row even c.make_low.new.row (c.make_low.auto.row ∙ ap length c.deref_mut.ensures.value) in
    lifted_like a f y c.make_low.new.row _ same
    (c.make_low.ensures.low f (row_like a f y y even.items _ refl c.deref_mut.ensures.value here) (high_like a f (y + 1) _ odd.items _ above c.deref.ensures.value next)
    (high_like a f (y + 1) _ odd.items _ below c.deref-then-y-area.ensures.value next))

pub returns-else-y-area-clause-low : goal.returns-else-y-area-clause-low
returns-else-y-area-clause-low c f here high next =
    let a = c.args.area.now in
    let y : ℕ = c.args.y in
    let even = c.args.self.now.even in
    let odd = c.args.self.now.odd in
    let behind : a.y0 + 1 ≤ y = omega (arith, c.requires.from, c.if-y-area.false) in
    let tall : a.y0 + 2 ≤ a.y1 = omega (arith, c.requires.inside, c.requires.from) in
    let above = before_inside a.y0 a.y1 y tall (omega (arith, behind)) (omega (arith, c.requires.inside)) in
    let below = after_inside a.y0 a.y1 y tall c.requires.from c.requires.inside in
    let row = c.make_low-else-y-area.new.row in
    let same = vector_row even row (c.make_low-else-y-area.auto.row ∙ ap length c.deref_mut-else-y-area.ensures.value) in
    lifted_like a f y row _ same
    (c.make_low-else-y-area.ensures.low f (row_like a f y y even.items _ refl c.deref_mut-else-y-area.ensures.value here)
    (high_like a f (y - 1) _ c.args.self.now.high.items _ above c.deref-else-y-area.ensures.value (high (omega (arith, behind))))
    (high_like a f (y + 1) _ odd.items _ below c.deref-else-y-area-2.ensures.value next))
