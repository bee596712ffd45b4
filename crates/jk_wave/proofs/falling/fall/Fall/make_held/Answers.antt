use Rattle.std.proofs.Common.{◌≡◌, ℕ, ◌+◌, ◌-◌, ◌≤◌, length, refl, ap, ◌∙◌, arith}
use Rattle.jk_lift.specs.Lifting.{before}
use Rattle.jk_lift.proofs.Laws.{before_first, before_inside, after_inside}
use Rattle.jk_wave.proofs.ColumnRows.{row_like, high_like, vector_row}
use Rattle.jk_wave.specs.falling.Intervals.{last_even}
use Rattle.jk_wave.proofs.falling.fall.Fall.make_held.Goals as goal

pub returns-then-y-area-clause-high : goal.returns-then-y-area-clause-high
returns-then-y-area-clause-high c f fall next =
    let a = c.args.area.now in
    let y : ℕ = c.args.y in
    let odd = c.args.self.now.odd in
    let first : y ≡ a.y0 = c.if-y-area.true in
    let tall : a.y0 + 2 ≤ a.y1 = omega (arith, c.requires.inside, first) in
    let above = ap (before a.y0 a.y1) first ∙ before_first a.y0 a.y1 tall ∙ (let e : a.y0 + 1 ≡ y + 1 = omega (arith, first) in e) in
    let below = after_inside a.y0 a.y1 y tall c.requires.from c.requires.inside in
    let same = vector_row odd c.make_high.new.row (c.make_high.auto.row ∙ ap length c.deref_mut.ensures.value) in
    let here = row_like a f (y + 1 - 1) y odd.items _ (let e : y ≡ y + 1 - 1 = omega arith in e) c.deref_mut.ensures.value (fall.odd (omega arith) (omega (arith, c.requires.odd))) in
    high_like a f y y c.make_high.new.row _ refl same
    (c.make_high.ensures.high f here (row_like a f (y + 1) _ c.args.below.now _ above refl next) (row_like a f (y + 1) _ c.args.below.now _ below refl next))

pub returns-else-y-area-clause-high : goal.returns-else-y-area-clause-high
returns-else-y-area-clause-high c f fall next =
    let a = c.args.area.now in
    let y : ℕ = c.args.y in
    let odd = c.args.self.now.odd in
    let tall : a.y0 + 2 ≤ a.y1 = omega (arith, c.requires.inside, c.requires.from) in
    let above = before_inside a.y0 a.y1 y tall (omega (arith, c.requires.from, c.if-y-area.false)) (omega (arith, c.requires.inside)) ∙ (let e : y - 1 ≡ last_even (y + 1) = omega (arith, c.requires.odd) in e) in
    let below = after_inside a.y0 a.y1 y tall c.requires.from c.requires.inside in
    let row = c.make_high-else-y-area.new.row in
    let same = vector_row odd row (c.make_high-else-y-area.auto.row ∙ ap length c.deref_mut-else-y-area.ensures.value) in
    let here = row_like a f (y + 1 - 1) y odd.items _ (let e : y ≡ y + 1 - 1 = omega arith in e) c.deref_mut-else-y-area.ensures.value (fall.odd (omega (arith, c.requires.from)) (omega (arith, c.requires.odd))) in
    let even = fall.even (omega (arith, c.requires.from)) (omega (arith, c.requires.from, c.if-y-area.false, c.requires.odd)) in
    high_like a f y y row _ refl same
    (c.make_high-else-y-area.ensures.high f here (row_like a f (last_even (y + 1)) _ c.args.self.now.even.items _ above c.deref.ensures.value even) (row_like a f (y + 1) _ c.args.below.now _ below refl next))
